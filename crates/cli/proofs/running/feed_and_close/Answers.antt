use Rattle.std.proofs.lemmas.Result.{IfErr-weaker}
use Rattle.cli.specs.Faults.{IsOfFeeding, IsOfOpening}
use Rattle.cli.proofs.Endings.{by_opening}
use Rattle.cli.proofs.running.feed_and_close.Goals as goal

pub returns : goal.returns
returns g c =
    IfErr-weaker c.close-closed.result IsOfOpening IsOfFeeding
    (by_opening IsOfFeeding (λ refused. tt)) c.close-closed.ensures
