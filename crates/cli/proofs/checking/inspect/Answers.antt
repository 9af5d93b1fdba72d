use Rattle.cli.specs.Faults.{IsOfShowing}
use Rattle.cli.proofs.Endings.{work_ends}
use Rattle.cli.proofs.checking.inspect.Goals as goal

pub returns : goal.returns
returns g c = work_ends IsOfShowing c.over_existing.result (λ refused. tt) c.over_existing.ensures
