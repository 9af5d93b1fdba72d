use Rattle.std.proofs.Common.{ap}
use Rattle.numbers.specs.declared.minute.Minute.{Minute}
use Rattle.store.specs.About.{key_in}
use Rattle.store.proofs.AboutListed.{same_minute}
use Rattle.store.proofs.about.key_with.Goals as goal

pub returns : goal.returns
returns c =
    let own = key_in c.args.minute c.args.id c.args.attempt in
    ap (λ (m : Minute). record own { minute = m })
    (same_minute c.minute.result own.minute c.minute.ensures)
