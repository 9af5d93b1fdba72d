use Rattle.std.proofs.Common.{refl}
use Rattle.numbers.proofs.PairLemmas.{pair_at}
use Rattle.numbers.proofs.digits.pair.Goals as goal

pub returns : goal.returns
returns c =
    let p = pair_at c.args.number c.requires in
    rw (p.0, p.1) refl
