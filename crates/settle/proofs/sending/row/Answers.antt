use Rattle.std.proofs.Common.{[], ap}
use Rattle.settle.proofs.sending.row.Goals as goal

pub returns : goal.returns
returns c = ap (λ row. (c.args.id, row)) (c.of.ensures 0 [])
