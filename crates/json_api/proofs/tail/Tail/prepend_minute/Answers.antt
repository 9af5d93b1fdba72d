use Rattle.std.proofs.Common.{arith}
use Rattle.json_api.proofs.TailLemmas.{length-minute}
use Rattle.json_api.proofs.tail.Tail.prepend_minute.Goals as goal

pub prepend_decimal-requires : goal.prepend_decimal-requires
prepend_decimal-requires g c =
    omega (arith, c.requires, length-minute c.args.minute.number c.args.minute.valid)

pub returns-clause-len : goal.returns-clause-len
returns-clause-len g c =
    let short = length-minute c.args.minute.number c.args.minute.valid in
    omega (arith, c.prepend_decimal.ensures.len, short)
