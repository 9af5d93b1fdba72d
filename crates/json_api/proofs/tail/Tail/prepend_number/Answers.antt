use Rattle.std.proofs.Common.{◌≤◌, length, decimal, arith}
use Rattle.std.proofs.lemmas.Fmt.{length-decimal-le}
use Rattle.json_api.proofs.tail.Tail.prepend_number.Goals as goal

pub prepend_decimal-requires : goal.prepend_decimal-requires
prepend_decimal-requires g c =
    let short : length (decimal c.args.number) ≤ 20 =
    length-decimal-le 20 c.args.number (omega arith) (omega arith) c.ranges.number.fits in
    omega (arith, c.requires, short)

pub returns-clause-len : goal.returns-clause-len
returns-clause-len g c =
    let short : length (decimal c.args.number) ≤ 20 =
    length-decimal-le 20 c.args.number (omega arith) (omega arith) c.ranges.number.fits in
    omega (arith, c.prepend_decimal.ensures.len, short)
