use Rattle.std.proofs.Common.{◌≡◌, ◌∙◌, length, ap, arith}
use Rattle.numbers.proofs.DigitLemmas.{length-digits_of, utf8_digits}
use Rattle.numbers.proofs.digits.write_digits.Goals as goal

pub last_digits-requires : goal.last_digits-requires
last_digits-requires g c = omega (arith, c.requires)

pub shared_whole_as_slice-write_bytes : goal.shared_whole_as_slice-write_bytes
shared_whole_as_slice-write_bytes g c = omega (arith, c.requires)

pub write_bytes-requires : goal.write_bytes-requires
write_bytes-requires g c =
    utf8_digits c.last_digits.result g.row.N c.args.number c.last_digits.ensures

pub returns-clause-len : goal.returns-clause-len
returns-clause-len g c =
    let n : length c.last_digits.result ≡ g.row.N =
    ap length c.last_digits.ensures ∙ length-digits_of g.row.N c.args.number in
    omega (arith, c.write_bytes.ensures.len, n)

pub returns-clause-succeeds : goal.returns-clause-succeeds
returns-clause-succeeds g c room =
    let n : length c.last_digits.result ≡ g.row.N =
    ap length c.last_digits.ensures ∙ length-digits_of g.row.N c.args.number in
    c.write_bytes.ensures.succeeds (omega (arith, n, room))
