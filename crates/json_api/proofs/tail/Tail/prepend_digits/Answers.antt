use Rattle.std.proofs.Common.{length, ap, arith, ◌∙◌, rules}
use Rattle.numbers.proofs.DigitLemmas.{length-digits_of, utf8_digits}
use Rattle.json_api.proofs.tail.Tail.prepend_digits.Goals as goal

pub prepend_bytes-requires : goal.prepend_bytes-requires
prepend_bytes-requires g c =
    let size = ap length c.last_digits.ensures ∙ length-digits_of g.row.W c.args.number in (
      omega (arith, c.requires.width),
      (
        omega (arith, c.requires.fits, size),
        utf8_digits c.last_digits.result g.row.W c.args.number c.last_digits.ensures,
      ),
    )

pub returns-clause-text : goal.returns-clause-text
returns-clause-text g c = search rules

pub returns-clause-len : goal.returns-clause-len
returns-clause-len g c =
    let size = ap length c.last_digits.ensures ∙ length-digits_of g.row.W c.args.number in
    omega (arith, c.prepend_bytes.ensures.len, size)
