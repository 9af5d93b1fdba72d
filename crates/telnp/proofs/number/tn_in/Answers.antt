use Rattle.std.proofs.Common.{◌≡◌, ◌∙◌, ◌∷◌, ap, length, arith}
use Rattle.numbers.proofs.DigitLemmas.{length-digits_of}
use Rattle.numbers.specs.Texts.{tn_text}
use Rattle.telnp.proofs.number.tn_in.Goals as goal

-- The country code and the digits of a telephone number are eleven digits.
pub returns-in_default-clause-none : goal.returns-in_default-clause-none
returns-in_default-clause-none c = λ n rule e.
    let ten : length (tn_text n) ≡ 10 = length-digits_of 10 n in
    let eleven : length (49 ∷ tn_text n) ≡ 11 = omega arith in
    c.in_default.ensures.none (ap length e ∙ eleven)
