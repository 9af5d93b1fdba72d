use Rattle.std.proofs.Common.{◌≡◌, ◌∙◌, sym, arith}
use Rattle.numbers.proofs.DigitLemmas.{digits_of-injective}
use Rattle.numbers.proofs.code_id.CodeId.read.Goals as goal
use Rattle.numbers.proofs.code_id.CodeId.read.Goals.{else-number-ge2-via-then-number-ge2+else-number-ge2-2, else-number-ge2-via-else-number-ge2}

-- Another code with this text would be the number that was read.
pub returns-else-number-ge2-clause-none : goal.returns-else-number-ge2-clause-none
returns-else-number-ge2-clause-none c = λ n rule e.
    let read = c.in_ok-number.ensures.some in
    let same : c.in_ok-number.number ≡ n =
    digits_of-injective 6 c.in_ok-number.number n read.0 rule.0 (sym read.1 ∙ e) in
    elim c.else-number-ge2.branch [
      | else-number-ge2-via-then-number-ge2+else-number-ge2-2 w ↦ omega
          arith
      | else-number-ge2-via-else-number-ge2 w ↦ omega arith
    ]
