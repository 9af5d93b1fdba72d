use Rattle.std.proofs.Common.{◌≡◌, ◌∙◌, Option, Some, None, IfNone, sym, subst}
use Rattle.numbers.specs.Digits.{IsTn}
use Rattle.numbers.proofs.DigitLemmas.{digits_of-injective}
use Rattle.numbers.proofs.tn.Tn.read.Goals as goal

weaker : {X P Q : Type 0} (o : Option X) → (P → Q) → IfNone o P → IfNone o Q
weaker None f p = f p
weaker (Some x) f p = tt

-- Another number with this text would be the number that was read.
pub returns-clause-none : goal.returns-clause-none
returns-clause-none c = weaker c.new.result (λ other n rule e.
    let read = c.in_ok-read_digits.ensures.some in
    let same : c.in_ok-read_digits.field-0 ≡ n =
    digits_of-injective 10 c.in_ok-read_digits.field-0 n read.0 rule.0 (sym read.1 ∙ e) in
    other (subst IsTn (sym same) rule)) c.new.ensures.none
