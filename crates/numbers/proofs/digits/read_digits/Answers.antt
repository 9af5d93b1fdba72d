use Rattle.std.proofs.Common.{◌≤◌, ◌∙◌, refl, ap, length, get_or, arith}
use Rattle.std.proofs.lemmas.Grind.{common_steps}
use Rattle.numbers.specs.Texts.{digits_of}
use Rattle.numbers.proofs.DigitLemmas.{length-digits_of, digit_at, digits_of-more, below_more, pow_small}
use Rattle.numbers.proofs.digits.read_digits.Goals as goal

pub returns-then-text-width-clause-none : goal.returns-then-text-width-clause-none
returns-then-text-width-clause-none c =
    λ n e. c.if-text-width.true (ap length e ∙ length-digits_of c.args.width n)

pub loop-byte-init : goal.loop-byte-init
unfolding digits_of
loop-byte-init c = (omega arith, refl)

pub returns-then-not-is_ascii_digit-clause-none : goal.returns-then-not-is_ascii_digit-clause-none
returns-then-not-is_ascii_digit-clause-none c = λ n e.
    let h = digit_at c.as_bytes-byte-items.result.now c.args.width n c.loop-byte.byte-index
    (c.as_bytes-byte-items.ensures.value ∙ e) c.loop-byte-test.true in
    grind (arith, common_steps)

pub overflow_mul-number : goal.overflow_mul-number
overflow_mul-number c =
    let h : c.loop-byte.byte-index ≤ 18 =
    omega (arith, ap length c.as_bytes-byte-items.ensures.value) in
    omega (arith, pow_small c.loop-byte.byte-index h)

pub overflow_add-number : goal.overflow_add-number
overflow_add-number c =
    let h : c.loop-byte.byte-index ≤ 18 =
    omega (arith, ap length c.as_bytes-byte-items.ensures.value) in
    omega (arith, pow_small c.loop-byte.byte-index h)

pub loop-byte-preserved : goal.loop-byte-preserved
loop-byte-preserved c =
    let digit : (48 ≤ get_or c.as_bytes-byte-items.result.now c.loop-byte.byte-index 0)
    × (get_or c.as_bytes-byte-items.result.now c.loop-byte.byte-index 0 ≤ 57) =
    grind (arith, common_steps) in
    rw c.from.ensures (
      below_more c.loop-byte.byte-index c.loop-byte.number _ c.loop-byte.invariant.0 (omega arith),
      digits_of-more c.as_bytes-byte-items.result.now c.loop-byte.byte-index c.loop-byte.number
          c.loop-byte-test.true digit.0 digit.1 c.loop-byte.invariant.1,
    )
