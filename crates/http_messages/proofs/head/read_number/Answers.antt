use Rattle.std.proofs.Common.{◌+◌, ◌*◌, ◌<◌, ◌^◌, get_or, arith, sym, ◌∙◌}
use Rattle.http_messages.proofs.NumberLemmas.{none_number, not_digits, so_far_more, fits, digit_is}
use Rattle.http_messages.proofs.head.read_number.Goals as goal

pub returns-then-not-is_ascii_digit : goal.returns-then-not-is_ascii_digit
returns-then-not-is_ascii_digit c =
    none_number c.args.value.now (not_digits c.args.value.now c.loop-b.b-index c.loop-b-test.true
    (sym c.is_ascii_digit.ensures.value ∙ c.if-not-is_ascii_digit.true))

pub overflow_mul-n : goal.overflow_mul-n
overflow_mul-n c = let f : c.loop-b.n * 10 + 0 < 2 ^ 64 =
    fits c.loop-b.b-index c.loop-b.n 0 (omega arith) c.loop-b.invariant.small (omega arith) in
    omega (arith, f)

pub overflow_add-n : goal.overflow_add-n
overflow_add-n c =
    let is = digit_is (get_or c.args.value.now c.loop-b.b-index 0)
    (sym c.is_ascii_digit.ensures.value ∙ c.if-not-is_ascii_digit.false) in
    let f : c.loop-b.n * 10 + c.from.result < 2 ^ 64 =
    fits c.loop-b.b-index c.loop-b.n c.from.result (omega arith) c.loop-b.invariant.small
    (omega (arith, is.0, is.1, c.from.ensures)) in
    omega (arith, f)

pub loop-b-preserved : goal.loop-b-preserved
loop-b-preserved c =
    rw c.from.ensures (so_far_more c.args.value.now c.loop-b.b-index c.loop-b.n c.loop-b-test.true
    (sym c.is_ascii_digit.ensures.value ∙ c.if-not-is_ascii_digit.false) c.loop-b.invariant)
