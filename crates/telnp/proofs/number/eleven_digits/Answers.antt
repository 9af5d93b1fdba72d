use Rattle.std.proofs.Common.{◌∙◌, sym, length-set, arith}
use Rattle.telnp.proofs.Digits.{too_many, one_more, none_more, all_digits}
use Rattle.telnp.proofs.number.eleven_digits.Goals as goal
use Rattle.telnp.proofs.number.eleven_digits.Goals.{then-is_digit+else-count-eq11, else-is_digit}

pub returns-then-count-eq11-clause-none : goal.returns-then-count-eq11-clause-none
returns-then-count-eq11-clause-none c =
    too_many c.args.number.now c.loop-byte.digits c.loop-byte.byte-index c.loop-byte.count
    c.loop-byte-test.true
    (sym c.if-is_digit.true ∙ c.is_digit.ensures) c.loop-byte.invariant.found c.if-count-eq11.true
    c.loop-byte.invariant.long

pub loop-byte-preserved : goal.loop-byte-preserved
loop-byte-preserved c =
    let old = c.loop-byte.invariant in
    elim c.if-is_digit.branch [
      | then-is_digit+else-count-eq11 w ↦ record {
        found = rw (w.digits-is, w.count-is) (one_more c.args.number.now c.loop-byte.digits
            c.loop-byte.byte-index c.loop-byte.count
            c.loop-byte-test.true (sym w.if-is_digit.true ∙ c.is_digit.ensures) old.found
            (omega arith));
        within = omega arith;
        long = rw (w.digits-is) (length-set c.loop-byte.digits c.loop-byte.count _ ∙ old.long);
      }
      | else-is_digit w ↦ record {
        found = rw (w.digits-is, w.count-is) (none_more c.args.number.now c.loop-byte.digits
            c.loop-byte.byte-index c.loop-byte.count
            c.loop-byte-test.true (sym w.if-is_digit.false ∙ c.is_digit.ensures) old.found);
        within = omega arith;
        long = rw (w.digits-is) old.long;
      }
    ]

pub returns-then-count-eq11-2-clause-some : goal.returns-then-count-eq11-2-clause-some
returns-then-count-eq11-2-clause-some c =
    all_digits c.args.number.now c.loop-byte.digits c.loop-byte.byte-index c.loop-byte.count
    c.loop-byte-test.false
    c.loop-byte.invariant.found c.if-count-eq11-2.true c.loop-byte.invariant.long
