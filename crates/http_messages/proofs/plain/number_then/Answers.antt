use Rattle.std.proofs.Common.{◌++◌, take, sym, ap, ◌∙◌, arith}
use Rattle.std.proofs.lemmas.List.{take-append-drop}
use Rattle.http_messages.proofs.NumberLemmas.{number_so_far, so_far_more}
use Rattle.http_messages.proofs.PlainLemmas.{all_left}
use Rattle.http_messages.proofs.plain.number_then.Goals as goal

pub digits-preserved : goal.digits-preserved
digits-preserved c = (
  omega (arith, c.digits-test.true),
  rw c.from.ensures (so_far_more c.args.bytes.now c.digits.at c.digits.n
      (omega (arith, c.digits-test.true, c.min-most.ensures))
      (sym c.is_ascii_digit.ensures.value ∙ c.if-not-is_ascii_digit.false) c.digits.invariant.1),
)

pub returns : goal.returns
returns c =
    let bytes = c.args.bytes.now in
    let at = c.digits.at in
    record {
      digits = take at bytes;
      all = sym (take-append-drop at bytes)
          ∙ ap (λ t. take at bytes ++ t) (sym (all_left at bytes));
      number = number_so_far bytes at c.digits.n (omega (arith, c.if-at-eq0.false))
          (omega (arith, c.digits.invariant.0, c.min-most.ensures))
          (omega (arith, c.digits.invariant.0, c.min-most.ensures)) c.digits.invariant.1;
    }
