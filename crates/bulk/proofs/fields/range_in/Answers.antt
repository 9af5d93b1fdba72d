use Rattle.numbers.specs.Texts.{tn_text}
use Rattle.numbers.proofs.DigitLemmas.{length-digits_of}
use Rattle.bulk.proofs.FieldLemmas.{if_none, if_none_of, same_range, same_tn, are_numbers}
use Rattle.bulk.proofs.fields.range_in.Goals as goal

pub returns-in_err-first-clause-none : goal.returns-in_err-first-clause-none
returns-in_err-first-clause-none c = if_none c.from_residual.result (λ numbers e.
    c.in_err-first.ensures.none (tn_text numbers.first.number) (tn_text numbers.last.number)
    (length-digits_of 10 numbers.first.number) e)

pub returns-in_err-tn_in-clause-none : goal.returns-in_err-tn_in-clause-none
returns-in_err-tn_in-clause-none c = if_none c.from_residual-in_err-tn_in.result (λ numbers e.
    let parts = c.in_ok-first.ensures.some in
    let same = same_range c.args.field.now _ _ numbers.first.number numbers.last.number parts.0
    parts.1
    e in
    c.in_err-tn_in.ensures.none numbers.first.number numbers.first.valid same.0)

pub returns-in_err-tn_in-2-clause-none : goal.returns-in_err-tn_in-2-clause-none
returns-in_err-tn_in-2-clause-none c = if_none c.from_residual-in_err-tn_in-2.result (λ numbers e.
    let parts = c.in_ok-first.ensures.some in
    let same = same_range c.args.field.now _ _ numbers.first.number numbers.last.number parts.0
    parts.1
    e in
    c.in_err-tn_in-2.ensures.none numbers.last.number numbers.last.valid same.1)

-- Any range of this text has the numbers that were read.
pub returns-clause-none : goal.returns-clause-none
returns-clause-none c = if_none_of c.new.result (λ other numbers e.
    let parts = c.in_ok-first.ensures.some in
    let same = same_range c.args.field.now _ _ numbers.first.number numbers.last.number parts.0
    parts.1
    e in
    let first =
    same_tn _ _ _ c.in_ok-tn_in.field-0.valid numbers.first.valid c.in_ok-tn_in.ensures.some
    same.0 in
    let last = same_tn _ _ _ c.in_ok-tn_in-2.field-0.valid numbers.last.valid
    c.in_ok-tn_in-2.ensures.some same.1 in
    other (are_numbers _ _ _ _ first last numbers.valid)) c.new.ensures.none
