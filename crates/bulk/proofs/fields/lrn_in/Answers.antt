use Rattle.bulk.proofs.FieldLemmas.{if_none}
use Rattle.numbers.proofs.DigitLemmas.{utf8_digits}
use Rattle.bulk.proofs.fields.lrn_in.Goals as goal

pub returns-in_err-text_in-clause-none : goal.returns-in_err-text_in-clause-none
returns-in_err-text_in-clause-none c =
    if_none c.from_residual.result (λ n valid e. c.in_err-text_in.ensures.none
    (utf8_digits c.args.field.now 10 n e))
