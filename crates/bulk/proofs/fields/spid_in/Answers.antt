use Rattle.bulk.proofs.FieldLemmas.{if_none, is_text_spid}
use Rattle.bulk.proofs.fields.spid_in.Goals as goal

pub returns-in_err-text_in-clause-none : goal.returns-in_err-text_in-clause-none
returns-in_err-text_in-clause-none c =
    if_none c.from_residual.result (λ n valid e. c.in_err-text_in.ensures.none
    (is_text_spid c.args.field.now n valid e))
