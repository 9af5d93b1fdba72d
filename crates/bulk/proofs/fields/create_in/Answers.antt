use Rattle.bulk.specs.Fields.{last_fields}
use Rattle.bulk.proofs.FieldLemmas.{if_none}
use Rattle.bulk.proofs.Wishes.{no_new_provider}
use Rattle.bulk.proofs.fields.create_in.Goals as goal

pub returns-in_err-spid_in-2-clause-none : goal.returns-in_err-spid_in-2-clause-none
returns-in_err-spid_in-2-clause-none c =
    if_none c.from_residual-in_err-spid_in-2.result
    (no_new_provider _ _ _ (last_fields c.args.fields.now) c.args.creator
    c.in_err-spid_in-2.ensures.none)
