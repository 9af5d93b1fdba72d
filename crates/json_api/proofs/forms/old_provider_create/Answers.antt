use Rattle.json_api.proofs.FormLemmas.{on_none, no_old_create}
use Rattle.json_api.proofs.forms.old_provider_create.Goals as goal

pub returns-in_err-create_by-clause-none : goal.returns-in_err-create_by-clause-none
returns-in_err-create_by-clause-none g c =
    on_none _ (no_old_create _ c.in_err-create_by.ensures.none)
