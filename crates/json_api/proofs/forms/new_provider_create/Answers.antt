use Rattle.json_api.proofs.FormLemmas.{on_none, no_new_create, no_routing}
use Rattle.json_api.proofs.forms.new_provider_create.Goals as goal

pub returns-in_err-routing-clause-none : goal.returns-in_err-routing-clause-none
returns-in_err-routing-clause-none g c = on_none _ (no_routing _ c.in_err-routing.ensures.none)

pub returns-in_err-create_by-clause-none : goal.returns-in_err-create_by-clause-none
returns-in_err-create_by-clause-none g c =
    on_none _ (no_new_create _ c.in_err-create_by.ensures.none)
