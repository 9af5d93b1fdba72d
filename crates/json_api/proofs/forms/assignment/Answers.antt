use Rattle.json_api.proofs.FormLemmas.{on_none, no_assignment}
use Rattle.json_api.proofs.forms.assignment.Goals as goal

pub returns-in_err-routing_at-clause-none : goal.returns-in_err-routing_at-clause-none
returns-in_err-routing_at-clause-none g c =
    on_none _ (no_assignment _ c.in_err-routing_at.ensures.none)
