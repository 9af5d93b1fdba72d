use Rattle.json_api.proofs.FormLemmas.{no_donation}
use Rattle.json_api.proofs.forms.donation.Goals as goal

pub returns-in_default-routing_at-clause-none : goal.returns-in_default-routing_at-clause-none
returns-in_default-routing_at-clause-none g c = no_donation _ c.in_default-routing_at.ensures.none
