use Rattle.model.proofs.Orderly.{no_two_active}
use Rattle.model.proofs.laws.law_of_service.Goals as goal

pub returns : goal.returns
returns c = no_two_active
