use Rattle.model.proofs.Copies.Law.{copy_is_published}
use Rattle.model.proofs.Copies.InForce.{copy_is_in_force}
use Rattle.model.proofs.Copies.Handed.{copy_is_handed}
use Rattle.model.proofs.laws.law_of_copies.Goals as goal

pub returns : goal.returns
returns c = record {
  published = copy_is_published;
  in_force = copy_is_in_force;
  handed = copy_is_handed;
}
