use Rattle.model.proofs.OwnTests.{refused_by_own_tests, least_is_met}
use Rattle.model.proofs.laws.law_of_refusals.Goals as goal

pub returns : goal.returns
returns c = record { own = refused_by_own_tests; least = least_is_met }
