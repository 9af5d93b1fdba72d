use Rattle.model.proofs.laws.law_of_firings.Goals as goal
use Rattle.model.proofs.Firings.{two_firings}

pub returns : goal.returns
returns c = two_firings
