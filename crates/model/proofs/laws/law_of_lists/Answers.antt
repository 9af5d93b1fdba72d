use Rattle.model.proofs.Listed.{force_is_listed, each_is_once}
use Rattle.model.proofs.laws.law_of_lists.Goals as goal

pub returns : goal.returns
returns c = record { in_force = force_is_listed; once = each_is_once }
