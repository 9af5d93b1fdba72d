use Rattle.model.proofs.Answered.{version_is_shown}
use Rattle.model.proofs.laws.law_of_answers.Goals as goal

pub returns : goal.returns
returns c = version_is_shown
