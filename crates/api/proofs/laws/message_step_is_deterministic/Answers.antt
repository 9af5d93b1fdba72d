use Rattle.api.proofs.OnceLemmas.{steps_once}
use Rattle.api.proofs.laws.message_step_is_deterministic.Goals as goal

pub returns : goal.returns
returns c = steps_once
