use Rattle.model.proofs.Queues.{queue_is_what_waits}
use Rattle.model.proofs.laws.law_of_queues.Goals as goal

pub returns : goal.returns
returns c = queue_is_what_waits
