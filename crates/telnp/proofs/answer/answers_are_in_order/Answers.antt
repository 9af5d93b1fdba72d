use Rattle.telnp.proofs.Sorted.{answers_in_order}
use Rattle.telnp.proofs.answer.answers_are_in_order.Goals as goal

pub returns : goal.returns
returns c = answers_in_order
