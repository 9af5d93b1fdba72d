use Rattle.telnp.proofs.FaultOrder.{faults_in_order}
use Rattle.telnp.proofs.uri.faults_are_in_order.Goals as goal

pub returns : goal.returns
returns c = faults_in_order
