use Rattle.http_messages.proofs.NumberLemmas.{IsSoFar}
use Rattle.http_messages.proofs.head.read_number.Given as goal

abbrev pub invariant-loop-b : goal.invariant-loop-b
invariant-loop-b l = IsSoFar l.value l.b-index l.n
