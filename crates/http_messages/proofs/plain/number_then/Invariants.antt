use Rattle.std.proofs.Common.{◌-◌, ◌≤◌}
use Rattle.http_messages.proofs.NumberLemmas.{IsSoFar}
use Rattle.http_messages.proofs.plain.number_then.Given as goal

abbrev pub invariant-digits : goal.invariant-digits
invariant-digits l = (l.at ≤ l.most) × IsSoFar l.bytes l.at l.n

abbrev pub decreases-digits : goal.decreases-digits
decreases-digits l = l.most - l.at
