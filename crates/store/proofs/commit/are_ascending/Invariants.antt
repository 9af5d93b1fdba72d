use Rattle.std.proofs.Common.{◌<◌, ◌-◌, length}
use Rattle.std.specs.List.{AllAdjacentBelow}
use Rattle.store.proofs.commit.are_ascending.Given as goal

-- Each id so far is below the next.
abbrev pub invariant-loop-at : goal.invariant-loop-at
invariant-loop-at l = (0 < l.at) × AllAdjacentBelow (λ x y. x.0 < y.0) l.versions l.at

abbrev pub decreases-loop-at : goal.decreases-loop-at
decreases-loop-at l = length l.versions - l.at
