use Rattle.std.proofs.Common.{◌≡◌, drop}
use Rattle.numbers.specs.declared.ported.Subject.{Subject}
use Rattle.bulk.specs.Sides.{sides_at}
use Rattle.bulk.proofs.Sided.{with_in_force}
use Rattle.bulk.proofs.sides.add_in_force.Given as goal

-- Adding the rows left to the sides so far gives what adding all rows to the first sides gives.
abbrev pub invariant-loop-row : goal.invariant-loop-row
invariant-loop-row l = (s : Subject) → with_in_force (drop l.row-index l.rows) s (sides_at l.all s)
    ≡ with_in_force l.rows s (sides_at l.fn.all s)
