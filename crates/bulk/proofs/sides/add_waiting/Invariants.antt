use Rattle.std.proofs.Common.{◌≡◌, drop}
use Rattle.numbers.specs.declared.ported.Subject.{Subject}
use Rattle.bulk.specs.Sides.{sides_at}
use Rattle.bulk.proofs.Sided.{with_waiting}
use Rattle.bulk.proofs.sides.add_waiting.Given as goal

-- Adding the subjects left to the sides so far gives what adding all subjects to the first sides
-- gives.
abbrev pub invariant-loop-subject : goal.invariant-loop-subject
invariant-loop-subject l = (s : Subject)
    → with_waiting (drop l.subject-index l.subjects) s (sides_at l.all s) ≡ with_waiting l.subjects
    s (sides_at l.fn.all s)
