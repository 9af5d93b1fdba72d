use Rattle.std.proofs.Common.{◌≡◌, map, drop}
use Rattle.std.specs.Prelude.{fold, if◌then◌else◌}
use Rattle.numbers.specs.Subjects.{subject_eq}
use Rattle.numbers.specs.Abstraction.{subject_of}
use Rattle.numbers.specs.declared.ported.Subject.{Subject}
use Rattle.model.specs.State.{InForce}
use Rattle.model.specs.Copies.{copy_of_rows}
use Rattle.delivery.specs.Mirrors.{routing_in_copy, in_force_of}
use Rattle.delivery.proofs.mirror.routings_of.Given as goal

-- Inserting the remaining rows into the map gives the copy of all rows.
abbrev pub invariant-loop-row : goal.invariant-loop-row
invariant-loop-row l =
    (s : Subject) → fold (λ before (r : InForce). if subject_eq r.subject (subject_of s)
    then r.routing else before) (routing_in_copy l.routings s)
    (map in_force_of (drop l.row-index l.rows))
    ≡ copy_of_rows (map in_force_of l.fn.rows) (subject_of s)
