-- The three sides of an audit for each subject, and the finding by them.
use Rattle.std.specs.Prelude.{Bool, true, false, List, [], ◌∷◌, Option, Some, None, option_map, unwrap_or, if◌then◌else◌}
use Rattle.std.specs.BTreeMap.{BTreeMap, get}
use Rattle.std.specs.Ordering.{nat_cmp, on}
use Rattle.numbers.specs.Subjects.{subject_eq}
use Rattle.numbers.specs.Abstraction.{key_of, routing_of, subject_of}
use Rattle.numbers.specs.declared.ported.Routing.{Routing}
use Rattle.numbers.specs.declared.ported.Subject.{Subject}
use Rattle.delivery.specs.declared.mirror.RoutedRow.{RoutedRow}
use Rattle.bulk.specs.Findings.{finding_of}
use Rattle.bulk.specs.declared.finding.Finding.{Finding}
use Rattle.bulk.specs.declared.finding.SubjectFinding.{SubjectFinding}
use Rattle.bulk.specs.declared.sides.Sides.{Sides}

abbrev pub no_sides : Sides
no_sides = record { in_force = None; copied = None; is_waiting = false }

abbrev pub sides_at : BTreeMap Subject Sides → Subject → Sides
sides_at all s = unwrap_or (get (on key_of nat_cmp) all s) no_sides

-- The routing of a subject in these rows, the last one counting, or else the one before.
abbrev pub routed_after : List RoutedRow → Subject → Option Routing → Option Routing
routed_after [] s before = before
routed_after (r ∷ rs) s before =
    routed_after rs s (if subject_eq (subject_of r.subject) (subject_of s) then Some r.routing
    else before)

-- Whether a subject is among these, or had a pending download before.
abbrev pub waiting_after : List Subject → Subject → Bool → Bool
waiting_after [] s before = before
waiting_after (t ∷ ts) s before = waiting_after ts s (if subject_eq (subject_of t) (subject_of s)
    then true else before)

-- The finding on a subject by its sides.
abbrev pub found_of : Sides → Option Finding
found_of sides =
    finding_of sides.is_waiting (option_map routing_of sides.in_force)
    (option_map routing_of sides.copied)

abbrev pub with_found : Subject → Option Finding → List SubjectFinding → List SubjectFinding
with_found s None findings = findings
with_found s (Some finding) findings = record { subject = s; finding = finding } ∷ findings

-- The findings on these subjects.
abbrev pub found_in : List (Subject × Sides) → List SubjectFinding
found_in [] = []
found_in (e ∷ es) = with_found e.0 (found_of e.1) (found_in es)
