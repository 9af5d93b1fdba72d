-- The comparison of a copy with the register's side.
use Rattle.std.specs.Prelude.{◌≡◌, ℕ, List, ◌∷◌, map}
use Rattle.std.specs.List.{list_any}
use Rattle.numbers.specs.Subjects.{subject_eq}
use Rattle.numbers.specs.Abstraction.{subject_of}
use Rattle.numbers.specs.declared.ported.Subject.{Subject}
use Rattle.delivery.specs.Mirrors.{in_force_of}
use Rattle.delivery.specs.declared.mirror.RoutedRow.{RoutedRow}
use Rattle.model.specs.Copies.{copy_of_rows}
use Rattle.model.specs.Laws.{AreSubjectsSorted}
use Rattle.bulk.specs.Audits.{HasBadHeader, HasBadRows, IsCopy, copy_header}
use Rattle.bulk.specs.Findings.{finding_of, finding_in}
use Rattle.bulk.specs.Rows.{Row, AreRowsOf}
use Rattle.bulk.specs.declared.fault.FaultKind.{FaultKind}
use Rattle.bulk.specs.declared.fault.FaultKind.TheVariants.{BadHeader, BadFile, UnknownCarrier, Storage, NoMemory, Read, Write}
use Rattle.bulk.specs.declared.finding.SubjectFinding.{SubjectFinding}

-- Holds if the findings are those on all subjects, ascending, without duplicates: by the rows in
-- force, the subjects with pending downloads and the entries of the copy.
pub record AreCompared (in_force : List RoutedRow) (waiting : List Subject)
    (entries : List RoutedRow) (findings : List SubjectFinding) : Type 0 where
  pub rise : AreSubjectsSorted (map (λ (f : SubjectFinding). subject_of f.subject) findings)
  pub each : (s : Subject) → finding_in findings (subject_of s)
      ≡ finding_of (list_any (λ t. subject_eq t (subject_of s)) (map subject_of waiting))
      (copy_of_rows (map in_force_of in_force) (subject_of s))
      (copy_of_rows (map in_force_of entries)
      (subject_of s))

-- Holds if the bytes are a copy, and these are the findings on it.
pub record ComparesFile (in_force : List RoutedRow) (waiting : List Subject) (bytes : List ℕ)
    (findings : List SubjectFinding) : Type 0 where
  pub rows : List Row
  pub entries : List RoutedRow
  pub file : AreRowsOf bytes (copy_header ∷ rows)
  pub copy : IsCopy rows entries
  pub compared : AreCompared in_force waiting entries findings

-- Holds if this fault is the reason why there was no comparison.
abbrev pub IsNotCompared : FaultKind → (bytes : List ℕ) → Type 0
IsNotCompared BadHeader bytes = HasBadHeader bytes
IsNotCompared BadFile bytes = HasBadRows bytes
IsNotCompared NoMemory bytes = Unit {0}
IsNotCompared Read bytes = Unit {0}
IsNotCompared UnknownCarrier bytes = ⊥
IsNotCompared Storage bytes = ⊥
IsNotCompared Write bytes = ⊥
