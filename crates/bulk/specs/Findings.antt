-- The findings of an audit.
--
-- They compare three sets of subjects: those of the carrier's copy, those in force, and those with
-- downloads pending for the carrier.
use Rattle.std.specs.Prelude.{◌≡◌, ℕ, ◌==◌, ◌&&◌, Bool, true, false, List, [], ◌∷◌, ◌++◌, map, codes, Option, Some, None, if◌then◌else◌}
use Rattle.std.specs.List.{list_any}
use Rattle.numbers.specs.Routings.{Routing}
use Rattle.numbers.specs.Subjects.{Subject, subject_eq}
use Rattle.numbers.specs.Texts.{subject_text}
use Rattle.numbers.specs.Abstraction.{subject_of}
use Rattle.numbers.specs.declared.ported.Subject.{Subject as SubjectImpl}
use Rattle.model.specs.Copies.{copy_of_rows}
use Rattle.model.specs.Laws.{AreSubjectsSorted}
use Rattle.model.specs.Machine.{distinct_subjects}
use Rattle.model.specs.State.{State, Download, InForce, all_in_force, queue}
use Rattle.bulk.specs.declared.finding.Finding.{Finding}
use Rattle.bulk.specs.declared.finding.Finding.TheVariants.{Waiting, Missing, Extra, Different}
use Rattle.bulk.specs.declared.finding.SubjectFinding.{SubjectFinding}

abbrev pub finding_name : Finding → List ℕ
finding_name Waiting = codes "waiting"
finding_name Missing = codes "missing"
finding_name Extra = codes "extra"
finding_name Different = codes "different"

-- ---- the finding on a subject

abbrev pub same_cic : Option ℕ → Option ℕ → Bool
same_cic None None = true
same_cic (Some a) (Some b) = a == b
same_cic None (Some b) = false
same_cic (Some a) None = false

abbrev pub same_routing : Routing → Routing → Bool
same_routing r q = (r.lrn == q.lrn) && same_cic r.cic q.cic

-- The finding on a subject, by whether a download of it is pending, and by its routing in force and
-- in the copy. If these agree, there is no finding.
abbrev pub finding_of : (is_waiting : Bool) → (in_force copied : Option Routing) → Option Finding
finding_of true in_force copied = Some Waiting
finding_of false None None = None
finding_of false None (Some copy) = Some Extra
finding_of false (Some routing) None = Some Missing
finding_of false (Some routing) (Some copy) = if same_routing routing copy then None
    else Some Different

-- The subjects with downloads pending for a carrier.
abbrev pub awaited : State → (carrier : ℕ) → List Subject
awaited st carrier = distinct_subjects (map (λ (d : Download). d.subject) (queue st carrier))

abbrev pub finding_at : State → (carrier : ℕ) → (copy : List InForce) → Subject → Option Finding
finding_at st carrier copy s =
    finding_of (list_any (λ t. subject_eq t s) (awaited st carrier)) (copy_of_rows (all_in_force st)
    s)
    (copy_of_rows copy s)

-- ---- all findings

-- The finding on a subject in a list.
abbrev pub finding_in : List SubjectFinding → Subject → Option Finding
finding_in [] s = None
finding_in (f ∷ fs) s = if subject_eq (subject_of f.subject) s then Some f.finding else finding_in
    fs s

-- Holds if these are the findings on all subjects, ascending, without duplicates, and no others.
pub record AreFindings (st : State) (carrier : ℕ) (copy : List InForce)
    (findings : List SubjectFinding) : Type 0 where
  pub rise : AreSubjectsSorted (map (λ (f : SubjectFinding). subject_of f.subject) findings)
  pub each : (s : SubjectImpl) → finding_in findings (subject_of s) ≡ finding_at st carrier copy
      (subject_of s)

-- ---- the file of the findings

unfoldable pub audit_header : List ℕ
audit_header = codes "subject,finding\n"

abbrev pub finding_line : SubjectFinding → List ℕ
finding_line f = subject_text (subject_of f.subject) ++ 44 ∷ (finding_name f.finding ++ 10 ∷ [])
