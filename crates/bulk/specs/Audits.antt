-- The audit of a copy, which is a file in the format of an export.
use Rattle.std.specs.Prelude.{◌≡◌, ◌≢◌, ◌⊎◌, ℕ, true, false, List, [], ◌∷◌, length, map, codes, ⊤, Option, Result, Ok, Err}
use Rattle.std.specs.List.{list_any}
use Rattle.std.specs.Io.KnownBytes.{Appends}
use Rattle.numbers.specs.Subjects.{Subject, subject_eq}
use Rattle.numbers.specs.Texts.{subject_text, lrn_text}
use Rattle.numbers.specs.Abstraction.{subject_of}
use Rattle.delivery.specs.Mirrors.{in_force_of}
use Rattle.delivery.specs.declared.mirror.RoutedRow.{RoutedRow}
use Rattle.model.specs.State.{State, is_carrier}
use Rattle.bulk.specs.Files.{EndsWithin, file_text}
use Rattle.bulk.specs.Findings.{AreFindings, audit_header, finding_line}
use Rattle.bulk.specs.Requests.{optional_cic}
use Rattle.bulk.specs.Rows.{Row, AreRowsOf}
use Rattle.bulk.specs.declared.fault.BulkFault.{BulkFault}
use Rattle.bulk.specs.declared.fault.FaultKind.{FaultKind}
use Rattle.bulk.specs.declared.fault.FaultKind.TheVariants.{BadHeader, BadFile, UnknownCarrier, Storage, NoMemory, Read, Write}
use Rattle.bulk.specs.declared.finding.SubjectFinding.{SubjectFinding}

-- ---- a copy

-- The first row of a copy.
unfoldable pub copy_header : Row
copy_header = codes "subject" ∷ codes "lrn" ∷ codes "cic" ∷ []

-- Holds if the row encodes this entry: a subject with its routing.
abbrev pub IsEntry : Row → RoutedRow → Type 0
IsEntry row entry =
    row ≡ subject_text (subject_of entry.subject) ∷ lrn_text entry.routing.lrn.number ∷ optional_cic
    entry.routing.cic ∷ []

-- Holds if the row encodes no entry.
abbrev pub IsNoEntry : Row → Type 0
IsNoEntry row = (entry : RoutedRow) → ¬ (IsEntry row entry)

-- Holds if the rows encode these entries, in order.
abbrev pub AreEntries : List Row → List RoutedRow → Type 0
AreEntries [] [] = Unit {0}
AreEntries (row ∷ rows) (entry ∷ entries) = IsEntry row entry × AreEntries rows entries
AreEntries [] (entry ∷ entries) = ⊥
AreEntries (row ∷ rows) [] = ⊥

-- Holds if some row encodes no entry.
abbrev pub HasNoEntry : List Row → Type 0
HasNoEntry [] = ⊥
HasNoEntry (row ∷ rows) = IsNoEntry row ⊎ HasNoEntry rows

abbrev pub subjects_in : List RoutedRow → List Subject
subjects_in entries = map (λ (entry : RoutedRow). subject_of entry.subject) entries

-- Holds if each subject differs from those before it.
abbrev pub AreNew : (before subjects : List Subject) → Type 0
AreNew before [] = ⊤
AreNew before (s ∷ ss) = (list_any (λ t. subject_eq t s) before ≡ false) × AreNew (s ∷ before) ss

-- Holds if no subject occurs twice.
abbrev pub AreDistinct : List Subject → Type 0
AreDistinct subjects = AreNew [] subjects

-- Holds if the rows after the header are a copy with these entries.
pub record IsCopy (rows : List Row) (entries : List RoutedRow) : Type 0 where
  pub read : AreEntries rows entries
  pub distinct : AreDistinct (subjects_in entries)

-- Holds if some row encodes no entry, or a subject occurs twice.
abbrev pub IsBadCopy : List Row → Type 0
IsBadCopy rows = HasNoEntry rows ⊎ ((entries : List RoutedRow) × AreEntries rows entries
    × (¬ (AreDistinct (subjects_in entries))))

-- Holds if this fault is the reason why rows were not read as a copy's entries.
abbrev pub IsNotRead : FaultKind → List Row → Type 0
IsNotRead BadHeader rows = (others : List Row) → rows ≢ copy_header ∷ others
IsNotRead BadFile rows = (others : List Row) × (rows ≡ copy_header ∷ others) × HasNoEntry others
IsNotRead NoMemory rows = Unit {0}
IsNotRead Read rows = Unit {0}
IsNotRead UnknownCarrier rows = ⊥
IsNotRead Storage rows = ⊥
IsNotRead Write rows = ⊥

-- ---- an audit

-- Holds if the bytes are a copy, the carrier is registered, and these are the findings.
pub record Finds (st : State) (carrier : ℕ) (bytes : List ℕ)
    (findings : List SubjectFinding) : Type 0 where
  pub known : is_carrier st carrier ≡ true
  pub rows : List Row
  pub entries : List RoutedRow
  pub file : AreRowsOf bytes (copy_header ∷ rows)
  pub copy : IsCopy rows entries
  pub found : AreFindings st carrier (map in_force_of entries) findings

-- Holds if all findings were written.
abbrev pub AuditsAll : State → (carrier : ℕ) → (bytes : List ℕ) → (had has : Option (List ℕ))
    → (rows : ℕ) → Type 0
AuditsAll st carrier bytes had has rows =
    (findings : List SubjectFinding) × Finds st carrier bytes findings × (rows ≡ length findings)
    × Appends had has (file_text audit_header (map finding_line findings))

-- Holds if the first `rows` findings were written in full, and at most a prefix of the next.
abbrev pub AuditsPart : State → (carrier : ℕ) → (bytes : List ℕ) → (had has : Option (List ℕ))
    → (rows : ℕ) → Type 0
AuditsPart st carrier bytes had has rows =
    (findings : List SubjectFinding) × Finds st carrier bytes findings
    × EndsWithin had has audit_header (map finding_line findings) rows

-- Holds if the file does not begin with the header of a copy.
abbrev pub HasBadHeader : (bytes : List ℕ) → Type 0
HasBadHeader bytes = (rows : List Row) × AreRowsOf bytes rows × ((others : List Row)
    → rows ≢ copy_header ∷ others)

abbrev pub HasBadRows : (bytes : List ℕ) → Type 0
HasBadRows bytes = (rows : List Row) × AreRowsOf bytes (copy_header ∷ rows) × IsBadCopy rows

abbrev pub WritesNothing : FaultKind → State → (carrier : ℕ) → (bytes : List ℕ) → Type 0
WritesNothing UnknownCarrier st carrier bytes = is_carrier st carrier ≡ false
WritesNothing BadHeader st carrier bytes = (is_carrier st carrier ≡ true) × HasBadHeader bytes
WritesNothing BadFile st carrier bytes = (is_carrier st carrier ≡ true) × HasBadRows bytes
WritesNothing Storage st carrier bytes = Unit {0}
WritesNothing NoMemory st carrier bytes = Unit {0}
WritesNothing Read st carrier bytes = is_carrier st carrier ≡ true
WritesNothing Write st carrier bytes = ⊥

abbrev pub StopsBefore : FaultKind → State → (carrier : ℕ) → (bytes : List ℕ)
    → (had has : Option (List ℕ)) → (rows : ℕ) → Type 0
StopsBefore kind st carrier bytes had has rows = WritesNothing kind st carrier bytes × (rows ≡ 0)
    × Appends had has []

-- Holds if the audit of a file of these bytes has this result.
abbrev pub Audits : State → (carrier : ℕ) → (bytes : List ℕ) → (had has : Option (List ℕ))
    → Result ℕ BulkFault → Type 0
Audits st carrier bytes had has (Ok rows) = AuditsAll st carrier bytes had has rows
Audits st carrier bytes had has (Err fault) =
    StopsBefore fault.kind st carrier bytes had has fault.rows
    ⊎ ((fault.kind ≡ Write) × AuditsPart st carrier bytes had has fault.rows)
