-- A copy compared with the register's side.
use Rattle.std.proofs.Common.{◌≡◌, ℕ, List, ◌∷◌, map, Bool, true, false, Option, Some, None, option_map, length, Result, Ok, Err, inl, inr, ap, sym, ◌∙◌, subst}
use Rattle.std.specs.Prelude.{◌⊎◌, IfErr, IfOk, IfSome}
use Rattle.std.specs.Io.KnownBytes.{Appends}
use Rattle.std.specs.List.{list_any}
use Rattle.std.specs.BTreeMap.{BTreeMap, IsOrdered}
use Rattle.std.specs.Ordering.{nat_cmp, on}
use Rattle.numbers.specs.Routings.{Routing}
use Rattle.numbers.specs.Subjects.{Subject as SubjectModel, subject_eq}
use Rattle.numbers.specs.Abstraction.{key_of, routing_of, subject_of}
use Rattle.numbers.specs.declared.ported.Subject.{Subject}
use Rattle.delivery.specs.Mirrors.{in_force_of}
use Rattle.delivery.specs.declared.mirror.RoutedRow.{RoutedRow}
use Rattle.model.specs.Copies.{copy_of_rows}
use Rattle.model.specs.State.{State, InForce, all_in_force, is_carrier}
use Rattle.bulk.specs.Audits.{AreEntries, Audits, AreDistinct, Finds, IsNotRead, copy_header, subjects_in}
use Rattle.bulk.specs.Comparing.{AreCompared, ComparesFile, IsNotCompared}
use Rattle.bulk.specs.Files.{EndsWithin, file_text}
use Rattle.bulk.specs.Findings.{audit_header, awaited, finding_line, finding_of}
use Rattle.bulk.specs.Rows.{Row, AreRowsOf}
use Rattle.bulk.specs.Sides.{found_in, found_of, routed_after, sides_at, waiting_after}
use Rattle.bulk.specs.declared.fault.BulkFault.{BulkFault}
use Rattle.bulk.specs.declared.fault.FaultKind.{FaultKind}
use Rattle.bulk.specs.declared.fault.FaultKind.TheVariants.{BadHeader, BadFile, UnknownCarrier, Storage, NoMemory, Read, Write}
use Rattle.bulk.specs.declared.finding.SubjectFinding.{SubjectFinding}
use Rattle.bulk.specs.declared.sides.Sides.{Sides}
use Rattle.bulk.proofs.Filed.{known}
use Rattle.bulk.proofs.FoundIn.{findings_rise, findings_tell}
use Rattle.bulk.proofs.Sided.{routed_started, waits_awaited}

abbrev Map : Type 0
Map = BTreeMap Subject Sides

-- The finding by three sides is that of the definitions.
sides_found : (rows entries : List RoutedRow) (subjects : List Subject) (s : Subject) →
    finding_of (waiting_after subjects s false) (option_map routing_of (routed_after rows s None))
    (option_map routing_of (routed_after entries s None))
    ≡ finding_of (list_any (λ t. subject_eq t (subject_of s)) (map subject_of subjects))
    (copy_of_rows (map in_force_of rows) (subject_of s)) (copy_of_rows (map in_force_of entries)
    (subject_of s))
sides_found rows entries subjects s =
    ap (λ (b : Bool). finding_of b (option_map routing_of (routed_after rows s None))
    (option_map routing_of (routed_after entries s None))) (waits_awaited subjects s)
    ∙ ap (λ (o : Option Routing). finding_of (list_any (λ t. subject_eq t (subject_of s))
    (map subject_of subjects)) o (option_map routing_of (routed_after entries s None)))
    (routed_started rows s)
    ∙ ap (λ (o : Option Routing). finding_of (list_any (λ t. subject_eq t (subject_of s))
    (map subject_of subjects)) (copy_of_rows (map in_force_of rows) (subject_of s)) o)
    (routed_started entries s)

abbrev all_sides : (rows entries : List RoutedRow) (subjects : List Subject) (s : Subject) → Sides
all_sides rows entries subjects s = record {
  in_force = routed_after rows s None;
  copied = routed_after entries s None;
  is_waiting = waiting_after subjects s false;
}

-- The three sides were added in order, and the findings computed from them.
pub are_compared :
    (rows entries : List RoutedRow) (subjects : List Subject) (findings : List SubjectFinding)
    (first second third : Map) →
    ((s : Subject) → sides_at first s ≡ record {
      in_force = None;
      copied = routed_after entries s None;
      is_waiting = false;
    }) →
    ((s : Subject) → sides_at second s ≡ record (sides_at first s) {
      in_force = routed_after rows s (sides_at first s).in_force;
    }) →
    ((s : Subject) → sides_at third s ≡ record (sides_at second s) {
      is_waiting = waiting_after subjects s (sides_at second s).is_waiting;
    }) →
    findings ≡ found_in third.entries → IsOrdered (on key_of nat_cmp) third
    → AreCompared rows subjects entries findings
are_compared rows entries subjects findings first second third copied in_force waits found ordered =
    let all : (s : Subject) → sides_at third s ≡ all_sides rows entries subjects s =
    λ s.
    waits s
    ∙ ap (λ (x : Sides). record x { is_waiting = waiting_after subjects s x.is_waiting }) (in_force
    s
    ∙ ap (λ (x : Sides). record x { in_force = routed_after rows s x.in_force }) (copied s)) in
    subst (λ (fs : List SubjectFinding). AreCompared rows subjects entries fs) (sym found)
    (record {
      rise = findings_rise third.entries ordered;
      each = λ s. findings_tell third.entries ordered s ∙ ap found_of (all s)
          ∙ sides_found rows entries subjects s;
    })

-- ---- a file

-- The file was read and compared.
pub file_compared :
    (in_force : List RoutedRow) (waiting : List Subject) (bytes : List ℕ) (rows others : List Row)
    (entries : List RoutedRow) (findings : List SubjectFinding) → AreRowsOf bytes rows
    → rows ≡ copy_header ∷ others →
    AreEntries others entries → AreDistinct (subjects_in entries)
    → AreCompared in_force waiting entries findings → ComparesFile in_force waiting bytes findings
file_compared in_force waiting bytes rows others entries findings are e read distinct compared =
    record {
      rows = others;
      entries = entries;
      file = (let P : List Row → Type 0 = λ rs. AreRowsOf bytes rs in subst P e are);
      copy = record { read = read; distinct = distinct };
      compared = compared;
    }

-- The file was read, and a subject occurs twice or an allocation failed.
pub not_compared :
    (kind : FaultKind) (bytes : List ℕ) (rows others : List Row) (entries : List RoutedRow)
    → AreRowsOf bytes rows → rows ≡ copy_header ∷ others → AreEntries others entries →
    (kind ≡ BadFile → ¬ (AreDistinct (subjects_in entries))) → (kind ≡ BadFile) ⊎ (kind ≡ NoMemory)
    → IsNotCompared kind bytes
not_compared kind bytes rows others entries are e read duplicate (inl is) =
    let P : List Row → Type 0 = λ rs. AreRowsOf bytes rs in
    subst (λ k. IsNotCompared k bytes) (sym is)
    (others, subst P e are, inr (entries, read, duplicate is))
not_compared kind bytes rows others entries are e read duplicate (inr is) =
    subst (λ k. IsNotCompared k bytes) (sym is) tt

-- The file was not read.
pub not_read : (kind : FaultKind) (bytes : List ℕ) (rows : List Row) → AreRowsOf bytes rows
    → IsNotRead kind rows → IsNotCompared kind bytes
not_read BadHeader bytes rows are not = (rows, are, not)
not_read BadFile bytes rows are not = let P : List Row → Type 0 = λ rs. AreRowsOf bytes rs in
    (not.0, subst P not.1 are, inl not.2)
not_read NoMemory bytes rows are not = tt
not_read Read bytes rows are not = tt
not_read UnknownCarrier bytes rows are not = not
not_read Storage bytes rows are not = not
not_read Write bytes rows are not = not

-- Holds if a file of these bytes was read as a copy with these entries.
pub record IsReadAs (bytes : List ℕ) (entries : List RoutedRow) : Type 0 where
  pub rows : List Row
  pub others : List Row
  pub are : AreRowsOf bytes rows
  pub header : rows ≡ copy_header ∷ others
  pub read : AreEntries others entries

pub file_compares :
    {V : Type 0} (r : Result V FaultKind) (items : V → List SubjectFinding) (o : Option (List ℕ))
    (in_force : List RoutedRow) (waiting : List Subject) (entries seen : List RoutedRow)
    → seen ≡ entries →
    ((bytes : List ℕ) → o ≡ Some bytes → IsReadAs bytes entries)
    → IfOk r (λ v. AreDistinct (subjects_in seen) × AreCompared in_force waiting seen (items v)) →
    IfOk r (λ v. IfSome o (λ bytes. ComparesFile in_force waiting bytes (items v)))
file_compares (Err kind) items o in_force waiting entries seen same read compared = tt
file_compares (Ok v) items o in_force waiting entries seen same read compared =
    known o (λ bytes. ComparesFile in_force waiting bytes (items v))
    (λ bytes e.
    let at = read bytes e in
    file_compared in_force waiting bytes at.rows at.others seen (items v) at.are at.header
    (subst (λ (es : List RoutedRow). AreEntries at.others es) (sym same) at.read) compared.0
    compared.1)

pub file_not_compared :
    {V : Type 0} (r : Result V FaultKind) (o : Option (List ℕ)) (entries seen : List RoutedRow)
    → seen ≡ entries → ((bytes : List ℕ) → o ≡ Some bytes → IsReadAs bytes entries) →
    (r ≡ Err BadFile → ¬ (AreDistinct (subjects_in seen)))
    → IfErr r (λ kind. (kind ≡ BadFile) ⊎ (kind ≡ NoMemory))
    → IfErr r (λ kind. IfSome o (IsNotCompared kind))
file_not_compared (Ok v) o entries seen same read duplicate kinds = tt
file_not_compared (Err kind) o entries seen same read duplicate kinds =
    known o (IsNotCompared kind)
    (λ bytes e.
    let at = read bytes e in
    not_compared kind bytes at.rows at.others seen at.are at.header
    (subst (λ (es : List RoutedRow). AreEntries at.others es) (sym same) at.read)
    (λ is. duplicate (ap Err is)) kinds)

-- ---- an audit

-- The register's side is that of the state.
pub finds :
    (st : State) (carrier : ℕ) (bytes : List ℕ) (in_force : List RoutedRow) (waiting : List Subject)
    (findings : List SubjectFinding) → map in_force_of in_force ≡ all_in_force st
    → map subject_of waiting ≡ awaited st carrier →
    is_carrier st carrier ≡ true → ComparesFile in_force waiting bytes findings
    → Finds st carrier bytes findings
finds st carrier bytes in_force waiting findings force waits registered file = record {
  known = registered;
  rows = file.rows;
  entries = file.entries;
  file = file.file;
  copy = file.copy;
  found = record {
    rise = file.compared.rise;
    each = λ s.
        file.compared.each s
        ∙ ap (λ (ts : List SubjectModel). finding_of (list_any (λ t. subject_eq t (subject_of s))
        ts) (copy_of_rows (map in_force_of in_force) (subject_of s))
        (copy_of_rows (map in_force_of file.entries) (subject_of s))) waits
        ∙ ap (λ (rs : List InForce). finding_of (list_any (λ t. subject_eq t (subject_of s))
        (awaited st carrier)) (copy_of_rows rs (subject_of s))
        (copy_of_rows (map in_force_of file.entries)
        (subject_of s))) force;
  };
}

-- A fact about the bytes, if they are known.
pub with_bytes : {P Q : List ℕ → Type 0} (o : Option (List ℕ))
    → ((bytes : List ℕ) → P bytes → Q bytes) → IfSome o P → IfSome o Q
with_bytes None f p = tt
with_bytes (Some bytes) f p = f bytes p

-- The findings were sent.
pub all_audited :
    (st : State) (carrier : ℕ) (o had has : Option (List ℕ)) (in_force : List RoutedRow)
    (waiting : List Subject) (findings sent : List SubjectFinding) (k : ℕ) → sent ≡ findings →
    (map in_force_of in_force ≡ all_in_force st) × (map subject_of waiting ≡ awaited st carrier)
    × (is_carrier st carrier ≡ true)
    → IfSome o (λ bytes. ComparesFile in_force waiting bytes findings) →
    (k ≡ length sent) × Appends had has (file_text audit_header (map finding_line sent))
    → IfSome o (λ bytes. Audits st carrier bytes had has (Ok k))
all_audited st carrier o had has in_force waiting findings sent k same side file all =
    with_bytes o (λ bytes one. (
      sent,
      subst (λ (fs : List SubjectFinding). Finds st carrier bytes fs) (sym same)
          (finds st carrier bytes in_force waiting findings side.0 side.1 side.2 one),
      all.0,
      all.1,
    )) file

pub part_audited :
    (st : State) (carrier : ℕ) (o had has : Option (List ℕ)) (in_force : List RoutedRow)
    (waiting : List Subject) (findings sent : List SubjectFinding) (k : ℕ) (fault : BulkFault)
    → fault.kind ≡ Write → fault.rows ≡ k → sent ≡ findings →
    (map in_force_of in_force ≡ all_in_force st) × (map subject_of waiting ≡ awaited st carrier)
    × (is_carrier st carrier ≡ true)
    → IfSome o (λ bytes. ComparesFile in_force waiting bytes findings) →
    EndsWithin had has audit_header (map finding_line sent) k
    → IfSome o (λ bytes. Audits st carrier bytes had has (Err fault))
part_audited st carrier o had has in_force waiting findings sent k fault kind rows same side file
    part =
    with_bytes o (λ bytes one.
    let found =
    subst (λ (fs : List SubjectFinding). Finds st carrier bytes fs) (sym same)
    (finds st carrier bytes in_force waiting findings side.0 side.1 side.2 one) in
    inr (
      kind,
      (
        sent,
        found,
        subst (EndsWithin had has audit_header (map finding_line sent)) (sym rows) part,
      ),
    )) file
