-- What a commit reserves before it writes, and what each of its parts writes.
use Rattle.std.specs.Prelude.{◌≡◌, ◌≢◌, ◌==◌, ◌<◌, ◌≤◌, ℕ, length, List, [], ◌∷◌, Option, None, Some, IfSome, option_map, ⊤}
use Rattle.std.specs.Ordering.{nat_cmp}
use Rattle.std.specs.HashMap.{spare}
use Rattle.std.specs.FinMap.{FinMap, get}
use Rattle.numbers.specs.Subjects.{Subject}
use Rattle.numbers.specs.Abstraction.{subject_of}
use Rattle.numbers.specs.declared.ported.Subject.{Subject as SubjectImpl}
use Rattle.model.specs.Content.{VersionRow, wait_cmp}
use Rattle.settle.specs.Abstraction.{wait_key_of}
use Rattle.model.specs.Windows.{Windows, WindowSet}
use Rattle.settle.specs.Changes.{Changes, no_changes, changes_of, put_row}
use Rattle.settle.specs.Lists.{items_of}
use Rattle.settle.specs.declared.changes.Changes.{Changes as ChangesImpl}
use Rattle.settle.specs.declared.rows.WaitKey.{WaitKey as WaitKeyImpl}
use Rattle.store.specs.Maps.{set}
use Rattle.store.specs.Tables.{HasRowKeys}
use Rattle.store.specs.declared.tables.Tables.{Tables}

-- ---- what is reserved

-- Holds if the version has a place, and the indexes have the keys of its row.
abbrev pub IsReserved : ℕ × VersionRow → Tables → Type 0
IsReserved v t = (v.0 < length t.versions.rows.items) × HasRowKeys v.0 v.1 t

abbrev pub AreReserved : List (ℕ × VersionRow) → Tables → Type 0
AreReserved [] t = ⊤
AreReserved (v ∷ vs) t = IsReserved v t × AreReserved vs t

-- Holds if there is room for each row whose write then cannot fail.
pub record HasRoom (c : ChangesImpl) (t : Tables) : Type 0 where
  pub versions : AreReserved (items_of c.versions) t
  pub lrns : IfSome c.lrn (λ row. 0 < spare t.lrns)
  pub codes : IfSome c.code (λ row. 0 < spare t.codes)
  pub blocks : IfSome c.block (λ row. 0 < spare t.blocks)
  pub sets : IfSome c.set (λ row. 0 < spare t.sets)
  pub broadcasts : length (items_of c.broadcasts) ≤ spare t.broadcasts

-- Holds if none of the rows is of this version; then, if no two of them are of one version.
abbrev pub AreOthers : (id : ℕ) → List (ℕ × VersionRow) → Type 0
AreOthers id [] = ⊤
AreOthers id (v ∷ vs) = (v.0 ≢ id) × AreOthers id vs

abbrev pub AreDistinct : List (ℕ × VersionRow) → Type 0
AreDistinct [] = ⊤
AreDistinct (v ∷ vs) = AreOthers v.0 vs × AreDistinct vs

-- Holds if the ids rise, from above this one; then, from any.
abbrev pub AreAfter : (id : ℕ) → List (ℕ × VersionRow) → Type 0
AreAfter id [] = ⊤
AreAfter id (v ∷ vs) = (id < v.0) × AreAfter v.0 vs

abbrev pub AreAscending : List (ℕ × VersionRow) → Type 0
AreAscending [] = ⊤
AreAscending (v ∷ vs) = AreAfter v.0 vs

-- ---- what is written

-- Holds if these downloads are added in order, and none of them was pending.
abbrev pub AreNew : List (WaitKeyImpl × SubjectImpl) → FinMap wait_cmp Subject
    → FinMap wait_cmp Subject → Type 0
AreNew [] old new = new ≡ old
AreNew (e ∷ es) old new = (get old (wait_key_of e.0) ≡ None)
    × AreNew es (set old (wait_key_of e.0) (Some (subject_of e.1))) new

-- Holds if the row is written under its number, if there is one.
abbrev pub IsRowPut : {Y : Type 0} → Option (ℕ × Y) → (old new : FinMap nat_cmp Y) → Type 0
IsRowPut row old new = (k : ℕ) → get new k ≡ put_row ◌==◌ row k (get old k)

-- Holds if the windows of the set are written under its number, if there is a set.
abbrev pub IsSetPut : Option WindowSet → (old new : FinMap nat_cmp Windows) → Type 0
IsSetPut set = IsRowPut (option_map (λ (s : WindowSet). (s.number, s.windows)) set)

-- The rows of versions only.
abbrev pub of_versions : List (ℕ × VersionRow) → Changes
of_versions vs = record no_changes { versions = vs }

-- All changes but the rows of the carrier and of downloads.
abbrev pub certain : ChangesImpl → Changes
certain c = record (changes_of c) { carrier = None; waits = [] }
