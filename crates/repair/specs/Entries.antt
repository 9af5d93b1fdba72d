-- The rows of a register, in the model's terms.
use Rattle.std.specs.Prelude.{◌≡◌, ℕ, List, [], ◌∷◌, Some}
use Rattle.std.specs.FinMap.{get}
use Rattle.numbers.specs.Subjects.{Subject}
use Rattle.numbers.specs.Abstraction.{subject_of}
use Rattle.model.specs.Windows.{Windows}
use Rattle.model.specs.Content.{BlockRow, BroadcastKey, BroadcastRow, Content, VersionRow, WaitKey}
use Rattle.version.specs.Abstraction.{windows_of}
use Rattle.settle.specs.Abstraction.{block_of, block_row_of, broadcast_key_of, broadcast_row_of, code_of, lrn_of, spid_of, wait_key_of}
use Rattle.settle.specs.Changes.{Changes, no_changes}
use Rattle.repair.specs.declared.row.RegisterRow.{RegisterRow}
use Rattle.repair.specs.declared.row.RegisterRow.TheVariants as row

-- A row of a table, with its key.
pub data Entry : Type 0 where
  Carrier : ℕ → Entry
  Lrn : ℕ → (owner : ℕ) → Entry
  Code : ℕ → (holder : ℕ) → Entry
  Block : ℕ → BlockRow → Entry
  WindowSet : ℕ → Windows → Entry
  Version : (id : ℕ) → VersionRow → Entry
  Broadcast : BroadcastKey → BroadcastRow → Entry
  Wait : WaitKey → Subject → Entry

abbrev pub entry_of : RegisterRow → Entry
entry_of (row.Carrier spid) = Carrier (spid_of spid)
entry_of (row.Lrn lrn owner) = Lrn (lrn_of lrn) (spid_of owner)
entry_of (row.Code code holder) = Code (code_of code) (spid_of holder)
entry_of (row.Block block r) = Block (block_of block) (block_row_of r)
entry_of (row.WindowSet set) = WindowSet set.number (windows_of set.windows)
entry_of (row.Version v) = Version v.id v.row
entry_of (row.Broadcast key b) = Broadcast (broadcast_key_of key) (broadcast_row_of b)
entry_of (row.Wait key subject) = Wait (wait_key_of key) (subject_of subject)

-- Holds if the content has the row at its key.
abbrev pub IsEntry : Content → Entry → Type 0
IsEntry c (Carrier k) = get c.carriers k ≡ Some tt
IsEntry c (Lrn k owner) = get c.lrns k ≡ Some owner
IsEntry c (Code k holder) = get c.codes k ≡ Some holder
IsEntry c (Block k r) = get c.blocks k ≡ Some r
IsEntry c (WindowSet k w) = get c.sets k ≡ Some w
IsEntry c (Version k r) = get c.versions k ≡ Some r
IsEntry c (Broadcast k r) = get c.broadcasts k ≡ Some r
IsEntry c (Wait k s) = get c.waits k ≡ Some s

-- Where a row is: the number of its table, then its key.
abbrev pub place : Entry → List ℕ
place (Carrier k) = 0 ∷ k ∷ 0 ∷ 0 ∷ 0 ∷ []
place (Lrn k owner) = 1 ∷ k ∷ 0 ∷ 0 ∷ 0 ∷ []
place (Code k holder) = 2 ∷ k ∷ 0 ∷ 0 ∷ 0 ∷ []
place (Block k r) = 3 ∷ k ∷ 0 ∷ 0 ∷ 0 ∷ []
place (WindowSet k w) = 4 ∷ k ∷ 0 ∷ 0 ∷ 0 ∷ []
place (Version k r) = 5 ∷ k ∷ 0 ∷ 0 ∷ 0 ∷ []
place (Broadcast k r) = 6 ∷ k.id ∷ k.attempt ∷ 0 ∷ 0 ∷ []
place (Wait k s) = 7 ∷ k.carrier ∷ k.minute ∷ k.id ∷ k.attempt ∷ []

-- The changes that write the row.
abbrev pub changes_with : Entry → Changes
changes_with (Carrier k) = record no_changes { carrier = Some k }
changes_with (Lrn k owner) = record no_changes { lrn = Some (k, owner) }
changes_with (Code k holder) = record no_changes { code = Some (k, holder) }
changes_with (Block k r) = record no_changes { block = Some (k, r) }
changes_with (WindowSet k w) = record no_changes { set = Some (record { number = k; windows = w }) }
changes_with (Version k r) = record no_changes { versions = (k, r) ∷ [] }
changes_with (Broadcast k r) = record no_changes { broadcasts = (k, r) ∷ [] }
changes_with (Wait k s) = record no_changes { waits = (k, s) ∷ [] }
