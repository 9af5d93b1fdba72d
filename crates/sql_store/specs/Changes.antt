-- A content with rows written and deleted.
use Rattle.std.specs.Prelude.{◌≡◌, ◌==◌, ◌||◌, Bool, IsTrue, ℕ, List, [], ◌∷◌, Option, Some, None, if◌then◌else◌, is_some, option_map}
use Rattle.std.specs.FinMap.{insert, remove}
use Rattle.numbers.specs.Subjects.{Subject}
use Rattle.model.specs.Content.{Content, BlockRow, ClockRow as ClockRowModel, VersionRow, BroadcastRow, BroadcastKey, WaitKey}
use Rattle.model.specs.Windows.{Windows}
use Rattle.numbers.specs.Abstraction.{subject_of}
use Rattle.settle.specs.declared.changes.Changes.{Changes}
use Rattle.settle.specs.Changes.{AppliesChanges, changes_of}
use Rattle.settle.specs.Lists.{items_of}
use Rattle.settle.specs.Abstraction.{spid_of, lrn_of, code_of, block_of, block_row_of, clock_row_of, broadcast_row_of, broadcast_key_of, wait_key_of}
use Rattle.settle.specs.declared.rows.ClockRow.{ClockRow}
use Rattle.settle.specs.declared.rows.ClockMove.{ClockMove}
use Rattle.windows.specs.declared.window.WindowSet.{WindowSet}
use Rattle.version.specs.Abstraction.{windows_of}
use Rattle.sql_rows.specs.Clocks.{StoredClock, clock_row, with_windows}
use Rattle.sql_rows.specs.Content.{stored_clock}

abbrev pub with_carrier : ℕ → Content → Content
with_carrier k c = record c { carriers = insert c.carriers k tt }

abbrev pub with_lrn : ℕ → ℕ → Content → Content
with_lrn k v c = record c { lrns = insert c.lrns k v }

abbrev pub with_code : ℕ → ℕ → Content → Content
with_code k v c = record c { codes = insert c.codes k v }

abbrev pub with_block : ℕ → BlockRow → Content → Content
with_block k v c = record c { blocks = insert c.blocks k v }

-- The content with this clock's row. The row is stored with the number of its windows only.
abbrev pub with_clock : StoredClock → Content → Content
with_clock v c = record c { clock = Some (with_windows c.sets v) }

-- The content with this set of windows as the present one.
abbrev pub with_set : StoredClock → Windows → Content → Content
with_set v w c = record c {
  sets = insert c.sets v.present w;
  clock = Some (clock_row v.minute v.next_id v.present w);
}

-- The clock's row once this set of windows was written: with its windows, if the row names it.
abbrev pub rewindowed : ℕ → Windows → ClockRowModel → ClockRowModel
rewindowed number w r =
    clock_row r.minute r.next_id r.present.number
    (if number == r.present.number then w else r.present.windows)

-- The content with this set of windows, which the clock's row does not name.
abbrev pub with_set_alone : ℕ → Windows → Content → Content
with_set_alone number w c = record c {
  sets = insert c.sets number w;
  clock = option_map (rewindowed number w) c.clock;
}

abbrev pub with_version : ℕ → VersionRow → Content → Content
with_version k v c = record c { versions = insert c.versions k v }

abbrev pub without_version : ℕ → Content → Content
without_version k c = record c { versions = remove c.versions k }

abbrev pub with_broadcast : BroadcastKey → BroadcastRow → Content → Content
with_broadcast k v c = record c { broadcasts = insert c.broadcasts k v }

abbrev pub without_broadcast : BroadcastKey → Content → Content
without_broadcast k c = record c { broadcasts = remove c.broadcasts k }

abbrev pub with_wait : WaitKey → Subject → Content → Content
with_wait k v c = record c { waits = insert c.waits k v }

abbrev pub without_wait : WaitKey → Content → Content
without_wait k c = record c { waits = remove c.waits k }

-- ---- many changes, the first one first

abbrev pub all_made : {X : Type 0} → (X → Content → Content) → List X → Content → Content
all_made change [] c = c
all_made change (x ∷ xs) c = all_made change xs (change x c)

-- The content with one change, if there is one.
abbrev pub if_some : {X : Type 0} → (X → Content → Content) → Option X → Content → Content
if_some change None c = c
if_some change (Some x) c = change x c

-- The content with these versions' rows. All old rows are deleted before the first one is written,
-- because the subjects that rows hold must be unique.
abbrev pub replaced : List (ℕ × VersionRow) → Content → Content
replaced ps c = all_made (λ p. with_version p.0 p.1) ps (all_made (λ p. without_version p.0) ps c)

-- The content with the clock moved and a set of windows written, given the clock's row before.
-- Without that row, only the set is written.
abbrev pub clock_made : Option ClockMove → Option WindowSet → Option ClockRow → Content → Content
clock_made None None row c = c
clock_made (Some m) None None c = c
clock_made (Some m) None (Some row) c =
    with_clock (stored_clock m.minute.number m.next_id row.present.number) c
clock_made (Some m) (Some s) row c =
    with_set (stored_clock m.minute.number m.next_id s.number) (windows_of s.windows) c
clock_made None (Some s) (Some row) c =
    with_set (stored_clock row.minute.number row.next_id s.number) (windows_of s.windows) c
clock_made None (Some s) None c = with_set_alone s.number (windows_of s.windows) c

-- The content with the optional single rows of a batch written.
abbrev pub singles : Changes → Option ClockRow → Content → Content
singles ch row c =
    clock_made ch.clock ch.set row (if_some (λ e. with_block (block_of e.0) (block_row_of e.1))
    ch.block (if_some (λ e. with_code (code_of e.0) (spid_of e.1)) ch.code
    (if_some (λ e. with_lrn (lrn_of e.0) (spid_of e.1)) ch.lrn
    (if_some (λ k. with_carrier (spid_of k)) ch.carrier c))))

-- The content with all other rows written, and then rows deleted.
abbrev pub lists : Changes → Content → Content
lists ch c =
    all_made (λ k. without_wait (wait_key_of k)) (items_of ch.deleted_waits)
    (all_made (λ k. without_broadcast (broadcast_key_of k)) (items_of ch.deleted_broadcasts)
    (all_made (λ e. with_wait (wait_key_of e.0) (subject_of e.1)) ch.waits.items
    (all_made (λ e. with_broadcast (broadcast_key_of e.0) (broadcast_row_of e.1))
    (items_of ch.broadcasts) (replaced (items_of ch.versions) c))))

abbrev pub with_changes : Changes → Option ClockRow → Content → Content
with_changes ch row c = lists ch (singles ch row c)

-- Whether the changes depend on the clock's row: they move the clock, or set the windows.
abbrev pub go_by_clock : Changes → Bool
go_by_clock ch = is_some ch.clock || is_some ch.set

-- Holds if the changes are applied, given that this is the clock's row before them if they depend
-- on it.
abbrev pub IsChangedOver : Changes → Option ClockRow → Content → Content → Type 0
IsChangedOver ch row old new = (IsTrue (go_by_clock ch) → option_map clock_row_of row ≡ old.clock)
    → AppliesChanges (changes_of ch) old new
