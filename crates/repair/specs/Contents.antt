-- The content that has exactly the rows of a register.
use Rattle.std.specs.Prelude.{◌≡◌, ℕ, List, map, Some, Contains}
use Rattle.std.specs.FinMap.{get}
use Rattle.model.specs.Windows.{Windows}
use Rattle.model.specs.Content.{Content}
use Rattle.version.specs.Abstraction.{windows_of}
use Rattle.windows.specs.declared.window.WindowSet.{WindowSet as WindowSetImpl}
use Rattle.repair.specs.Entries.{Entry, IsEntry, WindowSet, entry_of}
use Rattle.repair.specs.declared.row.RegisterRow.{RegisterRow}
use Rattle.repair.specs.declared.row.RegisterRows.{RegisterRows}

abbrev pub entries_of : List RegisterRow → List Entry
entries_of rows = map entry_of rows

-- Holds if the rows of the content, other than the clock's, are these and no others.
pub record HasExactly (entries : List Entry) (c : Content) : Type 0 where
  pub each : (e : Entry) → Contains entries e → IsEntry c e
  pub only : (e : Entry) → IsEntry c e → Contains entries e

-- Holds if the clock's row has these values, and the windows of the set with the number.
abbrev pub HasClock : (minute next_id present : ℕ) → Content → Type 0
HasClock minute next_id present c = (w : Windows) × (get c.sets present ≡ Some w)
    × (c.clock ≡ Some (record {
      minute = minute;
      next_id = next_id;
      present = record { number = present; windows = w };
    }))

-- Holds if the content has exactly these rows and this clock's row.
pub record IsContentWith (entries : List Entry) (minute next_id present : ℕ)
    (c : Content) : Type 0 where
  pub rows : HasExactly entries c
  pub clock : HasClock minute next_id present c

-- Holds if the content has exactly the rows of the register.
abbrev pub IsContentOf : RegisterRows → Content → Type 0
IsContentOf all c =
    IsContentWith (entries_of all.rows.items) all.minute.number all.next_id all.present c

-- Holds if the set of windows is among the rows, with this number.
pub record IsPresent (entries : List Entry) (number : ℕ) (set : WindowSetImpl) : Type 0 where
  pub is : set.number ≡ number
  pub there : Contains entries (WindowSet set.number (windows_of set.windows))

-- Holds if no set of windows among the rows has this number.
abbrev pub IsAbsent : (entries : List Entry) → (number : ℕ) → Type 0
IsAbsent entries number = (w : Windows) → ¬ Contains entries (WindowSet number w)
