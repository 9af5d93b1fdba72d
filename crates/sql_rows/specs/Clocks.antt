-- The clock's row as stored, and in an earlier schema.
use Rattle.std.specs.Prelude.{ℕ, Option, unwrap_or}
use Rattle.std.specs.Ordering.{nat_cmp}
use Rattle.std.specs.FinMap.{FinMap, get}
use Rattle.model.specs.Content.{ClockRow}
use Rattle.model.specs.Windows.{Windows}
use Rattle.version.specs.Abstraction.{no_windows, windows_of}
use Rattle.sql_rows.specs.declared.keyed.StoredClock.{StoredClock as StoredImpl}
use Rattle.sql_rows.specs.declared.keyed.OldClock.{OldClock}

-- The stored row, with only the number of the current set of windows.
pub record StoredClock : Type 0 where
  pub minute : ℕ
  pub next_id : ℕ
  pub present : ℕ

abbrev pub clock_of : StoredImpl → StoredClock
clock_of c = record { minute = c.minute.number; next_id = c.next_id; present = c.present }

abbrev pub clock_row : ℕ → ℕ → ℕ → Windows → ClockRow
clock_row minute next_id present windows = record {
  minute = minute;
  next_id = next_id;
  present = record { number = present; windows = windows };
}

-- The clock of an earlier schema: its windows are set 1.
abbrev pub old_clock_of : OldClock → ClockRow
old_clock_of c = clock_row c.minute.number c.next_id 1 (windows_of c.windows)

-- The windows of the set with this number. A missing set has windows of zero minutes: no set that
-- exists has those.
abbrev pub windows_named : FinMap nat_cmp Windows → ℕ → Windows
windows_named sets number = unwrap_or (get sets number) no_windows

-- The row with the windows of its set. If the set is missing, every look-up fails.
abbrev pub with_windows : FinMap nat_cmp Windows → StoredClock → ClockRow
with_windows sets c = clock_row c.minute c.next_id c.present (windows_named sets c.present)
