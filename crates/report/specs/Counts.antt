-- How many version rows there are, by status, by the hour in which a timer ends, and by day.
use Rattle.std.specs.Prelude.{◌≡◌, ℕ, zero, suc, ◌+◌, ◌-◌, ◌/◌, ◌<◌, ◌^◌, min, Bool, false, ◌==◌, List, length, get_or, Option, Some, None, option_map, option_and_then, if◌then◌else◌}
use Rattle.std.specs.FinMap.{get}
use Rattle.model.specs.Content.{Content, VersionRow}
use Rattle.model.specs.Statuses.{Status, Pending, Conflict, CancelPending, Sending, Active, PartialFailure, Failed, DisconnectPending, Old, Canceled}
use Rattle.report.specs.declared.counts.VersionCounts.{VersionCounts}

-- How many numbers below `n` pass the test.
abbrev pub count_below : (ℕ → Bool) → (n : ℕ) → ℕ
count_below test zero = 0
count_below test (suc n) = count_below test n + (if test n then 1 else 0)

-- ---- the place of a row in each list of counts

-- The place of a status in the order of the counts.
abbrev pub place_of_status : Status → ℕ
place_of_status Pending = 0
place_of_status Conflict = 1
place_of_status (CancelPending by) = 2
place_of_status (Sending send) = 3
place_of_status Active = 4
place_of_status PartialFailure = 5
place_of_status Failed = 6
place_of_status (DisconnectPending release) = 7
place_of_status Old = 8
place_of_status Canceled = 9

abbrev pub status_place : VersionRow → Option ℕ
status_place row = Some (place_of_status row.status)

-- The hour after `now` in which a minute lies: 0 if the minute has come, 1 to 24 for the minutes of
-- the first hour to the 24th, and 25 for later ones.
abbrev pub hour_after : (now minute : ℕ) → ℕ
hour_after now minute = min ((minute - now + 59) / 60) 25

abbrev pub timer_place : (now : ℕ) → VersionRow → Option ℕ
timer_place now row = option_map (hour_after now) row.deadline

-- How many days before the day of `now` a minute lies, at most 14. A day has 1440 minutes and
-- begins at a multiple of them, which is midnight of UTC if minute 0 is.
abbrev pub days_before : (now minute : ℕ) → ℕ
days_before now minute = min (now / 1440 - minute / 1440) 14

-- The day since which a version is active or partial-failure.
abbrev pub day_if_active : Status → (day : ℕ) → Option ℕ
day_if_active Active day = Some day
day_if_active PartialFailure day = Some day
day_if_active other day = None

-- The day since which a version is old.
abbrev pub day_if_old : Status → (day : ℕ) → Option ℕ
day_if_old Old day = Some day
day_if_old other day = None

abbrev pub active_place : (now : ℕ) → VersionRow → Option ℕ
active_place now row = day_if_active row.status (days_before now row.since)

abbrev pub old_place : (now : ℕ) → VersionRow → Option ℕ
old_place now row = day_if_old row.status (days_before now row.since)

-- ---- counts

abbrev pub is_at : ℕ → Option ℕ → Bool
is_at k None = false
is_at k (Some place) = place == k

-- Holds if one is added at the place, if there is one, and nowhere else. A count stops at its
-- greatest value.
pub record AddsAt (place : Option ℕ) (old new : List ℕ) : Type 0 where
  pub same_length : length new ≡ length old
  pub adds : (k : ℕ) → k < length old → get_or old k 0 < 2 ^ 64 - 1
      → get_or new k 0 ≡ get_or old k 0 + (if is_at k place then 1 else 0)

-- Holds if a row is added to each list of counts.
pub record AddsRow (now : ℕ) (row : VersionRow) (before after : VersionCounts) : Type 0 where
  pub by_status : AddsAt (status_place row) before.by_status after.by_status
  pub by_hour : AddsAt (timer_place now row) before.by_hour after.by_hour
  pub active : AddsAt (active_place now row) before.active after.active
  pub became_old : AddsAt (old_place now row) before.became_old after.became_old

-- Whether the row with this id is at place `k`.
abbrev pub is_row_at : (VersionRow → Option ℕ) → Content → (k id : ℕ) → Bool
is_row_at place c k id = is_at k (option_and_then place (get c.versions id))

-- Holds if each count is the number of rows at its place, of those with ids below `n`.
abbrev pub AreRowsAt : (VersionRow → Option ℕ) → Content → (n : ℕ) → List ℕ → Type 0
AreRowsAt place c n counts = (k : ℕ) → k < length counts
    → get_or counts k 0 ≡ count_below (is_row_at place c k) n

-- Holds if these are the counts of the rows with ids below `n`, at minute `now`.
pub record AreCounts (c : Content) (now n : ℕ) (counts : VersionCounts) : Type 0 where
  pub by_status : AreRowsAt status_place c n counts.by_status
  pub by_hour : AreRowsAt (timer_place now) c n counts.by_hour
  pub active : AreRowsAt (active_place now) c n counts.active
  pub became_old : AreRowsAt (old_place now) c n counts.became_old
