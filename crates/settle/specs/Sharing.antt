-- A download that is pending for other carriers too: its acknowledgement deletes it, and changes
-- nothing else but its broadcast's row.
use Rattle.std.specs.Prelude.{◌≡◌, ℕ, Bool, true, false, not, ◌&&◌, List, [], ◌∷◌, Option, Some, None, is_some, if◌then◌else◌, Result, Ok, Err}
use Rattle.std.specs.FinMap.{get}
use Rattle.model.specs.Content.{Content, VersionRow, BroadcastKey, BroadcastRow, WaitKey, broadcast_key, wait_key}
use Rattle.numbers.specs.Subjects.{Subject}
use Rattle.version.specs.Acknowledging.{is_sending}
use Rattle.delivery.specs.declared.download.DownloadKey.{DownloadKey}
use Rattle.settle.specs.Changes.{Changes, AppliesChanges, no_changes}
use Rattle.settle.specs.Reads.{AreWaitsAbout, is_last_wait}
use Rattle.settle.specs.declared.store.StoreFault.{StoreFault}

-- ---- what changes

-- A broadcast's row after one more acknowledgement.
abbrev pub answered_row : (closes : Bool) → BroadcastRow → BroadcastRow
answered_row closes row = record row { is_open = row.is_open && not closes; any = true }

-- The rows that say of a broadcast that a carrier has acknowledged it: none if its row says so
-- already.
abbrev pub marked_rows : BroadcastKey → BroadcastRow → List (BroadcastKey × BroadcastRow)
marked_rows key row = if row.any then [] else (key, answered_row false row) ∷ []

-- The changes that delete a download which is not the last of its broadcast.
abbrev pub one_changes : WaitKey → BroadcastRow → Changes
one_changes wait row = record no_changes {
  broadcasts = marked_rows (broadcast_key wait.id wait.attempt) row;
  deleted_waits = wait ∷ [];
}

-- ---- which downloads

-- Holds if this is the only download of the subject that is pending for the carrier.
pub record IsOnlyAbout (c : Content) (s : Subject) (wait : WaitKey) : Type 0 where
  pub download : DownloadKey
  pub about : AreWaitsAbout c wait.carrier s (download ∷ [])
  pub minute : download.minute.number ≡ wait.minute
  pub id : download.id ≡ wait.id
  pub attempt : download.attempt ≡ wait.attempt

-- Holds if the download is its carrier's only one of the subject of its version, which is being
-- sent, and if its broadcast is pending for another registered carrier too. These are the rows of
-- the version and of the broadcast.
pub record IsShared (c : Content) (wait : WaitKey) (row : VersionRow)
    (broadcast : BroadcastRow) : Type 0 where
  pub known : is_some (get c.carriers wait.carrier) ≡ true
  pub found : get c.versions wait.id ≡ Some row
  pub sends : is_sending row.status ≡ true
  pub only : IsOnlyAbout c row.subject wait
  pub shared : is_last_wait c wait ≡ false
  pub stored : get c.broadcasts (broadcast_key wait.id wait.attempt) ≡ Some broadcast

-- Holds if `new` is `old` with such a download of the carrier acknowledged. `row` is its version's.
pub record TakesShared (old new : Content) (carrier id attempt : ℕ)
    (row : VersionRow) : Type 0 where
  pub minute : ℕ
  pub broadcast : BroadcastRow
  pub shared : IsShared old (wait_key carrier minute id attempt) row broadcast
  pub changed : AppliesChanges (one_changes (wait_key carrier minute id attempt) broadcast) old new

-- Holds if such a download is acknowledged, or nothing is changed.
abbrev pub TakesSharedOrNone : (old new : Content) (carrier id attempt : ℕ) → Option VersionRow
    → Type 0
TakesSharedOrNone old new carrier id attempt None = new ≡ old
TakesSharedOrNone old new carrier id attempt (Some row) = TakesShared old new carrier id attempt row

-- Holds of the contents that the call may add to those that a crash leaves: with the download
-- acknowledged, if it was.
abbrev pub MayLeaveShared : (old new : Content) (carrier id attempt : ℕ)
    → Result (Option VersionRow) StoreFault → Type 0
MayLeaveShared old new carrier id attempt (Ok (Some row)) =
    TakesShared old new carrier id attempt row
MayLeaveShared old new carrier id attempt (Ok None) = ⊥
MayLeaveShared old new carrier id attempt (Err fault) = ⊥
