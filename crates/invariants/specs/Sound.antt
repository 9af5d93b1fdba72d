-- What holds of the rows of every register.
use Rattle.std.specs.Prelude.{◌≡◌, ◌≤◌, ◌<◌, ℕ, true, Option, Some, None, is_some, option_and_then}
use Rattle.std.specs.FinMap.{get}
use Rattle.numbers.specs.Subjects.{Subject, Block}
use Rattle.model.specs.Changes.{action_of}
use Rattle.model.specs.Content.{BlockRow, BroadcastRow, ClockRow, Content, VersionRow, broadcast_key, deadline_of, subject_if}
use Rattle.model.specs.Statuses.{Send, sent_by}
use Rattle.model.specs.Versions.{in_force_status, open_by}
use Rattle.model.specs.Windows.{Windows}
use Rattle.settle.specs.Reads.{IsWaiting}

-- Holds if a version has this id, and its row has the property.
abbrev pub HasRow : Content → (id : ℕ) → (VersionRow → Type 0) → Type 0
HasRow c id P = (row : VersionRow) × (get c.versions id ≡ Some row) × P row

-- ---- one version

-- Holds if the version's set of windows exists.
abbrev pub HasSet : Content → VersionRow → Type 0
HasSet c row = is_some (get c.sets row.held) ≡ true

-- The deadline that these windows give.
abbrev pub deadline_by : Windows → VersionRow → Option ℕ
deadline_by w row = deadline_of w row.due row.old_at row.new_at row.since row.status

-- Holds if the deadline is the one that the version's set of windows gives.
abbrev pub HasDeadline : Content → VersionRow → Type 0
HasDeadline c row = (w : Windows) → get c.sets row.held ≡ Some w → row.deadline ≡ deadline_by w row

-- Holds if the row has its subject in `holds` exactly if its status is in force.
abbrev pub HoldsByStatus : VersionRow → Type 0
HoldsByStatus row = row.holds ≡ subject_if (in_force_status row.status) row.subject

-- Holds if the row has its subject in `opens` exactly if its status is open.
abbrev pub OpensByStatus : VersionRow → Type 0
OpensByStatus row = row.opens ≡ subject_if (open_by row.subject row.status) row.subject

-- Holds if the broadcast is open, and is what the version sends since its minute.
pub record IsSentAs (row : VersionRow) (send : Send) (b : BroadcastRow) : Type 0 where
  pub minute : b.minute ≡ row.since
  pub subject : b.subject ≡ row.subject
  pub action : b.action ≡ action_of send
  pub is_open : b.is_open ≡ true

abbrev pub IsSent : VersionRow → Send → Option BroadcastRow → Type 0
IsSent row send None = ⊥
IsSent row send (Some b) = IsSentAs row send b

-- Holds if the version, if it is sending, has such a broadcast with its last attempt.
abbrev pub HasSending : Content → (id : ℕ) → VersionRow → Type 0
HasSending c id row = (send : Send) → sent_by row.status ≡ Some send
    → IsSent row send (get c.broadcasts (broadcast_key id row.attempt))

-- The newest version that was made of a block, by the block's row.
abbrev pub last_of : Content → (block : ℕ) → Option ℕ
last_of c block = option_and_then (λ (b : BlockRow). b.last) (get c.blocks block)

-- Holds if the block's row names a version of the block, with this id or a later one.
pub record IsUpToLast (c : Content) (id block : ℕ) : Type 0 where
  pub last : ℕ
  pub has_last : last_of c block ≡ Some last
  pub most : id ≤ last
  pub own : HasRow c last (λ row. row.subject ≡ Block block)

-- Holds if the version, if it is a block's, is under the row of that block.
abbrev pub IsUnderBlock : Content → (id : ℕ) → VersionRow → Type 0
IsUnderBlock c id row = (block : ℕ) → row.subject ≡ Block block → IsUpToLast c id block

-- Holds if the columns that follow from others are as these give them.
pub record AreColumnsSound (c : Content) (clock : ClockRow) (row : VersionRow) : Type 0 where
  pub since : row.since ≤ clock.minute
  pub deadline : HasDeadline c row
  pub holds : HoldsByStatus row
  pub opens : OpensByStatus row

-- Holds if the version with this id has a row as the rules give it.
pub record IsVersionSound (c : Content) (clock : ClockRow) (id : ℕ)
    (row : VersionRow) : Type 0 where
  pub has_set : HasSet c row
  pub columns : AreColumnsSound c clock row
  pub sending : HasSending c id row
  pub block : IsUnderBlock c id row

-- ---- all versions

-- Holds if a version was given this id.
pub record IsGiven (clock : ClockRow) (id : ℕ) : Type 0 where
  pub first : 0 < id
  pub below : id < clock.next_id

-- Holds if the row has the subject in the column.
abbrev pub HasIn : (VersionRow → Option Subject) → Content → (id : ℕ) → Subject → Type 0
HasIn column c id s = HasRow c id (λ row. column row ≡ Some s)

-- Holds if no two versions with ids below `n` have one subject in the column.
abbrev pub IsUniqueBelow : (VersionRow → Option Subject) → Content → (n : ℕ) → Type 0
IsUniqueBelow column c n = (id other : ℕ) (s : Subject) → id < n → other < n → HasIn column c id s
    → HasIn column c other s → id ≡ other

abbrev pub holds_in : VersionRow → Option Subject
holds_in row = row.holds

abbrev pub opens_in : VersionRow → Option Subject
opens_in row = row.opens

-- Holds if each id that was given has a sound version, and no subject has two versions in force or
-- two open.
pub record AreGivenSound (c : Content) (clock : ClockRow) : Type 0 where
  pub each : (id : ℕ) → IsGiven clock id → HasRow c id (IsVersionSound c clock id)
  pub holds : IsUniqueBelow holds_in c clock.next_id
  pub opens : IsUniqueBelow opens_in c clock.next_id

-- Holds if the given ones are sound, and ids 0 and `next_id` have no version.
pub record AreVersionsSound (c : Content) (clock : ClockRow) : Type 0 where
  pub given : AreGivenSound c clock
  pub zero : get c.versions 0 ≡ None
  pub next : get c.versions clock.next_id ≡ None

-- ---- downloads

-- Holds if the broadcast was sent at this minute and is about this subject.
pub record IsOf (minute : ℕ) (s : Subject) (b : BroadcastRow) : Type 0 where
  pub sent_at : b.minute ≡ minute
  pub subject : b.subject ≡ s

abbrev pub IsOfBroadcast : (minute : ℕ) → Subject → Option BroadcastRow → Type 0
IsOfBroadcast minute s None = ⊥
IsOfBroadcast minute s (Some b) = IsOf minute s b

-- Holds if a download about the subject has such a broadcast.
abbrev pub HasBroadcast : Content → Subject → (minute id attempt : ℕ) → Type 0
HasBroadcast c s minute id attempt =
    IsOfBroadcast minute s (get c.broadcasts (broadcast_key id attempt))

-- Holds if each download of the subject that is pending for the carrier has its broadcast.
abbrev pub HaveBroadcastsAbout : Content → (carrier : ℕ) → Subject → Type 0
HaveBroadcastsAbout c carrier s = (minute id attempt : ℕ) → IsWaiting c carrier s minute id attempt
    → HasBroadcast c s minute id attempt

abbrev pub HaveBroadcastsFor : Content → (carrier : ℕ) → Type 0
HaveBroadcastsFor c carrier = (s : Subject) → HaveBroadcastsAbout c carrier s

-- Holds if each download that is pending for a registered carrier has its broadcast.
abbrev pub HaveBroadcasts : Content → Type 0
HaveBroadcasts c = (carrier : ℕ) → is_some (get c.carriers carrier) ≡ true
    → HaveBroadcastsFor c carrier

-- ---- all rows

-- Holds if the rows keep the invariants.
pub record AreRowsSound (c : Content) : Type 0 where
  pub clock : ClockRow
  pub has_clock : c.clock ≡ Some clock
  pub versions : AreVersionsSound c clock
  pub downloads : HaveBroadcasts c
