-- Subscription versions, their broadcasts, and the record of a subject.
use Rattle.std.specs.Prelude.{ℕ, Bool, true, false, not, ◌==◌, nat_lt, List, [], ◌∷◌, filter, find, Option, Some, None, if◌then◌else◌}
use Rattle.std.specs.List.{list_any}
use Rattle.numbers.specs.Subjects.{Subject, Number, Block}
use Rattle.numbers.specs.Routings.{Routing}
use Rattle.model.specs.declared.words.Action.{Action}
use Rattle.model.specs.Statuses.{Send, Create, Delete, Modify, Status, Pending, Conflict, CancelPending, Sending, Active, PartialFailure, Failed, DisconnectPending, Old, Canceled}
use Rattle.model.specs.Windows.{WindowSet}
use Rattle.model.specs.declared.words.Outcome.{Outcome}
use Rattle.model.specs.declared.words.Outcome.TheVariants.{Open, AllAcknowledged, SomeAcknowledged, NoneAcknowledged}

-- One broadcast of a version, with its recipients and those that acknowledged it. A create and a
-- modify carry a routing, a delete none.
pub record Broadcast : Type 0 where
  pub attempt : ℕ
  pub minute : ℕ
  pub action : Action
  pub routing : Option Routing
  pub recipients : List ℕ
  pub acknowledged : List ℕ
  pub outcome : Outcome

-- A subscription version. `old_at` and `new_at` are the minutes of the two creates, and `since` is
-- the minute when it entered its status. `held` is the set of windows that was present then, and
-- judges its ages. `spent` says that the old provider has put it in conflict. `broadcasts` is
-- newest first.
pub record Version : Type 0 where
  pub id : ℕ
  pub old_provider : ℕ
  pub new_provider : ℕ
  pub due : ℕ
  pub routing : Option Routing
  pub old_at : Option ℕ
  pub new_at : Option ℕ
  pub status : Status
  pub since : ℕ
  pub held : WindowSet
  pub attempt : ℕ
  pub spent : Bool
  pub protective : Bool
  pub broadcasts : List Broadcast

-- All that is known of one subject: its versions, newest first, and the registered carriers, all of
-- them recipients of what is sent.
pub record Record : Type 0 where
  pub carriers : List ℕ
  pub versions : List Version

-- The record before any request.
abbrev pub nothing : Record
nothing = record { carriers = []; versions = [] }

-- ---- carriers, ascending, without duplicates

abbrev pub is_among : ℕ → List ℕ → Bool
is_among c cs = list_any (λ d. d == c) cs

abbrev pub with_number : ℕ → List ℕ → List ℕ
with_number c [] = c ∷ []
with_number c (d ∷ ds) = if nat_lt c d then c ∷ d ∷ ds
    else (if c == d then d ∷ ds else d ∷ with_number c ds)

-- ---- broadcasts

abbrev pub is_open_outcome : Outcome → Bool
is_open_outcome Open = true
is_open_outcome AllAcknowledged = false
is_open_outcome SomeAcknowledged = false
is_open_outcome NoneAcknowledged = false

abbrev pub is_open_broadcast : Broadcast → Bool
is_open_broadcast b = is_open_outcome b.outcome

-- Whether a broadcast with this outcome is withdrawn from every queue: it closed with no
-- acknowledgement.
abbrev pub is_withdrawn_outcome : Outcome → Bool
is_withdrawn_outcome Open = false
is_withdrawn_outcome AllAcknowledged = false
is_withdrawn_outcome SomeAcknowledged = false
is_withdrawn_outcome NoneAcknowledged = true

abbrev pub is_withdrawn : Broadcast → Bool
is_withdrawn b = is_withdrawn_outcome b.outcome

-- The recipients that have not acknowledged.
abbrev pub unacknowledged : Broadcast → List ℕ
unacknowledged b = filter (λ c. not (is_among c b.acknowledged)) b.recipients

-- The carriers that the broadcast is pending for.
abbrev pub waiters : Broadcast → List ℕ
waiters b = if is_withdrawn b then [] else unacknowledged b

-- ---- versions in force and open

abbrev pub is_create : Send → Bool
is_create Create = true
is_create Delete = false
is_create (Modify routing) = false

abbrev pub in_force_status : Status → Bool
in_force_status Active = true
in_force_status PartialFailure = true
in_force_status (DisconnectPending release) = true
in_force_status (Sending action) = not (is_create action)
in_force_status Pending = false
in_force_status Conflict = false
in_force_status (CancelPending by) = false
in_force_status Failed = false
in_force_status Old = false
in_force_status Canceled = false

abbrev pub open_status : Status → Bool
open_status Pending = true
open_status Conflict = true
open_status (CancelPending by) = true
open_status Failed = true
open_status (Sending action) = is_create action
open_status Active = false
open_status PartialFailure = false
open_status (DisconnectPending release) = false
open_status Old = false
open_status Canceled = false

abbrev pub sends_create : Status → Bool
sends_create (Sending action) = is_create action
sends_create Pending = false
sends_create Conflict = false
sends_create (CancelPending by) = false
sends_create Failed = false
sends_create Active = false
sends_create PartialFailure = false
sends_create (DisconnectPending release) = false
sends_create Old = false
sends_create Canceled = false

-- Whether the version is in force: active, partial-failure, disconnect-pending, or sending a delete
-- or a modify.
abbrev pub in_force : Version → Bool
in_force v = in_force_status v.status

-- Whether a version with this status is open. A number's: pending, conflict, cancel-pending,
-- failed, or sending a create. A block's: only while it sends a create.
abbrev pub open_by : Subject → Status → Bool
open_by (Number n) status = open_status status
open_by (Block b) status = sends_create status

abbrev pub is_open : Subject → Version → Bool
is_open s v = open_by s v.status

-- The version in force.
abbrev pub version_in_force : Record → Option Version
version_in_force r = find in_force r.versions

-- The open version.
abbrev pub open_version : Subject → Record → Option Version
open_version s r = find (is_open s) r.versions

-- The version with this id.
abbrev pub version_with : ℕ → Record → Option Version
version_with id r = find (λ v. v.id == id) r.versions

-- The first version in the list.
abbrev pub first_of_versions : List Version → Option Version
first_of_versions [] = None
first_of_versions (v ∷ vs) = Some v

-- The newest version.
abbrev pub last_version : Record → Option Version
last_version r = first_of_versions r.versions
