-- What a state tells: the service and the routing of a number, a carrier's queue, and a carrier's
-- copy.
use Rattle.std.specs.Prelude.{ℕ, suc, ◌+◌, ◌-◌, Bool, true, false, not, ◌&&◌, ◌||◌, ◌==◌, nat_lt, List, [], ◌∷◌, map, filter, flat_map, Option, Some, None, option_map, option_and_then, if◌then◌else◌}
use Rattle.std.specs.List.{list_any, cons_option}
use Rattle.numbers.specs.Digits.{code_of, block_of}
use Rattle.numbers.specs.Subjects.{subject_lt, Subject, Number, Block}
use Rattle.numbers.specs.Routings.{Routing}
use Rattle.model.specs.Commands.{RegisterCarrier}
use Rattle.model.specs.declared.words.Action.{Action}
use Rattle.model.specs.Statuses.{Status, Pending, Conflict, CancelPending, Sending, Active, PartialFailure, Failed, DisconnectPending, Old, Canceled}
use Rattle.model.specs.Windows.{Windows, WindowSet}
use Rattle.model.specs.Versions.{Broadcast, Version, Record, is_among, in_force, version_in_force, open_version, version_with, waiters, is_withdrawn, is_open_broadcast}
use Rattle.model.specs.History.{Request, Entry, CommandRequest, AcknowledgementRequest, carriers, code_holder, donor_of, present_set, replay, subjects_made, next_id, subject_of_id, or_else}

-- The first windows of the store, the accepted requests, newest first, and the minute.
pub record State : Type 0 where
  pub windows : Windows
  pub history : List Entry
  pub now : ℕ

abbrev pub first_state : Windows → State
first_state w = record { windows = w; history = []; now = 0 }

-- The present set of windows.
abbrev pub set_now : State → WindowSet
set_now st = present_set st.windows st.history

-- The record of a subject now.
abbrev pub record_now : State → Subject → Record
record_now st s = replay st.windows s st.history st.now

-- The subjects that versions were made for up to now, in the order of the ids.
abbrev pub made_now : State → List Subject
made_now st = subjects_made st.windows st.history

-- The id of the next version.
abbrev pub next_of : State → ℕ
next_of st = next_id st.windows st.history

abbrev pub is_carrier : State → ℕ → Bool
is_carrier st c = is_among c (carriers st.history)

-- ---- versions of all subjects

-- A version with its subject.
pub record SubjectVersion : Type 0 where
  pub subject : Subject
  pub version : Version

abbrev pub versions_of : State → Subject → List SubjectVersion
versions_of st s = map (λ v. record { subject = s; version = v }) (record_now st s).versions

abbrev pub of_its_subject : Subject → Option Version → Option SubjectVersion
of_its_subject s v = option_map (λ u. record { subject = s; version = u }) v

-- The versions that were made for these subjects, if the first of them has the id `from`.
abbrev pub versions_made : (Subject → Record) → ℕ → List Subject → List SubjectVersion
versions_made at from [] = []
versions_made at from (s ∷ ss) =
    cons_option (of_its_subject s (version_with from (at s))) (versions_made at (suc from) ss)

-- All versions, ordered by id.
abbrev pub all_versions : State → List SubjectVersion
all_versions st = versions_made (record_now st) 1 (made_now st)

-- The version with this id.
abbrev pub version_of_id : State → ℕ → Option SubjectVersion
version_of_id st id = option_and_then (λ s. of_its_subject s (version_with id (record_now st s)))
    (subject_of_id id 1 (made_now st))

-- ---- routing and service

-- The routing of the version in force.
abbrev pub routing_in_force : Record → Option Routing
routing_in_force r = option_and_then (λ v. v.routing) (version_in_force r)

-- The routing of calls to a number, by its version in force or else by its block's.
abbrev pub routing_of : State → ℕ → Option Routing
routing_of st n = elim (version_in_force (record_now st (Number n))) [
  | Some v ↦ v.routing
  | None ↦ routing_in_force (record_now st (Block (block_of n)))
]

-- Who serves a number: a version's or a block's new provider, nobody while it is in the pool, or
-- the holder of its code.
pub data Server : Type 0 where
  ByVersion : ℕ → Server
  ByBlock : ℕ → Server
  InPool : Server
  ByCode : Option ℕ → Server

-- Who serves by a donated block: the holder of its version in force. Without one the numbers are in
-- the pool.
abbrev pub served_by_block : Option Version → Server
served_by_block (Some v) = ByBlock v.new_provider
served_by_block None = InPool

-- Who serves a number without a version in force and without a protective open one: its block, if
-- that is donated, or else the holder of its code.
abbrev pub served_by_code : State → ℕ → Server
served_by_code st n = elim (donor_of (block_of n) st.history) [
  | Some donor ↦ served_by_block (version_in_force (record_now st (Block (block_of n))))
  | None ↦ ByCode (code_holder (code_of n) st.history)
]

-- The new provider of the open version if that is protective, and the other server otherwise.
abbrev pub protected_by : Option Version → Server → Server
protected_by (Some v) other = if v.protective then ByVersion v.new_provider else other
protected_by None other = other

-- Who serves a number: the new provider of its version in force, or else of its open version if
-- that is protective, or else its block or code.
abbrev pub serving : State → ℕ → Server
serving st n = elim (version_in_force (record_now st (Number n))) [
  | Some v ↦ ByVersion v.new_provider
  | None ↦ protected_by (open_version (Number n) (record_now st (Number n))) (served_by_code st n)
]

abbrev pub is_served_by : ℕ → Server → Bool
is_served_by c (ByVersion d) = c == d
is_served_by c (ByBlock d) = c == d
is_served_by c InPool = false
is_served_by c (ByCode (Some d)) = c == d
is_served_by c (ByCode None) = false

-- The row of a version in force.
pub record InForce : Type 0 where
  pub subject : Subject
  pub routing : Option Routing

abbrev pub row_inserted : InForce → List InForce → List InForce
row_inserted r [] = r ∷ []
row_inserted r (q ∷ qs) = if subject_lt r.subject q.subject then r ∷ q ∷ qs
    else q ∷ row_inserted r qs

abbrev pub rows_in_force : List SubjectVersion → List InForce
rows_in_force [] = []
rows_in_force (e ∷ es) = if in_force e.version then row_inserted (record {
  subject = e.subject;
  routing = e.version.routing;
}) (rows_in_force es) else rows_in_force es

-- The rows of all versions in force, ordered by subject.
abbrev pub all_in_force : State → List InForce
all_in_force st = rows_in_force (all_versions st)

-- ---- broadcasts and queues

-- A broadcast as a carrier receives it.
pub record Download : Type 0 where
  pub id : ℕ
  pub attempt : ℕ
  pub minute : ℕ
  pub subject : Subject
  pub action : Action
  pub routing : Option Routing

abbrev pub download : SubjectVersion → Broadcast → Download
download e b = record {
  id = e.version.id;
  attempt = b.attempt;
  minute = b.minute;
  subject = e.subject;
  action = b.action;
  routing = b.routing;
}

-- The downloads of those broadcasts of a version that pass the test.
abbrev pub downloads_of : (Broadcast → Bool) → SubjectVersion → List Download
downloads_of test e = map (download e) (filter test e.version.broadcasts)

-- Whether a is earlier than b, by minute, then id, then attempt.
abbrev pub is_before : Download → Download → Bool
is_before a b =
    nat_lt a.minute b.minute
    || ((a.minute == b.minute)
    && (nat_lt a.id b.id || ((a.id == b.id) && nat_lt a.attempt b.attempt)))

abbrev pub inserted : Download → List Download → List Download
inserted d [] = d ∷ []
inserted d (e ∷ es) = if is_before d e then d ∷ e ∷ es else e ∷ inserted d es

abbrev pub sorted : List Download → List Download
sorted [] = []
sorted (d ∷ ds) = inserted d (sorted ds)

-- A carrier's queue: the broadcasts that were sent to it, are not withdrawn, and that it has not
-- acknowledged, earliest first.
unfoldable pub queue : State → ℕ → List Download
queue st c = sorted (flat_map (downloads_of (λ b. is_among c (waiters b))) (all_versions st))

-- Whether any broadcast is open.
abbrev pub any_open : State → Bool
any_open st = list_any (λ e. list_any is_open_broadcast e.version.broadcasts) (all_versions st)

-- The last download of the list.
abbrev pub last : List Download → Option Download
last [] = None
last (d ∷ ds) = or_else (last ds) (Some d)

-- ---- a carrier's copy, and what was published to it

-- Whether the request registers the carrier.
abbrev pub registers : ℕ → Request → Bool
registers c (CommandRequest (RegisterCarrier spid)) = spid == c
registers c _ = false

-- The starting row of a carrier's copy: the routing of the version of s that is in force when the
-- carrier registers.
abbrev pub starting_row : Windows → ℕ → Subject → List Entry → Option Routing
starting_row w c s [] = None
starting_row w c s (e ∷ h) = if registers c e.request then routing_in_force (replay w s h e.minute)
    else starting_row w c s h

-- The downloads of this version that a request of the carrier acknowledges: those of the attempt
-- that it names, if it names this version.
abbrev pub downloads_acknowledged : ℕ → ℕ → Request → SubjectVersion → List Download
downloads_acknowledged c caller (AcknowledgementRequest id attempt) e =
    if (caller == c) && (e.version.id == id) then downloads_of (λ b. b.attempt == attempt) e else []
downloads_acknowledged c caller (CommandRequest command) e = []

abbrev pub first_of : List Download → Option Download
first_of [] = None
first_of (d ∷ ds) = Some d

-- The routing of s in the carrier's copy. It starts with its starting row and takes what the
-- carrier acknowledges, in the order of the history.
unfoldable pub copy_of : Windows → ℕ → Subject → List Entry → Option Routing
copy_of w c s [] = None
copy_of w c s (e ∷ h) =
    if registers c e.request
    then routing_in_force (replay w s h e.minute)
    else (elim (first_of (flat_map (downloads_acknowledged c e.caller e.request)
    (map (λ v. record { subject = s; version = v }) (replay w s h e.minute).versions))) [
      | Some d ↦ d.routing
      | None ↦ copy_of w c s h
    ])

-- What was last published to the carrier about s: the routing, or none, of the last broadcast to it
-- that is not withdrawn. Without such a broadcast it is the starting row.
unfoldable pub published : State → ℕ → Subject → Option Routing
published st c s =
    elim (last (sorted
    (flat_map (downloads_of (λ b. is_among c b.recipients && not (is_withdrawn b)))
    (versions_of st s)))) [
      | Some d ↦ d.routing
      | None ↦ starting_row st.windows c s st.history
    ]

-- ---- the view of a version

-- The phase of two windows that follow each other.
pub data Phase : Type 0 where
  Initial : Phase
  Final : Phase
  Ended : Phase

abbrev pub phase_by : ℕ → ℕ → ℕ → Phase
phase_by initial final age = if nat_lt age initial then Initial
    else (if nat_lt age (initial + final) then Final else Ended)

-- Whether exactly one of the two creates was made.
abbrev pub has_one_create : (old_at new_at : Option ℕ) → Bool
has_one_create (Some m) None = true
has_one_create None (Some m) = true
has_one_create None None = false
has_one_create (Some m) (Some n) = false

-- The phase of a version's windows: of the concurrence windows while it is pending with one create,
-- and of the cancellation windows while it is cancel-pending.
abbrev pub phase_of : Windows → (now : ℕ) → (old_at new_at : Option ℕ) → (since : ℕ) → Status
    → Option Phase
phase_of w now old_at new_at since Pending =
    if has_one_create old_at new_at
    then Some (phase_by w.initial_concurrence w.final_concurrence (now - since))
    else None
phase_of w now old_at new_at since (CancelPending by) =
    Some (phase_by w.cancellation_initial w.cancellation_final (now - since))
phase_of w now old_at new_at since Conflict = None
phase_of w now old_at new_at since (Sending action) = None
phase_of w now old_at new_at since Active = None
phase_of w now old_at new_at since PartialFailure = None
phase_of w now old_at new_at since Failed = None
phase_of w now old_at new_at since (DisconnectPending release) = None
phase_of w now old_at new_at since Old = None
phase_of w now old_at new_at since Canceled = None

-- The minute of a planned disconnect.
abbrev pub release_of : Status → Option ℕ
release_of (DisconnectPending release) = Some release
release_of Pending = None
release_of Conflict = None
release_of (CancelPending by) = None
release_of (Sending action) = None
release_of Active = None
release_of PartialFailure = None
release_of Failed = None
release_of Old = None
release_of Canceled = None

-- A version as the register shows it.
pub record View : Type 0 where
  pub id : ℕ
  pub subject : Subject
  pub old_provider : ℕ
  pub new_provider : ℕ
  pub due : ℕ
  pub routing : Option Routing
  pub status : Status
  pub since : ℕ
  pub attempt : ℕ
  pub release : Option ℕ
  pub phase : Option Phase

abbrev pub view_of : State → SubjectVersion → View
view_of st e = record {
  id = e.version.id;
  subject = e.subject;
  old_provider = e.version.old_provider;
  new_provider = e.version.new_provider;
  due = e.version.due;
  routing = e.version.routing;
  status = e.version.status;
  since = e.version.since;
  attempt = e.version.attempt;
  release = release_of e.version.status;
  phase = phase_of e.version.held.windows st.now e.version.old_at e.version.new_at e.version.since
      e.version.status;
}
