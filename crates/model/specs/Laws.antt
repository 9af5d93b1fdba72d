-- Laws of the history machine, each the contract of a function (`laws.rt`).
use Rattle.std.specs.Prelude.{◌≡◌, ◌≢◌, ◌||◌, ℕ, suc, ◌≤◌, ◌<◌, Bool, true, false, not, is_some, List, [], ◌∷◌, ⊤, Option, Some, None, option_map, filter, length, find, option_and_then, map, ◌==◌, All, Contains}
use Rattle.std.specs.List.{list_any}
use Rattle.numbers.specs.Digits.{block_of}
use Rattle.numbers.specs.Subjects.{Subject, Number, Block, subject_eq, subject_lt}
use Rattle.numbers.specs.Routings.{Routing}
use Rattle.model.specs.Commands.{RegisterCarrier, RegisterRoutingNumber, OpenCode, OldProviderCreate, NewProviderCreate, VersionCommand, OnVersion, Donate, Assign, Release, SetWindows}
use Rattle.model.specs.declared.words.Action.{Action}
use Rattle.model.specs.Changes.{carries_routing}
use Rattle.model.specs.Statuses.{Status, Pending, Conflict, CancelPending, Sending, Active, PartialFailure, Failed, DisconnectPending, Old, Canceled}
use Rattle.model.specs.Windows.{Windows, AreWindows, WindowSet}
use Rattle.model.specs.Versions.{Broadcast, Version, Record, is_among, is_withdrawn, in_force, is_open, version_in_force, open_version, last_version}
use Rattle.model.specs.Judge.{is_expired, judge, judged, caught_up}
use Rattle.model.specs.History.{Request, CommandRequest, AcknowledgementRequest, HasValues, used_numbers, lacks_old_create, lacks_new_create}
use Rattle.model.specs.State.{State, Server, ByVersion, ByBlock, InPool, ByCode, serving, SubjectVersion, Download, InForce, first_state, set_now, is_carrier, record_now, version_of_id, view_of, download, is_before, all_in_force, queue, any_open, copy_of, published, next_of}
use Rattle.model.specs.Conditions.{holds_of}
use Rattle.model.specs.OnVersion.{version_tests, is_number}
use Rattle.model.specs.Refusals.{Input, RequestFrom, refusal, tests, has_open, owns, first_refusal, holds_at}
use Rattle.model.specs.Machine.{Shown, accepted, next, out, id_of_create, distinct_subjects, HasHistory}
use Rattle.model.specs.Copies.{copy_handed}
use Rattle.model.specs.Content.{Represents, empty_content}

-- Judging up to b and then up to c is judging up to c.
abbrev pub MinutesCompose : Type 0
MinutesCompose = (w : WindowSet) (a b c : ℕ) (r : Record) → a ≤ b → b ≤ c
    → judged w b c (judged w a b r) ≡ judged w a c r

-- Holds if no version's timer has expired at minute j.
abbrev pub IsQuiet : ℕ → List Version → Type 0
IsQuiet j [] = ⊤
IsQuiet j (v ∷ vs) = (is_expired j v v.status ≡ false) × IsQuiet j vs

-- If no timer expires before minute d, judging only d first does not change the record of minute d
-- or of any later one. Windows are at least a minute.
abbrev pub DeadlineSuffices : Type 0
DeadlineSuffices =
    (w : WindowSet) → AreWindows w.windows → (d now : ℕ) (r : Record) → d ≤ now
    → ((j : ℕ) → j < d → IsQuiet j r.versions) →
    caught_up w now (judge w d r) ≡ caught_up w now r

-- The empty content represents the first state.
abbrev pub EmptyRepresentsFirst : Type 0
EmptyRepresentsFirst = (w : Windows) → AreWindows w → Represents empty_content (first_state w)

-- Holds if some run of the machine leads to the state.
pub record IsReachable (st : State) : Type 0 where
  pub windows : AreWindows st.windows
  pub history : HasHistory st

-- Holds if a subject has at most one version in force and at most one open. Beside an open one, the
-- version in force is active.
pub record IsOrderly (s : Subject) (r : Record) : Type 0 where
  pub one_in_force : length (filter in_force r.versions) ≤ 1
  pub one_open : length (filter (is_open s) r.versions) ≤ 1
  pub beside_active : (o v : Version) → open_version s r ≡ Some o → version_in_force r ≡ Some v
      → v.status ≡ Active

-- In every reachable state each subject is orderly.
abbrev pub NoTwoActive : Type 0
NoTwoActive = (st : State) → IsReachable st → (s : Subject) → IsOrderly s (record_now st s)

-- From every reachable state, until the next request, at most two minutes change a subject's
-- record. A cancel-pending version may become conflict and then canceled. A disconnect-pending one
-- is sent and then closed. Beside either, no other version has a timer that still runs.
abbrev pub AtMostTwoFirings : Type 0
AtMostTwoFirings =
    (st : State) → IsReachable st → (s : Subject) →
    (d : ℕ) × (e : ℕ) × ((m : ℕ) → st.now ≤ m → suc m ≢ d → suc m ≢ e →
    judge (set_now st) (suc m) (judged (set_now st) st.now m (record_now st s))
    ≡ judged (set_now st) st.now m (record_now st s))

-- In every reachable state each version in force has a routing.
abbrev pub InForceIsRouted : Type 0
InForceIsRouted = (st : State) → IsReachable st → (s : Subject) (v : Version)
    → version_in_force (record_now st s) ≡ Some v → is_some v.routing ≡ true

-- Holds if a create or a modify has a routing, or a delete has none.
abbrev pub FitsAction : Action → Option Routing → Type 0
FitsAction action routing = is_some routing ≡ carries_routing action

-- In every reachable state each broadcast of each version has a routing that fits its action.
abbrev pub BroadcastsFitActions : Type 0
BroadcastsFitActions = (st : State) → IsReachable st → (s : Subject)
    → All (λ (v : Version). All (λ (b : Broadcast). FitsAction b.action b.routing) v.broadcasts)
    (record_now st s).versions

-- In every reachable state each download of each carrier's queue has one.
abbrev pub DownloadsFitActions : Type 0
DownloadsFitActions = (st : State) → IsReachable st → (c : ℕ)
    → All (λ (d : Download). FitsAction d.action d.routing) (queue st c)

-- Whether a request is on a version, or makes one. A donation makes any number of versions and is
-- answered with their ids, so it does not count.
abbrev pub is_on_version : Request → Bool
is_on_version (AcknowledgementRequest id attempt) = true
is_on_version (CommandRequest (OnVersion id c)) = true
is_on_version (CommandRequest (OldProviderCreate tn old_provider new_provider due authorized)) =
    true
is_on_version (CommandRequest (NewProviderCreate tn old_provider new_provider due lrn cic)) = true
is_on_version (CommandRequest (Assign block holder lrn cic)) = true
is_on_version (CommandRequest (Release block)) = true
is_on_version (CommandRequest (RegisterCarrier spid)) = false
is_on_version (CommandRequest (RegisterRoutingNumber lrn)) = false
is_on_version (CommandRequest (OpenCode code spid)) = false
is_on_version (CommandRequest (SetWindows windows)) = false
is_on_version (CommandRequest (Donate block used lrn cic)) = false

-- The id of the version that such a request is on, or makes.
abbrev pub id_shown : State → Request → Option ℕ
id_shown st (AcknowledgementRequest id attempt) = Some id
id_shown st (CommandRequest (OnVersion id c)) = Some id
id_shown st (CommandRequest (OldProviderCreate tn old_provider new_provider due authorized)) =
    Some (id_of_create st tn (lacks_old_create old_provider new_provider))
id_shown st (CommandRequest (NewProviderCreate tn old_provider new_provider due lrn cic)) =
    Some (id_of_create st tn (lacks_new_create old_provider new_provider))
id_shown st (CommandRequest (Assign block holder lrn cic)) = Some (next_of st)
id_shown st (CommandRequest (Release block)) =
    option_map (λ (v : Version). v.id) (last_version (record_now st (Block block)))
id_shown st (CommandRequest (RegisterCarrier spid)) = None
id_shown st (CommandRequest (RegisterRoutingNumber lrn)) = None
id_shown st (CommandRequest (OpenCode code spid)) = None
id_shown st (CommandRequest (SetWindows windows)) = None
id_shown st (CommandRequest (Donate block used lrn cic)) = None

-- Holds if the request is answered with the version with this id, as it is after the request.
pub record IsShownWith (st : State) (caller : ℕ) (request : Request) (id : ℕ) : Type 0 where
  pub shown : SubjectVersion
  pub has_id : shown.version.id ≡ id
  pub stands : version_of_id (accepted st (RequestFrom caller request)) id ≡ Some shown
  pub answer : out st (RequestFrom caller request)
      ≡ Shown (Some (view_of (accepted st (RequestFrom caller request)) shown))

-- In every reachable state an accepted request on a version, or one that makes one, is answered
-- with that version.
abbrev pub VersionIsShown : Type 0
VersionIsShown =
    (st : State) → IsReachable st → (caller : ℕ) (request : Request) → HasValues request
    → refusal st (RequestFrom caller request) ≡ None →
    is_on_version request ≡ true → (id : ℕ) × (id_shown st request ≡ Some id)
    × IsShownWith st caller request id

-- The refusal of a command on a version, from whether the caller is registered and from the version
-- found. It uses the command's own tests and no others.
abbrev pub version_table : State → (caller : ℕ) → VersionCommand → (known : Bool)
    → Option SubjectVersion → Option ℕ
version_table st caller c known found = first_refusal (
    (1, not known) ∷ (
      10,
      not (holds_of (λ (e : SubjectVersion). is_number e.subject) found),
    ) ∷ version_tests (set_now st).windows st.now caller (has_open st) (owns st) c found)

-- In every reachable state a command on a version is refused by these tests.
abbrev pub RefusedByOwnTests : Type 0
RefusedByOwnTests =
    (st : State) → IsReachable st → (caller id : ℕ) (c : VersionCommand) →
    refusal st (RequestFrom caller (CommandRequest (OnVersion id c))) ≡ version_table st caller c
    (is_carrier st caller) (version_of_id st id)

-- The refusal of any input has the least number whose test holds.
abbrev pub FirstRefusalIsLeast : Type 0
FirstRefusalIsLeast = (st : State) (input : Input) (k n : ℕ) → refusal st input ≡ Some k
    → holds_at n (tests st input) ≡ true → k ≤ n

-- Holds if no download about s is pending for the carrier.
abbrev pub NothingIsPending : State → ℕ → Subject → Type 0
NothingIsPending st c s = list_any (λ (d : Download). subject_eq d.subject s) (queue st c) ≡ false

-- In every reachable state a registered carrier's copy of a subject is what was published to it, if
-- no download about the subject is pending for it.
abbrev pub CopyIsPublished : Type 0
CopyIsPublished = (st : State) → IsReachable st → (c : ℕ) (s : Subject) → is_carrier st c ≡ true
    → NothingIsPending st c s → copy_of st.windows c s st.history ≡ published st c s

-- Whether a version with this status is in force and not sending: active, disconnect-pending or
-- partial-failure.
abbrev pub is_steady : Status → Bool
is_steady Active = true
is_steady (DisconnectPending release) = true
is_steady PartialFailure = true
is_steady (Sending action) = false
is_steady Pending = false
is_steady Conflict = false
is_steady (CancelPending by) = false
is_steady Failed = false
is_steady Old = false
is_steady Canceled = false

-- The routing of the version with such a status.
abbrev pub steady_routing : Record → Option Routing
steady_routing r =
    option_and_then (λ (v : Version). v.routing) (find (λ (v : Version). is_steady v.status)
    r.versions)

-- In every reachable state, if nothing is pending for a registered carrier and no broadcast is
-- open, its copy is the routings of these versions.
abbrev pub CopyIsInForce : Type 0
CopyIsInForce = (st : State) → IsReachable st → (c : ℕ) → is_carrier st c ≡ true → queue st c ≡ []
    → any_open st ≡ false → (s : Subject)
    → copy_of st.windows c s st.history ≡ steady_routing (record_now st s)

-- Holds if each of these downloads is later than d, by minute, id and attempt.
abbrev pub AllLater : Download → List Download → Type 0
AllLater d [] = ⊤
AllLater d (x ∷ xs) = (is_before d x ≡ true) × AllLater d xs

-- Holds if the downloads ascend by minute, id and attempt, without duplicates.
abbrev pub IsQueueSorted : List Download → Type 0
IsQueueSorted [] = ⊤
IsQueueSorted (d ∷ ds) = AllLater d ds × IsQueueSorted ds

-- Holds if the download is of a broadcast that was sent to the carrier, is not withdrawn, and that
-- the carrier has not acknowledged.
pub record IsSentTo (st : State) (c : ℕ) (d : Download) : Type 0 where
  pub at : SubjectVersion
  pub broadcast : Broadcast
  pub stands : version_of_id st d.id ≡ Some at
  pub sent : find (λ (b : Broadcast). b.attempt == d.attempt) at.version.broadcasts ≡ Some broadcast
  pub is : d ≡ download at broadcast
  pub kept : is_withdrawn broadcast ≡ false
  pub recipient : is_among c broadcast.recipients ≡ true
  pub missing : is_among c broadcast.acknowledged ≡ false

-- In every reachable state a carrier's queue ascends by minute, id and attempt, and has exactly
-- those downloads.
abbrev pub QueueIsPending : Type 0
QueueIsPending = (st : State) → IsReachable st → (c : ℕ) → IsQueueSorted (queue st c)
    × All (IsSentTo st c) (queue st c) × ((d : Download) → IsSentTo st c d
    → Contains (queue st c) d)

-- In every reachable state a carrier's copy starts with the rows of its registration. Then it takes
-- each download of its queue that the carrier acknowledged, in order.
abbrev pub CopyIsHanded : Type 0
CopyIsHanded = (st : State) → IsReachable st → (c : ℕ) (s : Subject)
    → copy_of st.windows c s st.history ≡ copy_handed st.windows c st.history s

-- Holds if each of these subjects is later than s.
abbrev pub AllAbove : Subject → List Subject → Type 0
AllAbove s [] = ⊤
AllAbove s (t ∷ ts) = (subject_lt s t ≡ true) × AllAbove s ts

-- Holds if the subjects ascend, without duplicates.
abbrev pub AreSubjectsSorted : List Subject → Type 0
AreSubjectsSorted [] = ⊤
AreSubjectsSorted (s ∷ ss) = AllAbove s ss × AreSubjectsSorted ss

-- Holds if the row is that of the version in force of its subject.
pub record IsRowInForce (st : State) (r : InForce) : Type 0 where
  pub version : Version
  pub stands : version_in_force (record_now st r.subject) ≡ Some version
  pub routing : r.routing ≡ version.routing

-- In every reachable state the list of what is in force ascends by subject, without duplicates, and
-- has exactly the versions in force.
abbrev pub InForceIsListed : Type 0
InForceIsListed =
    (st : State) → IsReachable st
    → AreSubjectsSorted (map (λ (r : InForce). r.subject) (all_in_force st))
    × All (IsRowInForce st) (all_in_force st)
    × ((s : Subject) (v : Version) → version_in_force (record_now st s) ≡ Some v
    → Contains (all_in_force st) (record { subject = s; routing = v.routing }))

-- `distinct_subjects` returns the same subjects, ascending, without duplicates.
abbrev pub SubjectsAreDistinct : Type 0
SubjectsAreDistinct = (ss : List Subject) → AreSubjectsSorted (distinct_subjects ss)
    × ((s : Subject) → (Contains (distinct_subjects ss) s → Contains ss s)
    × (Contains ss s → Contains (distinct_subjects ss) s))

-- ---- who serves a number, and commands on its block

-- The carrier that serves, if one does.
abbrev pub server_of : Server → Option ℕ
server_of (ByVersion c) = Some c
server_of (ByBlock c) = Some c
server_of InPool = None
server_of (ByCode holder) = holder

-- Holds if the same carrier serves the number in both states, or no carrier does.
abbrev pub KeepsService : State → State → ℕ → Type 0
KeepsService old new n = server_of (serving new n) ≡ server_of (serving old n)

-- In every reachable state a donation does not change who serves a number that it names as used, or
-- that has a version in force.
abbrev pub DonationKeepsService : Type 0
DonationKeepsService =
    (st : State) → IsReachable st → (caller block : ℕ) (used : List ℕ) (lrn : ℕ) (cic : Option ℕ)
    → HasValues (CommandRequest (Donate block used lrn cic)) →
    refusal st (RequestFrom caller (CommandRequest (Donate block used lrn cic))) ≡ None →
    (n : ℕ) → (list_any (subject_eq (Number n)) (used_numbers block used) || is_some
    (version_in_force (record_now st (Number n)))) ≡ true →
    KeepsService st (next st (RequestFrom caller (CommandRequest (Donate block used lrn cic)))) n

-- Whether neither an assignment nor a release may take the number from its carrier: it has a
-- version in force, or a protective one that is open.
abbrev pub is_retained : State → ℕ → Bool
is_retained st n =
    is_some (version_in_force (record_now st (Number n))) || holds_of
    (λ (v : Version). v.protective) (open_version (Number n) (record_now st (Number n)))

-- In every reachable state an assignment does not change who serves such a number.
abbrev pub AssignmentKeepsService : Type 0
AssignmentKeepsService =
    (st : State) → IsReachable st → (caller block holder lrn : ℕ) (cic : Option ℕ)
    → refusal st (RequestFrom caller (CommandRequest (Assign block holder lrn cic))) ≡ None →
    (n : ℕ) → is_retained st n ≡ true
    → KeepsService st (next st (RequestFrom caller (CommandRequest (Assign block holder lrn cic))))
    n

-- In every reachable state a release does not change who serves such a number.
abbrev pub ReleaseKeepsService : Type 0
ReleaseKeepsService =
    (st : State) → IsReachable st → (caller block : ℕ)
    → refusal st (RequestFrom caller (CommandRequest (Release block))) ≡ None →
    (n : ℕ) → is_retained st n ≡ true
    → KeepsService st (next st (RequestFrom caller (CommandRequest (Release block)))) n

-- In every reachable state no number of a block with a version in force has a protective version
-- that is open.
abbrev pub NoPortUnderBlock : Type 0
NoPortUnderBlock =
    (st : State) → IsReachable st → (n : ℕ)
    → is_some (version_in_force (record_now st (Block (block_of n)))) ≡ true →
    holds_of (λ (v : Version). v.protective) (open_version (Number n) (record_now st (Number n)))
    ≡ false
