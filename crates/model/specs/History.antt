-- The accepted requests, newest first, and the records that they make of each subject.
use Rattle.std.specs.Prelude.{ℕ, suc, ◌+◌, Bool, true, false, ◌&&◌, ◌==◌, nat_lt, List, [], ◌∷◌, ◌++◌, map, filter, length, Option, Some, None, is_some, is_none, unwrap_or, if◌then◌else◌, ⊤, ◌<◌}
use Rattle.std.specs.List.{list_any}
use Rattle.numbers.specs.Digits.{number_in}
use Rattle.numbers.specs.Subjects.{subject_eq, Subject, Number, Block}
use Rattle.numbers.specs.Routings.{Routing}
use Rattle.model.specs.Commands.{Command, VersionCommand, RegisterCarrier, RegisterRoutingNumber, OpenCode, OldProviderCreate, NewProviderCreate, OnVersion, Activate, PutInConflict, RemoveFromConflict, Cancel, OldProviderCancellationAcknowledge, NewProviderCancellationAcknowledge, Disconnect, ModifyRouting, Donate, Assign, Release, SetWindows}
use Rattle.model.specs.Statuses.{Create, Delete, Modify, Status, Pending, Conflict, CancelPending, Sending, Active, PartialFailure, Failed, DisconnectPending, Old, Canceled}
use Rattle.model.specs.declared.words.Side.{Side}
use Rattle.model.specs.declared.words.Side.TheVariants.{OldProvider, NewProvider}
use Rattle.model.specs.Windows.{Windows, AreWindows, WindowSet, first_set}
use Rattle.model.specs.Versions.{Version, Record, nothing, with_number, in_force, version_in_force}
use Rattle.model.specs.Changes.{with_status, next_attempt, acknowledged_by, joined_by, changed_at, of_id}
use Rattle.model.specs.Judge.{judged}

-- ---- entries

-- A caller's request: a command, or the acknowledgement of an attempt of a version.
pub data Request : Type 0 where
  CommandRequest : (command : Command) → Request
  AcknowledgementRequest : (id attempt : ℕ) → Request

-- An accepted request, with its minute and its caller.
pub record Entry : Type 0 where
  pub minute : ℕ
  pub caller : ℕ
  pub request : Request

-- Holds if each line of a donation is below 1,000: three digits.
abbrev pub AreLines : List ℕ → Type 0
AreLines [] = ⊤
AreLines (line ∷ lines) = (line < 1000) × AreLines lines

-- Holds if the values of a request are of their types: the lines of a donation, and windows of at
-- least a minute. Other requests have no such values.
abbrev pub HasValues : Request → Type 0
HasValues (CommandRequest (Donate block used lrn cic)) = AreLines used
HasValues (CommandRequest (RegisterCarrier spid)) = ⊤
HasValues (CommandRequest (RegisterRoutingNumber lrn)) = ⊤
HasValues (CommandRequest (OpenCode code spid)) = ⊤
HasValues (CommandRequest (OldProviderCreate tn old_provider new_provider due authorized)) = ⊤
HasValues (CommandRequest (NewProviderCreate tn old_provider new_provider due lrn cic)) = ⊤
HasValues (CommandRequest (OnVersion id command)) = ⊤
HasValues (CommandRequest (Assign block holder lrn cic)) = ⊤
HasValues (CommandRequest (Release block)) = ⊤
HasValues (CommandRequest (SetWindows windows)) = AreWindows windows
HasValues (AcknowledgementRequest id attempt) = ⊤

-- ---- the registry, searched in the history

-- The value, or else the other one.
abbrev pub or_else : {A : Type 0} → Option A → Option A → Option A
or_else None other = other
or_else (Some x) other = Some x

-- What `named` returns for the newest entry that it has a value for.
abbrev pub search_history : {A : Type 0} → (Entry → Option A) → List Entry → Option A
search_history named [] = None
search_history named (e ∷ h) = or_else (named e) (search_history named h)

-- The carrier that a request registers.
abbrev pub carrier_named : Request → Option ℕ
carrier_named (CommandRequest (RegisterCarrier spid)) = Some spid
carrier_named _ = None

-- The carriers after a registration, ascending, without duplicates.
abbrev pub carrier_added : Option ℕ → List ℕ → List ℕ
carrier_added None cs = cs
carrier_added (Some c) cs = with_number c cs

-- All registered carriers, ascending, without duplicates.
abbrev pub carriers : List Entry → List ℕ
carriers [] = []
carriers (e ∷ h) = carrier_added (carrier_named e.request) (carriers h)

-- The carrier that registers this routing number, if the request does.
abbrev pub lrn_named : ℕ → ℕ → Request → Option ℕ
lrn_named lrn caller (CommandRequest (RegisterRoutingNumber l)) = if l == lrn then Some caller
    else None
lrn_named lrn caller _ = None

-- The carrier that registered the routing number.
abbrev pub lrn_owner : ℕ → List Entry → Option ℕ
lrn_owner lrn h = search_history (λ e. lrn_named lrn e.caller e.request) h

-- The carrier that the request opens this code for, if it does.
abbrev pub code_named : ℕ → Request → Option ℕ
code_named code (CommandRequest (OpenCode c spid)) = if c == code then Some spid else None
code_named code _ = None

-- The carrier that the code was opened for.
abbrev pub code_holder : ℕ → List Entry → Option ℕ
code_holder code h = search_history (λ e. code_named code e.request) h

-- The carrier that donates this block, if the request does.
abbrev pub donor_named : ℕ → ℕ → Request → Option ℕ
donor_named block caller (CommandRequest (Donate b used lrn cic)) = if b == block then Some caller
    else None
donor_named block caller _ = None

-- The carrier that donated the block.
abbrev pub donor_of : ℕ → List Entry → Option ℕ
donor_of block h = search_history (λ e. donor_named block e.caller e.request) h

-- ---- sets of windows

-- The windows that a request sets.
abbrev pub windows_named : Request → Option Windows
windows_named (CommandRequest (SetWindows windows)) = Some windows
windows_named _ = None

-- The next set if windows are set, and this one otherwise.
abbrev pub set_added : Option Windows → WindowSet → WindowSet
set_added None set = set
set_added (Some windows) set = record { number = set.number + 1; windows = windows }

-- The present set: the one that was set last, or the first set.
abbrev pub present_set : Windows → List Entry → WindowSet
present_set w [] = first_set w
present_set w (e ∷ h) = set_added (windows_named e.request) (present_set w h)

-- The set if it has this number, and the other one otherwise.
abbrev pub set_if : ℕ → WindowSet → Option WindowSet → Option WindowSet
set_if number set other = if set.number == number then Some set else other

abbrev pub set_named : ℕ → Option Windows → WindowSet → Option WindowSet → Option WindowSet
set_named number None last other = other
set_named number (Some windows) last other = set_if number (set_added (Some windows) last) other

-- The set with this number, if there is one.
abbrev pub set_of_number : ℕ → Windows → List Entry → Option WindowSet
set_of_number number w [] = set_if number (first_set w) None
set_of_number number w (e ∷ h) =
    set_named number (windows_named e.request) (present_set w h) (set_of_number number w h)

-- ---- creates

-- Whether a version with this status may still get a second create: it is pending or in conflict.
abbrev pub awaits_creates : Status → Bool
awaits_creates Pending = true
awaits_creates Conflict = true
awaits_creates (CancelPending by) = false
awaits_creates (Sending action) = false
awaits_creates Active = false
awaits_creates PartialFailure = false
awaits_creates Failed = false
awaits_creates (DisconnectPending release) = false
awaits_creates Old = false
awaits_creates Canceled = false

-- Whether a create is the second one of a version: the version may still get it, names the same
-- providers, and lacks the create of the caller's side. It takes fields, so that it applies to a
-- row too.
abbrev pub lacks_create : (old_provider new_provider : ℕ) → Status → (its_old its_new : ℕ)
    → (made_at : Option ℕ) → Bool
lacks_create old_provider new_provider status its_old its_new made_at =
    awaits_creates status && ((its_old == old_provider) && (its_new == new_provider)) && is_none
    made_at

abbrev pub lacks_old_create : ℕ → ℕ → Version → Bool
lacks_old_create old_provider new_provider v =
    lacks_create old_provider new_provider v.status v.old_provider v.new_provider v.old_at

abbrev pub lacks_new_create : ℕ → ℕ → Version → Bool
lacks_new_create old_provider new_provider v =
    lacks_create old_provider new_provider v.status v.old_provider v.new_provider v.new_at

-- The version with the new provider's create, made at this minute.
abbrev pub with_new_create : Routing → ℕ → Version → Version
with_new_create routing minute v = record v { new_at = Some minute; routing = Some routing }

abbrev pub has_both_creates : (old_at new_at : Option ℕ) → Bool
has_both_creates old_at new_at = is_some old_at && is_some new_at

-- The side of one of a version's two providers.
abbrev pub side_of : (provider old_provider : ℕ) → Side
side_of provider old_provider = if provider == old_provider then OldProvider else NewProvider

-- ---- what a request does to an existing version

-- `present` is the present set of windows, which judges a version that changes from then on.
module _ (present : WindowSet) where
  -- The version with the old provider's create, made at this minute. Without authorization it
  -- enters conflict, and its one conflict is spent.
  abbrev pub with_old_create : Bool → ℕ → Version → Version
  with_old_create authorized minute v =
      if authorized
      then record v { old_at = Some minute }
      else record (with_status present Conflict minute v) { old_at = Some minute; spent = true }

  -- The version after a cancel that precedes its activation. With both creates it is cancel-pending
  -- until the other provider acknowledges; otherwise it is canceled.
  abbrev pub cancelled_before_sending : ℕ → ℕ → Version → Version
  cancelled_before_sending caller minute v =
      if has_both_creates v.old_at v.new_at
      then with_status present (CancelPending (side_of caller v.old_provider)) minute v
      else with_status present Canceled minute v

  -- The version after a cancel in this status. In the statuses that stay as they are a cancel is
  -- refused.
  abbrev pub cancelled_by : Status → ℕ → ℕ → Version → Version
  cancelled_by Pending caller minute v = cancelled_before_sending caller minute v
  cancelled_by Conflict caller minute v = cancelled_before_sending caller minute v
  cancelled_by Failed caller minute v = with_status present Canceled minute v
  cancelled_by (DisconnectPending release) caller minute v = with_status present Active minute v
  cancelled_by (CancelPending by) caller minute v = v
  cancelled_by (Sending action) caller minute v = v
  cancelled_by Active caller minute v = v
  cancelled_by PartialFailure caller minute v = v
  cancelled_by Old caller minute v = v
  cancelled_by Canceled caller minute v = v

  -- The version after a disconnect. If its release minute is still to come it is
  -- disconnect-pending; otherwise it sends a delete.
  abbrev pub disconnected : Option ℕ → List ℕ → ℕ → Version → Version
  disconnected None all_carriers minute v = next_attempt present Delete all_carriers minute v
  disconnected (Some release) all_carriers minute v =
      if nat_lt minute release
      then with_status present (DisconnectPending release) minute v
      else next_attempt present Delete all_carriers minute v

  -- The version after a command that names it.
  abbrev pub version_after_command : (caller minute : ℕ) → (all_carriers : List ℕ) → VersionCommand
      → Version
      → Version
  version_after_command caller minute all_carriers Activate v =
      next_attempt present Create all_carriers minute v
  version_after_command caller minute all_carriers PutInConflict v =
      record (with_status present Conflict minute v) { spent = true }
  version_after_command caller minute all_carriers RemoveFromConflict v =
      with_status present Pending minute v
  version_after_command caller minute all_carriers Cancel v = cancelled_by v.status caller minute v
  version_after_command caller minute all_carriers OldProviderCancellationAcknowledge v =
      with_status present Canceled minute v
  version_after_command caller minute all_carriers NewProviderCancellationAcknowledge v =
      with_status present Canceled minute v
  version_after_command caller minute all_carriers (Disconnect release) v =
      disconnected release all_carriers minute v
  version_after_command caller minute all_carriers (ModifyRouting lrn cic) v =
      next_attempt present (Modify (record { lrn = lrn; cic = cic })) all_carriers minute v

  -- A version of subject s after a request.
  abbrev pub version_after_request : Subject → ℕ → ℕ → List ℕ → Request → Version → Version
  version_after_request s caller minute all_carriers (CommandRequest (RegisterCarrier spid)) v =
      joined_by spid v
  version_after_request s caller minute all_carriers (CommandRequest (RegisterRoutingNumber lrn))
      v = v
  version_after_request s caller minute all_carriers (CommandRequest (OpenCode code spid)) v = v
  version_after_request s caller minute all_carriers
      (CommandRequest (OldProviderCreate tn old_provider new_provider due authorized)) v =
      if subject_eq s (Number tn) && lacks_old_create old_provider new_provider v
      then with_old_create authorized minute v else v
  version_after_request s caller minute all_carriers
      (CommandRequest (NewProviderCreate tn old_provider new_provider due lrn
      cic)) v =
      if subject_eq s (Number tn) && lacks_new_create old_provider new_provider v
      then with_new_create (record { lrn = lrn; cic = cic }) minute v else v
  version_after_request s caller minute all_carriers (CommandRequest (OnVersion id c)) v =
      of_id id (version_after_command caller minute all_carriers c) v
  version_after_request s caller minute all_carriers (CommandRequest (Donate block used lrn cic))
      v = v
  version_after_request s caller minute all_carriers (CommandRequest (Assign block holder lrn cic))
      v = v
  version_after_request s caller minute all_carriers (CommandRequest (SetWindows windows)) v = v
  version_after_request s caller minute all_carriers (CommandRequest (Release block)) v =
      if subject_eq s (Block block) && in_force v
      then next_attempt present Delete all_carriers minute v else v
  version_after_request s caller minute all_carriers (AcknowledgementRequest id attempt) v =
      of_id id (acknowledged_by present caller attempt minute) v

-- ---- versions that a request makes

-- The numbers, ascending, without duplicates.
abbrev pub rising : List ℕ → List ℕ
rising [] = []
rising (n ∷ ns) = with_number n (rising ns)

-- The used numbers of a block, by their lines, ascending, without duplicates.
abbrev pub used_numbers : ℕ → List ℕ → List Subject
used_numbers block used = map (λ line. Number (number_in block line)) (rising used)

-- The subjects that a request makes a version for, in the order of their ids. `at` gives each
-- subject's record before the request.
abbrev pub subjects_made_by : Request → (Subject → Record) → List Subject
subjects_made_by (CommandRequest (OldProviderCreate tn old_provider new_provider due authorized))
    at =
    if list_any (lacks_old_create old_provider new_provider) (at (Number tn)).versions then []
    else Number tn ∷ []
subjects_made_by (CommandRequest (NewProviderCreate tn old_provider new_provider due lrn cic)) at =
    if list_any (lacks_new_create old_provider new_provider) (at (Number tn)).versions then []
    else Number tn ∷ []
subjects_made_by (CommandRequest (Donate block used lrn cic)) at =
    filter (λ s. is_none (version_in_force (at s))) (used_numbers block used)
subjects_made_by (CommandRequest (Assign block holder lrn cic)) at = Block block ∷ []
subjects_made_by (CommandRequest (RegisterCarrier spid)) at = []
subjects_made_by (CommandRequest (RegisterRoutingNumber lrn)) at = []
subjects_made_by (CommandRequest (OpenCode code spid)) at = []
subjects_made_by (CommandRequest (OnVersion id command)) at = []
subjects_made_by (CommandRequest (Release block)) at = []
subjects_made_by (CommandRequest (SetWindows windows)) at = []
subjects_made_by (AcknowledgementRequest id attempt) at = []

module _ (present : WindowSet) where
  -- A new version: pending, without creates, routing and broadcasts.
  abbrev pub blank_version : ℕ → ℕ → ℕ → ℕ → ℕ → Version
  blank_version id old_provider new_provider due minute = record {
    id = id;
    old_provider = old_provider;
    new_provider = new_provider;
    due = due;
    routing = None;
    old_at = None;
    new_at = None;
    status = Pending;
    since = minute;
    held = present;
    attempt = 0;
    spent = false;
    protective = false;
    broadcasts = [];
  }

  -- The version that a request makes. An assigned block has a donor. The version is never used for
  -- a request that makes none (`subjects_made_by`).
  abbrev pub made_version : ℕ → ℕ → ℕ → List ℕ → Option ℕ → Request → Version
  made_version id caller minute all_carriers donor
      (CommandRequest (OldProviderCreate tn old_provider new_provider due authorized)) =
      with_old_create present authorized minute (blank_version id old_provider new_provider due
      minute)
  made_version id caller minute all_carriers donor
      (CommandRequest (NewProviderCreate tn old_provider new_provider due lrn cic)) =
      with_new_create (record { lrn = lrn; cic = cic }) minute
      (blank_version id old_provider new_provider due minute)
  made_version id caller minute all_carriers donor (CommandRequest (Donate block used lrn cic)) =
      next_attempt present Create all_carriers minute
      (record (blank_version id caller caller minute minute) {
        routing = Some (record { lrn = lrn; cic = cic });
        protective = true;
      })
  made_version id caller minute all_carriers donor (CommandRequest (Assign block holder lrn cic)) =
      next_attempt present Create all_carriers minute
      (record (blank_version id (unwrap_or donor 0) holder minute minute) {
        routing =
            Some (record { lrn = lrn; cic = cic });
      })
  made_version id caller minute all_carriers donor (CommandRequest (RegisterCarrier spid)) =
      blank_version id caller caller minute minute
  made_version id caller minute all_carriers donor (CommandRequest (RegisterRoutingNumber lrn)) =
      blank_version id caller caller minute minute
  made_version id caller minute all_carriers donor (CommandRequest (OpenCode code spid)) =
      blank_version id caller caller minute minute
  made_version id caller minute all_carriers donor (CommandRequest (OnVersion its_id command)) =
      blank_version id caller caller minute minute
  made_version id caller minute all_carriers donor (CommandRequest (Release block)) =
      blank_version id caller caller minute minute
  made_version id caller minute all_carriers donor (CommandRequest (SetWindows windows)) =
      blank_version id caller caller minute minute
  made_version id caller minute all_carriers donor (AcknowledgementRequest its_id attempt) =
      blank_version id caller caller minute minute

-- The id of the version that is made for s, if one is. The subjects take ids in turn, the first of
-- them `id`.
abbrev pub id_among : Subject → ℕ → List Subject → Option ℕ
id_among s id [] = None
id_among s id (t ∷ ts) = if subject_eq s t then Some id else id_among s (suc id) ts

-- The block that an assignment names. Other requests use no donor, so any number serves for them.
abbrev pub assigned_block : Request → ℕ
assigned_block (CommandRequest (Assign block holder lrn cic)) = block
assigned_block (CommandRequest (RegisterCarrier spid)) = 0
assigned_block (CommandRequest (RegisterRoutingNumber lrn)) = 0
assigned_block (CommandRequest (OpenCode code spid)) = 0
assigned_block (CommandRequest (OldProviderCreate tn old_provider new_provider due authorized)) = 0
assigned_block (CommandRequest (NewProviderCreate tn old_provider new_provider due lrn cic)) = 0
assigned_block (CommandRequest (OnVersion id command)) = 0
assigned_block (CommandRequest (Donate block used lrn cic)) = 0
assigned_block (CommandRequest (Release block)) = 0
assigned_block (CommandRequest (SetWindows windows)) = 0
assigned_block (AcknowledgementRequest id attempt) = 0

-- The versions, after the new one if one is made.
abbrev pub with_made : Option ℕ → (ℕ → Version) → List Version → List Version
with_made None made vs = vs
with_made (Some id) made vs = made id ∷ vs

-- ---- the replay

-- Records made from a history: the subjects that the versions 1, 2, .. were made for, and each
-- subject's record at each minute from that of the newest entry on.
pub record Replay : Type 0 where
  pub made : List Subject
  pub at : Subject → ℕ → Record

-- The id of the next version. Ids are given in turn, from 1 on.
abbrev pub next_after : List Subject → ℕ
next_after made = 1 + length made

-- The record of s after one entry. `present` is the present set of windows before the entry; `made`
-- is the id of the version that it makes for s, if it makes one.
unfoldable pub effect : WindowSet → Subject → Option ℕ → Option ℕ → Entry → Record → Record
effect present s made donor e r = record {
  carriers = carrier_added (carrier_named e.request) r.carriers;
  versions = with_made made (λ id. made_version present id e.caller e.minute r.carriers donor
      e.request)
      (changed_at present e.minute (version_after_request present s e.caller e.minute r.carriers
      e.request)
      r.versions);
}

-- The replay with one more entry. `present` is the present set of windows before the entry. Each
-- minute after the entry is judged before any entry of that minute, by the set that this entry
-- leaves.
unfoldable pub replay_step : WindowSet → Entry → Option ℕ → Replay → Replay
replay_step present e donor before =
    let new = subjects_made_by e.request (λ s. before.at s e.minute) in
    record {
      made = before.made ++ new;
      at = λ s m. judged (set_added (windows_named e.request) present) e.minute m
          (effect present s (id_among s (next_after before.made) new) donor e
          (before.at s e.minute));
    }

-- The replay of the empty history: no version.
abbrev pub empty_replay : Replay
empty_replay = record { made = []; at = λ s m. nothing }

-- The replay of a history that begins with these windows.
unfoldable pub replay_of : Windows → List Entry → Replay
replay_of w [] = empty_replay
replay_of w (e ∷ h) = replay_step (present_set w h) e (donor_of (assigned_block e.request) h)
    (replay_of w h)

-- The record of a subject at a minute that is not before the newest entry's.
abbrev pub replay : Windows → Subject → List Entry → ℕ → Record
replay w s h m = (replay_of w h).at s m

-- The subjects that versions were made for, in the order of the ids.
abbrev pub subjects_made : Windows → List Entry → List Subject
subjects_made w h = (replay_of w h).made

-- The id of the next version.
abbrev pub next_id : Windows → List Entry → ℕ
next_id w h = next_after (subjects_made w h)

-- The subject that the version with this id was made for, if the first in the list has the id
-- `from`.
abbrev pub subject_of_id : ℕ → ℕ → List Subject → Option Subject
subject_of_id id from [] = None
subject_of_id id from (s ∷ ss) = if id == from then Some s else subject_of_id id (suc from) ss
