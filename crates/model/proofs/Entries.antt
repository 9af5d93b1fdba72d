-- What an accepted entry may do to the versions of a subject.
use Rattle.std.proofs.Common.{◌≡◌, ℕ, Bool, true, false, cond, not, ◌&&◌, ◌||◌, List, [], ◌∷◌, map, Option, Some, None, refl, ap, sym, ◌∙◌, subst}
use Rattle.std.specs.Prelude.{if◌then◌else◌, find, is_some, is_none, ◌==◌, nat_lt}
use Rattle.numbers.specs.Subjects.{Subject, Number, Block, subject_eq}
use Rattle.numbers.specs.Routings.{Routing}
use Rattle.model.specs.Commands.{RegisterCarrier, OldProviderCreate, NewProviderCreate, VersionCommand, OnVersion, Activate, PutInConflict, RemoveFromConflict, Cancel, OldProviderCancellationAcknowledge, NewProviderCancellationAcknowledge, Disconnect, ModifyRouting, Release}
use Rattle.model.specs.Statuses.{Create, Delete, Modify}
use Rattle.model.specs.Statuses.{Status, Pending, Conflict, CancelPending, Sending, Active, PartialFailure, Failed, DisconnectPending, Canceled}
use Rattle.model.specs.declared.words.Side.{Side}
use Rattle.model.specs.declared.words.Outcome.TheVariants.{AllAcknowledged}
use Rattle.model.specs.Versions.{Version, version_with, in_force_status, open_by, in_force, is_open, open_version, first_of_versions}
use Rattle.model.specs.Changes.{with_status, next_attempt, completed, acknowledged_by, nobody_is_missing, acknowledged_broadcast, joined_by, of_id, changed_at}
use Rattle.model.specs.History.{Request, CommandRequest, AcknowledgementRequest, version_after_request, version_after_command, awaits_creates, lacks_old_create, lacks_new_create, with_old_create, with_new_create, disconnected, cancelled_by, side_of, has_both_creates}
use Rattle.model.specs.State.{State, SubjectVersion, record_now, version_of_id, set_now, made_now}
use Rattle.model.specs.Conditions.{holds_of, can_activate, can_cancel, is_pending, is_conflict, is_cancel_pending, is_active}
use Rattle.model.specs.OnVersion.{is_number}
use Rattle.model.specs.Refusals.{RequestFrom, refusal}
use Rattle.model.proofs.Lists.{everywhere}
use Rattle.numbers.proofs.Small.{true-false, and_first, and_second}
use Rattle.model.proofs.Accepted.{AcceptedCommand, accepted_command}
use Rattle.model.specs.Sound.{is_block, AreSound}
use Rattle.model.proofs.Unique.{Respects, RespectsEach, KeepsBeside, changed-sound, changed-sound_by_status, by_status, respect_each, StatusRespects, StatusesRespect, keeps, leaves, closed_outcome}
use Rattle.model.specs.Concerns.{has_id}
use Rattle.model.proofs.Elsewhere.{of_id-elsewhere}
use Rattle.model.proofs.Ids.{AreGiven, version_of_id_is, of_id-each, keeps_each, same_subject}
use Rattle.model.specs.Windows.{WindowSet}

-- ---- from status to status

activated : (s : Subject) (status : Status) → is_number s ≡ true → not (can_activate status) ≡ false
    → StatusRespects s status (Sending Create)
activated (Number n) Pending number may = record {
  forces = λ c now. cc;
  opens = λ o. refl;
  active = λ is. cc;
  block = λ is ok. cc;
}
activated (Number n) Failed number may = record {
  forces = λ c now. cc;
  opens = λ o. refl;
  active = λ is. cc;
  block = λ is ok. cc;
}
activated (Number n) _ number may = cc
activated (Block b) status number may = cc

put_in_conflict : (s : Subject) (status : Status) → is_number s ≡ true
    → not (is_pending status) ≡ false → StatusRespects s status Conflict
put_in_conflict (Number n) Pending number may = record {
  forces = λ c now. cc;
  opens = λ o. refl;
  active = λ is. cc;
  block = λ is ok. cc;
}
put_in_conflict (Number n) _ number may = cc
put_in_conflict (Block b) status number may = cc

removed : (s : Subject) (status : Status) → is_number s ≡ true → not (is_conflict status) ≡ false
    → StatusRespects s status Pending
removed (Number n) Conflict number may = record {
  forces = λ c now. cc;
  opens = λ o. refl;
  active = λ is. cc;
  block = λ is ok. cc;
}
removed (Number n) _ number may = cc
removed (Block b) status number may = cc

acknowledged : (s : Subject) (status : Status) → is_number s ≡ true
    → not (is_cancel_pending status) ≡ false → StatusRespects s status Canceled
acknowledged (Number n) (CancelPending by) number may =
    leaves (Number n) (CancelPending by) Canceled refl refl (λ is. cc) (λ is ok. cc)
acknowledged (Number n) _ number may = cc
acknowledged (Block b) status number may = cc

to_cancel : (w : WindowSet) (n : ℕ) (by : Side) (minute : ℕ) (v : Version) (b : Bool) (old : Status)
    → (old ≡ Active → ⊥) → open_by (Number n) old ≡ true →
    StatusRespects (Number n) old (if b then with_status w (CancelPending by) minute v
    else with_status w Canceled minute v).status
to_cancel w n by minute v true old inactive opened = record {
  forces = λ c now. cc;
  opens = λ o. opened;
  active = λ is. absurd (inactive is);
  block = λ is ok. cc;
}
to_cancel w n by minute v false old inactive opened =
    leaves (Number n) old Canceled refl refl inactive (λ is ok. cc)

cancelled : (w : WindowSet) (caller minute : ℕ) (s : Subject) (v : Version) (status : Status)
    → is_number s ≡ true → not (can_cancel status) ≡ false →
    StatusRespects s status (cancelled_by w status caller minute v).status
cancelled w caller minute (Number n) v Pending number may =
    to_cancel w n (side_of caller v.old_provider) minute v (has_both_creates v.old_at v.new_at)
    Pending (λ is. cc) refl
cancelled w caller minute (Number n) v Conflict number may =
    to_cancel w n (side_of caller v.old_provider) minute v (has_both_creates v.old_at v.new_at)
    Conflict (λ is. cc) refl
cancelled w caller minute (Number n) v Failed number may =
    leaves (Number n) Failed Canceled refl refl (λ is. cc) (λ is ok. cc)
cancelled w caller minute (Number n) v (DisconnectPending release) number may = record {
  forces = λ c now. refl;
  opens = λ o. cc;
  active = λ is. refl;
  block = λ is ok. cc;
}
cancelled w caller minute (Number n) v _ number may = cc
cancelled w caller minute (Block b) v status number may = cc

whole : (w : WindowSet) (s : Subject) (status : Status) (minute : ℕ) (v : Version)
    → v.status ≡ status → StatusRespects s status (completed w status minute v).status
whole w s (Sending action) minute v e = closed_outcome s action AllAcknowledged
whole w s PartialFailure minute v e = partial s
  where
    partial : (t : Subject) → StatusRespects t PartialFailure Active
    partial (Number n) = record {
      forces = λ c now. refl;
      opens = λ o. cc;
      active = λ is. refl;
      block = λ is ok. cc;
    }
    partial (Block b) = record {
      forces = λ c now. refl;
      opens = λ o. cc;
      active = λ is. refl;
      block = λ is ok. refl;
    }
whole w s status minute v e = rw e (keeps s status)

answered : (w : WindowSet) (s : Subject) (c attempt minute : ℕ) (v : Version)
    → StatusRespects s v.status (acknowledged_by w c attempt minute v).status
answered w s c attempt minute v =
    by_cases (nobody_is_missing (map (acknowledged_broadcast c attempt) v.broadcasts))
  where
    by_cases : (b : Bool) → StatusRespects s v.status
        (if b then completed w v.status minute (record v {
          broadcasts = map (acknowledged_broadcast c attempt) v.broadcasts;
        }) else record v {
          broadcasts = map (acknowledged_broadcast c attempt) v.broadcasts;
        }).status
    by_cases true = whole w s v.status minute (record v {
      broadcasts = map (acknowledged_broadcast c attempt) v.broadcasts;
    }) refl
    by_cases false = keeps s v.status

pub all_keep : (s : Subject) (change : Version → Version)
    → ((v : Version) → (change v).status ≡ v.status) → (vs : List Version)
    → StatusesRespect s change vs
all_keep s change same vs =
    everywhere (λ v. subst (λ (t : Status). StatusRespects s v.status t) (sym (same v))
    (keeps s v.status)) vs

-- ---- what the tests say of the version that a command names

module _ (st : State) (s : Subject) (given : AreGiven (made_now st) s
    (record_now st s).versions) where
  pub named_test : (id : ℕ) (v : Version) (test : Version → Bool)
      → version_with id (record_now st s) ≡ Some v →
      holds_of (λ (e : SubjectVersion). test e.version) (version_of_id st id) ≡ false
      → test v ≡ false
  named_test id v test found none =
      sym (ap (holds_of (λ (e : SubjectVersion). test e.version)) (version_of_id_is st s id v given
      found)) ∙ none

  pub named_number : (id : ℕ) (v : Version) → version_with id (record_now st s) ≡ Some v →
      not (holds_of (λ (e : SubjectVersion). is_number e.subject) (version_of_id st id)) ≡ false
      → is_number s ≡ true
  named_number id v found none =
      by_cases (is_number s)
      (ap (λ o. not (holds_of (λ (e : SubjectVersion). is_number e.subject) o))
      (sym (version_of_id_is st s id v given found)) ∙ none)
    where
      by_cases : (b : Bool) → not b ≡ false → b ≡ true
      by_cases true e = refl
      by_cases false e = cc

  -- ---- commands on an id, except a disconnect

  -- A command that goes by the version's status keeps the record sound.
  command-sound : (caller id : ℕ) (all_carriers : List ℕ) (c : VersionCommand)
      → AcceptedCommand st caller (OnVersion id c) →
      ((v : Version) → version_with id (record_now st s) ≡ Some v → is_number s ≡ true
      → StatusRespects s v.status (version_after_command (set_now st) caller st.now all_carriers c
      v).status) →
      AreSound s (record_now st s).versions
      → AreSound s (changed_at (set_now st) st.now
      (of_id id (version_after_command (set_now st) caller st.now all_carriers c))
      (record_now st s).versions)
  command-sound caller id all_carriers c accepted each sound =
      changed-sound_by_status (set_now st) s st.now
      (of_id id (version_after_command (set_now st) caller st.now all_carriers c))
      (record_now st s).versions
      (of_id-each (λ v u. StatusRespects s v.status u.status) (λ v. keeps s v.status)
      (made_now st) s id (version_after_command (set_now st) caller st.now all_carriers c)
      (record_now st s).versions given
      (λ v found. each v found (named_number id v found (accepted 10)))) sound

  -- ---- acknowledgements and registrations, which need no acceptance

  pub acknowledge-respects : (caller id attempt : ℕ) (all_carriers : List ℕ) →
      StatusesRespect s (version_after_request (set_now st) s caller st.now all_carriers
      (AcknowledgementRequest id attempt))
      (record_now st s).versions
  acknowledge-respects caller id attempt all_carriers =
      of_id-each (λ v u. StatusRespects s v.status u.status) (λ v. keeps s v.status)
      (made_now st) s id (acknowledged_by (set_now st) caller attempt st.now)
      (record_now st s).versions given
      (λ v found. answered (set_now st) s caller attempt st.now v)

  pub register-respects : (caller spid : ℕ) (all_carriers : List ℕ) →
      StatusesRespect s (version_after_request (set_now st) s caller st.now all_carriers
      (CommandRequest (RegisterCarrier spid))) (record_now st s).versions
  register-respects caller spid all_carriers =
      all_keep s (joined_by spid) (λ v. refl) (record_now st s).versions

delete_is_closed : (s : Subject) → open_by s (Sending Delete) ≡ false
delete_is_closed (Number n) = refl
delete_is_closed (Block b) = refl

modify_is_closed : (s : Subject) (routing : Routing) → open_by s (Sending (Modify routing)) ≡ false
modify_is_closed (Number n) routing = refl
modify_is_closed (Block b) routing = refl

pub active_is_closed : (s : Subject) → open_by s Active ≡ false
active_is_closed (Number n) = refl
active_is_closed (Block b) = refl

waiting_is_closed : (s : Subject) (release : ℕ) → open_by s (DisconnectPending release) ≡ false
waiting_is_closed (Number n) release = refl
waiting_is_closed (Block b) release = refl

-- ---- second creates, which need no acceptance

to_conflict : (s : Subject) (tn : ℕ) (status : Status) → subject_eq s (Number tn) ≡ true
    → awaits_creates status ≡ true → StatusRespects s status Conflict
to_conflict (Number n) tn Pending same awaits = record {
  forces = λ c now. cc;
  opens = λ o. refl;
  active = λ is. cc;
  block = λ is ok. cc;
}
to_conflict (Number n) tn Conflict same awaits = keeps (Number n) Conflict
to_conflict (Number n) tn _ same awaits = cc
to_conflict (Block b) tn status same awaits = cc

answered_by_old : (w : WindowSet) (s : Subject) (tn minute : ℕ) (authorized : Bool) (v : Version)
    → subject_eq s (Number tn) ≡ true → awaits_creates v.status ≡ true →
    StatusRespects s v.status (with_old_create w authorized minute v).status
answered_by_old w s tn minute true v same awaits = keeps s v.status
answered_by_old w s tn minute false v same awaits = to_conflict s tn v.status same awaits

pub old_create-respects : (w : WindowSet) (s : Subject) (caller minute : ℕ) (all_carriers : List ℕ)
    (tn old_provider new_provider due : ℕ) (authorized : Bool) (vs : List Version) →
    StatusesRespect s (version_after_request w s caller minute all_carriers
    (CommandRequest (OldProviderCreate tn old_provider new_provider due authorized))) vs
old_create-respects w s caller minute all_carriers tn old_provider new_provider due authorized vs =
    everywhere (λ v. by_cases v (subject_eq s (Number tn) && lacks_old_create old_provider
    new_provider v)
    refl) vs
  where
    by_cases : (v : Version) (b : Bool)
        → (subject_eq s (Number tn) && lacks_old_create old_provider new_provider v) ≡ b
        → StatusRespects s v.status (if b then with_old_create w authorized minute v else v).status
    by_cases v true e =
        answered_by_old w s tn minute authorized v (and_first (subject_eq s (Number tn))
        (lacks_old_create old_provider new_provider v) e)
        (and_first (awaits_creates v.status) ((v.old_provider == old_provider)
        && (v.new_provider == new_provider))
        (and_first (awaits_creates v.status && ((v.old_provider == old_provider)
        && (v.new_provider == new_provider))) (is_none v.old_at)
        (and_second (subject_eq s (Number tn)) (lacks_old_create old_provider new_provider v) e)))
    by_cases v false e = keeps s v.status

pub new_create-respects : (w : WindowSet) (s : Subject) (caller minute : ℕ) (all_carriers : List ℕ)
    (tn old_provider new_provider due lrn : ℕ) (cic : Option ℕ) (vs : List Version) →
    StatusesRespect s (version_after_request w s caller minute all_carriers
    (CommandRequest (NewProviderCreate tn old_provider new_provider due lrn cic))) vs
new_create-respects w s caller minute all_carriers tn old_provider new_provider due lrn cic vs =
    everywhere (λ v. by_cases v (subject_eq s (Number tn) && lacks_new_create old_provider
    new_provider
    v)) vs
  where
    by_cases : (v : Version) (b : Bool) → StatusRespects s v.status (if b
        then with_new_create (record { lrn = lrn; cic = cic }) minute v else v).status
    by_cases v true = keeps s v.status
    by_cases v false = keeps s v.status

-- ---- a disconnect and a modify, which are refused beside an open version

find_none : (id : ℕ) (vs : List Version) → find (λ u. u.id == id) vs ≡ None → has_id id vs ≡ false
find_none id [] none = refl
find_none id (v ∷ vs) none = by_cases (λ rest. find_none id vs rest) (v.id == id) none
  where
    by_cases : (find (λ u. u.id == id) vs ≡ None → has_id id vs ≡ false) → (b : Bool)
        → cond b (Some v) (find (λ u. u.id == id) vs) ≡ None → (b || has_id id vs) ≡ false
    by_cases later true some = cc
    by_cases later false rest = later rest

pub is_active-is : (status : Status) → not (is_active status) ≡ false → status ≡ Active
is_active-is Active may = refl
is_active-is _ may = cc

no_block : (s : Subject) → is_number s ≡ true → is_block s ≡ false
no_block (Number n) is = refl
no_block (Block b) is = cc

from_active : (w : WindowSet) (s : Subject) (release : Option ℕ) (all_carriers : List ℕ)
    (minute : ℕ)
    (v : Version) → is_block s ≡ false → v.status ≡ Active
    → Respects s v (disconnected w release all_carriers minute v)
from_active w s None all_carriers minute v number active = record {
  forces = λ c now. ap in_force_status active;
  opens = λ opened. absurd (true-false (open_by s (Sending Delete)) opened (delete_is_closed s));
  block = λ is ok. refl;
}
from_active w s (Some release) all_carriers minute v number active =
    by_cases (nat_lt minute release)
  where
    by_cases : (b : Bool)
        → Respects s v (if b then with_status w (DisconnectPending release) minute v
        else next_attempt w Delete all_carriers minute v)
    by_cases true = record {
      forces = λ c now. ap in_force_status active;
      opens = λ opened. absurd (true-false (open_by s (DisconnectPending release)) opened
          (waiting_is_closed s release));
      block = λ is ok. true-false (is_block s) is number;
    }
    by_cases false = record {
      forces = λ c now. ap in_force_status active;
      opens = λ opened. absurd (true-false (open_by s (Sending Delete)) opened
          (delete_is_closed s));
      block = λ is ok. refl;
    }

modified_from : (w : WindowSet) (s : Subject) (routing : Routing) (all_carriers : List ℕ)
    (minute : ℕ)
    (v : Version) → v.status ≡ Active
    → Respects s v (next_attempt w (Modify routing) all_carriers minute v)
modified_from w s routing all_carriers minute v active = record {
  forces = λ c now. ap in_force_status active;
  opens = λ opened. absurd (true-false (open_by s (Sending (Modify routing))) opened
      (modify_is_closed s routing));
  block = λ is ok. refl;
}

-- If no version is open, nothing is beside an open one.
none_beside : (s : Subject) (change : Version → Version) (vs : List Version)
    → is_some (find (is_open s) vs) ≡ false → KeepsBeside s change vs
none_beside s change [] none = tt
none_beside s change (v ∷ vs) none =
    λ opened. absurd (let some : is_some (find (is_open s) (v ∷ vs)) ≡ true =
    ap (λ b. is_some (cond b (Some v) (find (is_open s) vs))) opened in
    let both : true ≡ false = sym some ∙ none in cc)

module _ (st : State) (s : Subject) (given : AreGiven (made_now st) s
    (record_now st s).versions) where
  -- A command on an active version that is refused beside an open one keeps the record sound.
  active-sound : (id : ℕ) (change : Version → Version)
      → ((v : Version) → version_with id (record_now st s) ≡ Some v → Respects s v (change v)) →
      holds_of (λ (e : SubjectVersion). is_some (open_version e.subject (record_now st e.subject)))
      (version_of_id st id) ≡ false →
      AreSound s (record_now st s).versions
      → AreSound s (changed_at (set_now st) st.now (of_id id change) (record_now st s).versions)
  active-sound id change respects alone sound = by_cases (version_with id (record_now st s)) refl
    where
      by_cases : (o : Option Version) → version_with id (record_now st s) ≡ o
          → AreSound s (changed_at (set_now st) st.now (of_id id change) (record_now st s).versions)
      by_cases None none =
          changed-sound_by_status (set_now st) s st.now (of_id id change) (record_now st s).versions
          (keeps_each s (of_id id change) (record_now st s).versions
          (of_id-elsewhere id change (record_now st s).versions
          (find_none id (record_now st s).versions none)))
          sound
      by_cases (Some v) found =
          changed-sound (set_now st) s st.now (of_id id change) (record_now st s).versions
          (of_id-each (Respects s) (λ v. by_status s v v (keeps s v.status))
          (made_now st) s id change (record_now st s).versions given respects)
          (none_beside s (of_id id change) (record_now st s).versions
          (sym (ap (holds_of (λ (e : SubjectVersion). is_some
          (open_version e.subject (record_now st e.subject)))) (version_of_id_is st s id v given
          found)) ∙ alone))
          sound

-- Whether a command changes an active version.
abbrev is_from_active : VersionCommand → Bool
is_from_active (Disconnect release) = true
is_from_active (ModifyRouting lrn cic) = true
is_from_active _ = false

module _ (st : State) (s : Subject) (given : AreGiven (made_now st) s
    (record_now st s).versions) where
  -- An accepted command that does not change an active version leads from its status to a permitted
  -- one.
  version-status : (caller id : ℕ) (all_carriers : List ℕ) (c : VersionCommand)
      → AcceptedCommand st caller (OnVersion id c) → (v : Version)
      → version_with id (record_now st s) ≡ Some v → is_number s ≡ true →
      is_from_active c ≡ false
      → StatusRespects s v.status (version_after_command (set_now st) caller st.now all_carriers c
      v).status
  version-status caller id all_carriers Activate accepted v found number other =
      activated s v.status number (named_test st s given id v (λ u. not (can_activate u.status))
      found (accepted 13))
  version-status caller id all_carriers PutInConflict accepted v found number other =
      put_in_conflict s v.status number (named_test st s given id v (λ u. not (is_pending u.status))
      found (accepted 13))
  version-status caller id all_carriers RemoveFromConflict accepted v found number other =
      removed s v.status number (named_test st s given id v (λ u. not (is_conflict u.status)) found
      (accepted 13))
  version-status caller id all_carriers Cancel accepted v found number other =
      cancelled (set_now st) caller st.now s v v.status number
      (named_test st s given id v (λ u. not (can_cancel u.status)) found (accepted 13))
  version-status caller id all_carriers OldProviderCancellationAcknowledge accepted v found number
      other = acknowledged s v.status number
      (named_test st s given id v (λ u. not (is_cancel_pending u.status)) found
      (accepted 13))
  version-status caller id all_carriers NewProviderCancellationAcknowledge accepted v found number
      other = acknowledged s v.status number
      (named_test st s given id v (λ u. not (is_cancel_pending u.status)) found
      (accepted 13))
  version-status caller id all_carriers (Disconnect release) accepted v found number other = cc
  version-status caller id all_carriers (ModifyRouting lrn cic) accepted v found number other = cc

  -- An accepted command neither opens nor brings into force a version that was neither.
  version-respects : (caller id : ℕ) (all_carriers : List ℕ) (c : VersionCommand)
      → AcceptedCommand st caller (OnVersion id c) →
      (v : Version) → version_with id (record_now st s) ≡ Some v
      → Respects s v (version_after_command (set_now st) caller st.now all_carriers c v)
  version-respects caller id all_carriers (Disconnect release) accepted v found =
      from_active (set_now st) s release all_carriers st.now v
      (no_block s (named_number st s given id v found (accepted 10)))
      (is_active-is v.status (named_test st s given id v (λ x. not (is_active x.status)) found
      (accepted 13)))
  version-respects caller id all_carriers (ModifyRouting lrn cic) accepted v found =
      modified_from (set_now st) s (record { lrn = lrn; cic = cic }) all_carriers st.now v
      (is_active-is v.status (named_test st s given id v (λ x. not (is_active x.status)) found
      (accepted 13)))
  version-respects caller id all_carriers c accepted v found =
      by_status s v (version_after_command (set_now st) caller st.now all_carriers c v)
      (version-status caller id all_carriers c accepted v found (named_number st s given id v found
      (accepted 10)) refl)

  -- An accepted command keeps the record sound.
  pub version-sound : (caller id : ℕ) (all_carriers : List ℕ) (c : VersionCommand)
      → AcceptedCommand st caller (OnVersion id c) →
      AreSound s (record_now st s).versions
      → AreSound s (changed_at (set_now st) st.now (version_after_request (set_now st) s caller
      st.now all_carriers
      (CommandRequest (OnVersion id c))) (record_now st s).versions)
  version-sound caller id all_carriers (Disconnect release) accepted sound =
      active-sound st s given id (version_after_command (set_now st) caller st.now all_carriers
      (Disconnect release)) (version-respects caller id all_carriers (Disconnect release) accepted)
      (accepted 12) sound
  version-sound caller id all_carriers (ModifyRouting lrn cic) accepted sound =
      active-sound st s given id (version_after_command (set_now st) caller st.now all_carriers
      (ModifyRouting lrn cic)) (version-respects caller id all_carriers (ModifyRouting lrn cic)
      accepted) (accepted 12) sound
  version-sound caller id all_carriers c accepted sound =
      command-sound st s given caller id all_carriers c accepted (λ v found number. version-status
      caller id all_carriers c accepted v found number refl) sound

-- ---- a release

released_each : (w : WindowSet) (s : Subject) (block minute : ℕ) (all_carriers : List ℕ)
    (vs : List Version) →
    RespectsEach s (λ v. if subject_eq s (Block block) && in_force v
    then next_attempt w Delete all_carriers minute v else v) vs
released_each w s block minute all_carriers vs =
    everywhere (λ v. by_cases v (subject_eq s (Block block) && in_force v) refl) vs
  where
    by_cases : (v : Version) (b : Bool) → (subject_eq s (Block block) && in_force v) ≡ b
        → Respects s v (if b then next_attempt w Delete all_carriers minute v else v)
    by_cases v true e = record {
      forces = λ c now. and_second (subject_eq s (Block block)) (in_force v) e;
      opens = λ opened. absurd (true-false (open_by s (Sending Delete)) opened
          (delete_is_closed s));
      block = λ is ok. refl;
    }
    by_cases v false e = by_status s v v (keeps s v.status)

-- If the last version is active, none is open.
active_beside : (s : Subject) (change : Version → Version) (vs : List Version) →
    holds_of (λ (v : Version). not (is_active v.status)) (first_of_versions vs) ≡ false
    → KeepsBeside s change vs
active_beside s change [] none = tt
active_beside s change (v ∷ vs) none =
    λ opened. absurd (true-false (open_by s v.status) opened
    (ap (open_by s) (is_active-is v.status none) ∙ active_is_closed s))

other_subject : (w : WindowSet) (s : Subject) (block minute : ℕ) (all_carriers : List ℕ)
    (vs : List Version) → subject_eq s (Block block) ≡ false →
    StatusesRespect s (λ v. if subject_eq s (Block block) && in_force v
    then next_attempt w Delete all_carriers minute v else v) vs
other_subject w s block minute all_carriers vs other =
    everywhere (λ v. subst (λ b. StatusRespects s v.status (if b && in_force v
    then next_attempt w Delete all_carriers minute v else v).status) (sym other) (keeps s v.status))
    vs

-- An accepted release keeps each record sound.
pub release-sound : (st : State) (s : Subject) (caller block : ℕ) (all_carriers : List ℕ)
    → AcceptedCommand st caller (Release block) →
    AreSound s (record_now st s).versions
    → AreSound s (changed_at (set_now st) st.now (version_after_request (set_now st) s caller st.now
    all_carriers
    (CommandRequest (Release block))) (record_now st s).versions)
release-sound st s caller block all_carriers accepted sound =
    by_cases (subject_eq s (Block block)) refl
  where
    by_cases : (b : Bool) → subject_eq s (Block block) ≡ b
        → AreSound s (changed_at (set_now st) st.now (version_after_request (set_now st) s caller
        st.now all_carriers
        (CommandRequest (Release block))) (record_now st s).versions)
    by_cases true e =
        changed-sound (set_now st) s st.now (version_after_request (set_now st) s caller st.now
        all_carriers
        (CommandRequest (Release block))) (record_now st s).versions
        (released_each (set_now st) s block st.now all_carriers (record_now st s).versions)
        (active_beside s (version_after_request (set_now st) s caller st.now all_carriers
        (CommandRequest (Release block)))
        (record_now st s).versions
        (ap (λ t. holds_of (λ (v : Version). not (is_active v.status))
        (first_of_versions (record_now st t).versions)) (sym (same_subject s (Block block) e))
        ∙ accepted 13))
        sound
    by_cases false e =
        changed-sound_by_status (set_now st) s st.now (version_after_request (set_now st) s caller
        st.now all_carriers
        (CommandRequest (Release block))) (record_now st s).versions
        (other_subject (set_now st) s block st.now all_carriers (record_now st s).versions e) sound

-- ---- every accepted entry

-- No accepted entry opens a closed version, or brings one into force that is neither open nor in
-- force.
pub entry-respects : (st : State) (s : Subject)
    → AreGiven (made_now st) s (record_now st s).versions
    → (caller : ℕ) (all_carriers : List ℕ) (request : Request) →
    refusal st (RequestFrom caller request) ≡ None
    → RespectsEach s (version_after_request (set_now st) s caller st.now all_carriers request)
    (record_now st s).versions
entry-respects st s given caller all_carriers (CommandRequest (RegisterCarrier spid)) ok =
    respect_each s _ _ (register-respects st s given caller spid all_carriers)
entry-respects st s given caller all_carriers
    (CommandRequest (OldProviderCreate tn old_provider new_provider due authorized)) ok =
    respect_each s _ _ (old_create-respects (set_now st) s caller st.now all_carriers tn
    old_provider
    new_provider due authorized (record_now st s).versions)
entry-respects st s given caller all_carriers
    (CommandRequest (NewProviderCreate tn old_provider new_provider due lrn cic)) ok =
    respect_each s _ _ (new_create-respects (set_now st) s caller st.now all_carriers tn
    old_provider
    new_provider due lrn cic (record_now st s).versions)
entry-respects st s given caller all_carriers (CommandRequest (OnVersion id c)) ok =
    of_id-each (Respects s) (λ v. by_status s v v (keeps s v.status))
    (made_now st) s id (version_after_command (set_now st) caller st.now all_carriers c)
    (record_now st s).versions given
    (version-respects st s given caller id all_carriers c
    (accepted_command st caller (OnVersion id c)
    ok))
entry-respects st s given caller all_carriers (CommandRequest (Release block)) ok =
    released_each (set_now st) s block st.now all_carriers (record_now st s).versions
entry-respects st s given caller all_carriers (AcknowledgementRequest id attempt) ok =
    respect_each s _ _ (acknowledge-respects st s given caller id attempt all_carriers)
entry-respects st s given caller all_carriers _ ok =
    respect_each s _ _ (all_keep s (λ v. v) (λ v. refl) (record_now st s).versions)
