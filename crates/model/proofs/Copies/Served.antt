-- In every record no version is in force that is older than one that is or was in force.
use Rattle.std.proofs.Common.{◌≡◌, ℕ, suc, Bool, true, false, not, ◌&&◌, ◌||◌, List, [], ◌∷◌, map, Option, Some, None, refl, ap, ◌∙◌}
use Rattle.std.specs.Prelude.{⊤, nat_lt, if◌then◌else◌}
use Rattle.std.specs.List.{AllByRecursion}
use Rattle.numbers.specs.Subjects.{Subject, Number, Block, subject_eq}
use Rattle.model.specs.Commands.{RegisterCarrier, OldProviderCreate, NewProviderCreate, VersionCommand, OnVersion, Activate, PutInConflict, RemoveFromConflict, Cancel, OldProviderCancellationAcknowledge, NewProviderCancellationAcknowledge, Disconnect, ModifyRouting, Release}
use Rattle.model.specs.Statuses.{Send}
use Rattle.model.specs.Statuses.{Create, Delete, Modify}
use Rattle.model.specs.declared.words.Outcome.{Outcome}
use Rattle.model.specs.declared.words.Outcome.TheVariants.{Open, AllAcknowledged, NoneAcknowledged}
use Rattle.model.specs.declared.words.Side.{Side}
use Rattle.model.specs.declared.words.Side.TheVariants.{OldProvider, NewProvider}
use Rattle.model.specs.Statuses.{Status, Pending, Conflict, CancelPending, Sending, Active, PartialFailure, Failed, DisconnectPending, Old, Canceled}
use Rattle.model.specs.Windows.{Windows, WindowSet}
use Rattle.model.specs.Versions.{Version, Record, in_force, in_force_status, open_by, sends_create, version_with}
use Rattle.model.specs.Changes.{with_status, next_attempt, status_after, outcome_at_end, completed, acknowledged_by, nobody_is_missing, changed_at, retired}
use Rattle.model.specs.Judge.{is_expired, version_on_expiry, judged_version, judge}
use Rattle.model.specs.History.{Request, Entry, CommandRequest, AcknowledgementRequest, effect, replay, subjects_made, subjects_made_by, made_version, with_made, version_after_request, version_after_command, cancelled_by, side_of, awaits_creates, has_both_creates, disconnected, with_old_create, with_new_create, lacks_old_create, lacks_new_create, next_after, id_among, donor_of, assigned_block, present_set}
use Rattle.model.specs.State.{State, record_now, set_now, made_now}
use Rattle.model.specs.Conditions.{is_active, can_activate, is_pending, is_conflict, is_cancel_pending}
use Rattle.model.specs.Refusals.{RequestFrom, refusal}
use Rattle.model.specs.Machine.{IsHistory}
use Rattle.model.specs.Sound.{NoneOpen, NoneInForce, AreSound}
use Rattle.numbers.proofs.Small.{true-false, and_first, and_second}
use Rattle.model.proofs.Lists.{everywhere}
use Rattle.model.proofs.Accepted.{AcceptedCommand, accepted_command}
use Rattle.model.proofs.Unique.{retired-none, retired-all}
use Rattle.model.proofs.Ids.{AreGiven, of_id-each}
use Rattle.model.proofs.Entries.{named_test, is_active-is}
use Rattle.model.proofs.Entered.{sound_now, given_now}
use Rattle.model.proofs.Moves.{answered_by}
use Rattle.model.proofs.Kept.{record_after, kept}

abbrev pub is_old : Status → Bool
is_old Old = true
is_old _ = false

-- Whether a version with this status is or was in force.
abbrev pub is_served : Status → Bool
is_served status = in_force_status status || is_old status

-- Holds if no version is in force that is older than one that is or was.
abbrev pub AreServed : List Version → Type 0
AreServed [] = ⊤
AreServed (v ∷ vs) = (is_served v.status ≡ true → NoneInForce vs) × AreServed vs

-- Whether a status may follow another. What is in force stays so or becomes old, what is old stays
-- so, and the rest stays out of force. A version that sends a create comes into force only if it
-- may supersede.
abbrev pub follows : (takes : Bool) → Status → Status → Bool
follows takes old new =
    if in_force_status old then is_served new
    else (if is_old old then is_old new
    else not (is_served new) || (takes && sends_create old && in_force_status new))

abbrev pub Follows : Bool → (Version → Version) → Version → Type 0
Follows takes change v = follows takes v.status (change v).status ≡ true

follows_itself : (takes : Bool) (status : Status) → follows takes status status ≡ true
follows_itself takes (Sending Create) = refl
follows_itself takes (Sending Delete) = refl
follows_itself takes (Sending (Modify routing)) = refl
follows_itself takes Pending = refl
follows_itself takes Conflict = refl
follows_itself takes (CancelPending by) = refl
follows_itself takes Active = refl
follows_itself takes PartialFailure = refl
follows_itself takes Failed = refl
follows_itself takes (DisconnectPending release) = refl
follows_itself takes Old = refl
follows_itself takes Canceled = refl

-- ---- what follows

pub closed_sends_none : (s : Subject) (status : Status) → open_by s status ≡ false
    → sends_create status ≡ false
closed_sends_none (Number n) (Sending Create) closed = cc
closed_sends_none (Block b) (Sending Create) closed = cc
closed_sends_none s (Sending Delete) closed = refl
closed_sends_none s (Sending (Modify routing)) closed = refl
closed_sends_none s _ closed = refl

-- A version that neither is in force nor sends a create stays out of force.
pub stays_out : (takes : Bool) (old new : Status) → follows takes old new ≡ true
    → sends_create old ≡ false → in_force_status old ≡ false → in_force_status new ≡ false
stays_out takes old new step idle out =
    by_cases takes (in_force_status old) (is_old old) (sends_create old) (in_force_status new)
    (is_old new) out idle refl (old_is new) step
  where
    old_is : (status : Status) → is_old status ≡ true → in_force_status status ≡ false
    old_is Old e = refl
    old_is _ e = cc

    by_cases : (t a b c x y : Bool) → a ≡ false → c ≡ false → in_force_status new ≡ x
        → (y ≡ true → in_force_status new ≡ false)
        → (if a then x || y else (if b then y else not (x || y) || (t && c && x))) ≡ true
        → in_force_status new ≡ false
    by_cases t true b c x y e f g h is = cc
    by_cases t false true c x y e f g h is = h is
    by_cases t false false c false y e f g h is = g
    by_cases t false false true true y e f g h is = cc
    by_cases true false false false true y e f g h is = cc
    by_cases false false false false true y e f g h is = cc

-- A version that is old was in force or old.
pub was_served : (takes : Bool) (old new : Status) → follows takes old new ≡ true
    → in_force_status new ≡ false → is_served new ≡ true → is_served old ≡ true
was_served takes old new step out served =
    by_cases takes (in_force_status old) (is_old old) (sends_create old) (in_force_status new)
    (is_old new) out served step
  where
    by_cases : (t a b c x y : Bool) → x ≡ false → (x || y) ≡ true
        → (if a then x || y else (if b then y else not (x || y) || (t && c && x))) ≡ true
        → (a || b) ≡ true
    by_cases t true b c x y e f is = refl
    by_cases t false true c x y e f is = refl
    by_cases t false false c true y e f is = cc
    by_cases t false false c false false e f is = cc
    by_cases true false false true false true e f is = cc
    by_cases true false false false false true e f is = cc
    by_cases false false false c false true e f is = cc

-- A version that is or was in force stays so.
pub still_served : (takes : Bool) (old new : Status) → follows takes old new ≡ true
    → is_served old ≡ true → is_served new ≡ true
still_served takes old new step served =
    by_cases (in_force_status old) (is_old old) (in_force_status new) (is_old new)
    (not (is_served new) || (takes && sends_create old && in_force_status new)) served step
  where
    by_cases : (a b x y z : Bool) → (a || b) ≡ true → (if a then x || y else (if b then y else z))
        ≡ true
        → (x || y) ≡ true
    by_cases true b x y z e is = is
    by_cases false true true y z e is = refl
    by_cases false true false y z e is = is
    by_cases false false x y z e is = cc

-- A version that comes into force sent a create, and may supersede.
pub taker : (takes : Bool) (old new : Status) → follows takes old new ≡ true
    → in_force_status old ≡ false → in_force_status new ≡ true → (takes ≡ true)
    × (sends_create old ≡ true)
taker takes old new step out now =
    by_cases takes (in_force_status old) (is_old old) (sends_create old) (in_force_status new)
    (is_old new) out now (old_is new) step
  where
    old_is : (status : Status) → is_old status ≡ true → in_force_status status ≡ false
    old_is Old e = refl
    old_is _ e = cc

    by_cases : (t a b c x y : Bool) → a ≡ false → x ≡ true
        → (y ≡ true → in_force_status new ≡ false)
        → (if a then x || y else (if b then y else not (x || y) || (t && c && x))) ≡ true
        → (t ≡ true) × (c ≡ true)
    by_cases t true b c x y e f g is = cc
    by_cases t false true c x y e f g is = true-false (in_force_status new) now (g is)
    by_cases true false false true true y e f g is = (refl, refl)
    by_cases true false false false true y e f g is = cc
    by_cases false false false c true y e f g is = cc
    by_cases t false false c false y e f g is = cc

-- ---- a change of each version keeps it

retired_served : (w : WindowSet) (b : Bool) (minute : ℕ) (vs : List Version) → AreServed vs
    → AreServed (map (retired w b minute) vs)
retired_served w b minute [] are = tt
retired_served w b minute (v ∷ vs) are =
    (by_cases b (in_force v) refl, retired_served w b minute vs are.1)
  where
    force_served : in_force v ≡ true → is_served v.status ≡ true
    force_served e = ap (λ t. t || is_old v.status) e

    by_cases : (x y : Bool) → in_force v ≡ y → is_served (if x && y then with_status w Old minute v
        else v).status ≡ true → NoneInForce (map (retired w b minute) vs)
    by_cases true true e is = retired-none w b minute vs (are.0 (force_served e))
    by_cases true false e is = retired-none w b minute vs (are.0 is)
    by_cases false y e is = retired-none w b minute vs (are.0 is)

module _ (w : WindowSet) (s : Subject) (takes : Bool) (minute : ℕ) (change : Version
    → Version) where
  none_changed : (vs : List Version) → AllByRecursion (Follows takes change) vs → NoneOpen s vs
      → NoneInForce vs → NoneInForce (changed_at w minute change vs)
  none_changed [] steps closed out = tt
  none_changed (v ∷ vs) steps closed out = (
    stays_out takes v.status (change v).status steps.0 (closed_sends_none s v.status closed.0)
        out.0,
    retired-none w (not (in_force v) && in_force (change v)) minute (changed_at w minute change vs)
        (none_changed vs steps.1 closed.1 out.1),
  )

  newest_served : (v : Version) (vs : List Version) → AllByRecursion (Follows takes change) (v ∷ vs)
      → NoneOpen s vs → AreServed (v ∷ vs) →
      is_served (change v).status ≡ true
      → NoneInForce (map (retired w (not (in_force v) && in_force (change v)) minute)
      (changed_at w minute change vs))
  newest_served v vs steps closed are = by_cases (in_force v) (in_force (change v)) refl refl
    where
      quiet : (b : Bool) → is_served v.status ≡ true
          → NoneInForce (map (retired w b minute) (changed_at w minute change vs))
      quiet b is =
          retired-none w b minute (changed_at w minute change vs) (none_changed vs steps.1 closed
          (are.0 is))

      by_cases : (x y : Bool) → in_force v ≡ x → in_force (change v) ≡ y
          → is_served (change v).status ≡ true
          → NoneInForce (map (retired w (not x && y) minute) (changed_at w minute change vs))
      by_cases true y e f is = quiet (not true && y) (ap (λ t. t || is_old v.status) e)
      by_cases false true e f is = retired-all w minute (changed_at w minute change vs)
      by_cases false false e f is =
          quiet (not false && false) (was_served takes v.status (change v).status steps.0 f is)

  behind_served : (vs : List Version) → AllByRecursion (Follows takes change) vs → NoneOpen s vs
      → AreServed vs → AreServed (changed_at w minute change vs)
  behind_served [] steps closed are = tt
  behind_served (v ∷ vs) steps closed are = (
    newest_served v vs steps closed.1 are,
    retired_served w (not (in_force v) && in_force (change v)) minute
        (changed_at w minute change vs) (behind_served vs steps.1 closed.1 are.1),
  )

  changed_served : (vs : List Version) → AllByRecursion (Follows takes change) vs → AreSound s vs
      → AreServed vs → AreServed (changed_at w minute change vs)
  changed_served [] steps sound are = tt
  changed_served (v ∷ vs) steps sound are = (
    newest_served v vs steps sound.0 are,
    retired_served w (not (in_force v) && in_force (change v)) minute
        (changed_at w minute change vs) (behind_served vs steps.1 sound.0 are.1),
  )

-- ---- minutes

closed_follows : (action : Send) (outcome : Outcome)
    → follows true (Sending action) (status_after action outcome) ≡ true
closed_follows Create Open = refl
closed_follows Create NoneAcknowledged = refl
closed_follows Create _ = refl
closed_follows Delete Open = refl
closed_follows Delete _ = refl
closed_follows (Modify routing) Open = refl
closed_follows (Modify routing) _ = refl

pub judged_follows : (w : WindowSet) (all_carriers : List ℕ) (j : ℕ) (v : Version)
    → Follows true (judged_version w all_carriers j) v
unfolding judged_version
judged_follows w all_carriers j v = by_cases (is_expired j v v.status) v.status refl
  where
    by_cases : (b : Bool) (status : Status) → v.status ≡ status
        → follows true v.status (if b then version_on_expiry w all_carriers j v status
        else v).status ≡ true
    by_cases false status e = follows_itself true v.status
    by_cases true Pending e = ap (λ x. follows true x Canceled) e
    by_cases true Conflict e = ap (λ x. follows true x Canceled) e
    by_cases true (CancelPending OldProvider) e = ap (λ x. follows true x Conflict) e
    by_cases true (CancelPending NewProvider) e = ap (λ x. follows true x Canceled) e
    by_cases true (DisconnectPending release) e = ap (λ x. follows true x (Sending Delete)) e
    by_cases true (Sending action) e =
        ap (λ x. follows true x (status_after action (outcome_at_end v.broadcasts))) e
        ∙ closed_follows action (outcome_at_end v.broadcasts)
    by_cases true _ e = follows_itself true v.status

-- ---- entries

-- Whether the request is an acknowledgement; only by one does a version supersede another.
abbrev pub is_answer : Request → Bool
is_answer (AcknowledgementRequest id attempt) = true
is_answer (CommandRequest command) = false

either : (takes : Bool) (old : Status) (b : Bool) (u v : Version)
    → (b ≡ true → follows takes old u.status ≡ true) → follows takes old v.status ≡ true
    → follows takes old (if b then u else v).status ≡ true
either takes old true u v one other = one refl
either takes old false u v one other = other

-- The status passed a command's test.
awaiting_follows : (status : Status) → awaits_creates status ≡ true
    → follows false status Conflict ≡ true
awaiting_follows Pending is = refl
awaiting_follows Conflict is = refl
awaiting_follows _ is = cc

old_follows : (w : WindowSet) (authorized : Bool) (minute : ℕ) (v : Version)
    → awaits_creates v.status ≡ true
    → follows false v.status (with_old_create w authorized minute v).status ≡ true
old_follows w true minute v awaits = follows_itself false v.status
old_follows w false minute v awaits = awaiting_follows v.status awaits

activated_follows : (status : Status) → not (can_activate status) ≡ false
    → follows false status (Sending Create) ≡ true
activated_follows Pending may = refl
activated_follows Failed may = refl
activated_follows _ may = cc

pending_follows : (status : Status) → not (is_pending status) ≡ false
    → follows false status Conflict ≡ true
pending_follows Pending may = refl
pending_follows _ may = cc

conflict_follows : (status : Status) → not (is_conflict status) ≡ false
    → follows false status Pending ≡ true
conflict_follows Conflict may = refl
conflict_follows _ may = cc

cancel_follows : (status : Status) → not (is_cancel_pending status) ≡ false
    → follows false status Canceled ≡ true
cancel_follows (CancelPending by) may = refl
cancel_follows _ may = cc

waiting_follows : (w : WindowSet) (caller minute : ℕ) (v : Version) (status : Status)
    → v.status ≡ status → follows false status Canceled ≡ true
    → ((by : Side) → follows false status (CancelPending by) ≡ true) → (b : Bool) →
    follows false v.status (if b then with_status w (CancelPending (side_of caller v.old_provider))
    minute v else with_status w Canceled minute v).status ≡ true
waiting_follows w caller minute v status e one other true =
    ap (λ x. follows false x (CancelPending (side_of caller v.old_provider))) e
    ∙ other (side_of caller v.old_provider)
waiting_follows w caller minute v status e one other false =
    ap (λ x. follows false x Canceled) e ∙ one

cancelled_follows : (w : WindowSet) (caller minute : ℕ) (v : Version) (status : Status)
    → v.status ≡ status → follows false v.status (cancelled_by w status caller minute v).status
    ≡ true
cancelled_follows w caller minute v Pending e =
    waiting_follows w caller minute v Pending e refl (λ by. refl)
    (has_both_creates v.old_at v.new_at)
cancelled_follows w caller minute v Conflict e =
    waiting_follows w caller minute v Conflict e refl (λ by. refl)
    (has_both_creates v.old_at v.new_at)
cancelled_follows w caller minute v Failed e = ap (λ x. follows false x Canceled) e
cancelled_follows w caller minute v (DisconnectPending release) e =
    ap (λ x. follows false x Active) e
cancelled_follows w caller minute v _ e = follows_itself false v.status

disconnected_follows : (w : WindowSet) (release : Option ℕ) (all_carriers : List ℕ) (minute : ℕ)
    (v : Version) → v.status ≡ Active
    → follows false v.status (disconnected w release all_carriers minute v).status ≡ true
disconnected_follows w None all_carriers minute v active =
    ap (λ x. follows false x (Sending Delete)) active
disconnected_follows w (Some release) all_carriers minute v active =
    either false v.status (nat_lt minute release) (with_status w (DisconnectPending release) minute
    v)
    (next_attempt w Delete all_carriers minute v)
    (λ later. ap (λ x. follows false x (DisconnectPending release)) active)
    (ap (λ x. follows false x (Sending Delete)) active)

acknowledged_follows : (w : WindowSet) (c attempt minute : ℕ) (v : Version)
    → follows true v.status (acknowledged_by w c attempt minute v).status ≡ true
acknowledged_follows w c attempt minute v =
    either true v.status (nobody_is_missing (answered_by c attempt v).broadcasts)
    (completed w v.status minute (answered_by c attempt v)) (answered_by c attempt v)
    (λ all. by_cases v.status refl) (follows_itself true v.status)
  where
    by_cases : (status : Status) → v.status ≡ status
        → follows true v.status (completed w status minute (answered_by c attempt v)).status ≡ true
    by_cases (Sending action) e = ap (λ x. follows true x (status_after action AllAcknowledged)) e
        ∙ closed_follows action AllAcknowledged
    by_cases PartialFailure e = ap (λ x. follows true x Active) e
    by_cases _ e = follows_itself true v.status

module _ (st : State) (s : Subject) (given : AreGiven (made_now st) s
    (record_now st s).versions) where
  change_follows : (caller id : ℕ) (all_carriers : List ℕ) (c : VersionCommand)
      → AcceptedCommand st caller (OnVersion id c) → (v : Version)
      → version_with id (record_now st s) ≡ Some v →
      follows false v.status (version_after_command (set_now st) caller st.now all_carriers c
      v).status ≡ true
  change_follows caller id all_carriers Activate accepted v found =
      activated_follows v.status (named_test st s given id v (λ u. not (can_activate u.status))
      found (accepted 13))
  change_follows caller id all_carriers PutInConflict accepted v found =
      pending_follows v.status (named_test st s given id v (λ u. not (is_pending u.status)) found
      (accepted 13))
  change_follows caller id all_carriers RemoveFromConflict accepted v found =
      conflict_follows v.status (named_test st s given id v (λ u. not (is_conflict u.status)) found
      (accepted 13))
  change_follows caller id all_carriers Cancel accepted v found =
      cancelled_follows (set_now st) caller st.now v v.status refl
  change_follows caller id all_carriers OldProviderCancellationAcknowledge accepted v found =
      cancel_follows v.status (named_test st s given id v (λ u. not (is_cancel_pending u.status))
      found (accepted 13))
  change_follows caller id all_carriers NewProviderCancellationAcknowledge accepted v found =
      cancel_follows v.status (named_test st s given id v (λ u. not (is_cancel_pending u.status))
      found (accepted 13))
  change_follows caller id all_carriers (Disconnect release) accepted v found =
      disconnected_follows (set_now st) release all_carriers st.now v
      (is_active-is v.status (named_test st s given id v (λ u. not (is_active u.status)) found
      (accepted 13)))
  change_follows caller id all_carriers (ModifyRouting lrn cic) accepted v found =
      ap (λ x. follows false x (Sending (Modify (record { lrn = lrn; cic = cic }))))
      (is_active-is v.status (named_test st s given id v (λ u. not (is_active u.status)) found
      (accepted 13)))

  pub done_follows : (caller : ℕ) (all_carriers : List ℕ) (request : Request)
      → refusal st (RequestFrom caller request) ≡ None →
      AllByRecursion (Follows (is_answer request) (version_after_request (set_now st) s caller
      st.now all_carriers
      request)) (record_now st s).versions
  done_follows caller all_carriers
      (CommandRequest (OldProviderCreate tn old_provider new_provider due authorized)) ok =
      everywhere (λ v. either false v.status (subject_eq s (Number tn) && lacks_old_create
      old_provider new_provider v) (with_old_create (set_now st) authorized st.now v) v
      (λ lacks. old_follows (set_now st) authorized st.now v (and_first (awaits_creates v.status) _
      (and_first _ _ (and_second (subject_eq s (Number tn))
      (lacks_old_create old_provider new_provider v) lacks)))) (follows_itself false v.status))
      (record_now st s).versions
  done_follows caller all_carriers (CommandRequest (NewProviderCreate tn old_provider new_provider
      due lrn
      cic)) ok =
      everywhere (λ v. either false v.status (subject_eq s (Number tn) && lacks_new_create
      old_provider new_provider v) (with_new_create (record { lrn = lrn; cic = cic }) st.now v) v
      (λ lacks. follows_itself false v.status)
      (follows_itself false v.status)) (record_now st s).versions
  done_follows caller all_carriers (CommandRequest (OnVersion id c)) ok =
      of_id-each (λ v u. follows false v.status u.status ≡ true)
      (λ v. follows_itself false v.status) (made_now st) s id
      (version_after_command (set_now st) caller st.now all_carriers c) (record_now st s).versions
      given
      (λ v found. change_follows caller id all_carriers c
      (accepted_command st caller (OnVersion id c)
      ok) v found)
  done_follows caller all_carriers (CommandRequest (Release block)) ok =
      everywhere (λ v. either false v.status (subject_eq s (Block block) && in_force v)
      (next_attempt (set_now st) Delete all_carriers st.now v) v
      (λ is. ap (λ t. if t then true else (if is_old v.status then false else false))
      (and_second (subject_eq s (Block block)) (in_force v) is)) (follows_itself false v.status))
      (record_now st s).versions
  done_follows caller all_carriers (AcknowledgementRequest id attempt) ok =
      of_id-each (λ v u. follows true v.status u.status ≡ true) (λ v. follows_itself true v.status)
      (made_now st) s id (acknowledged_by (set_now st) caller attempt st.now)
      (record_now st s).versions given
      (λ v found. acknowledged_follows (set_now st) caller attempt st.now v)
  done_follows caller all_carriers (CommandRequest (RegisterCarrier spid)) ok =
      everywhere (λ v. follows_itself false v.status) (record_now st s).versions
  done_follows caller all_carriers (CommandRequest _) ok =
      everywhere (λ v. follows_itself false v.status) (record_now st s).versions

pub made_unserved : (w : WindowSet) (id caller minute : ℕ) (all_carriers : List ℕ)
    (donor : Option ℕ)
    (request : Request)
    → is_served (made_version w id caller minute all_carriers donor request).status
    ≡ false
made_unserved w id caller minute all_carriers donor
    (CommandRequest (OldProviderCreate tn old_provider new_provider due true)) = refl
made_unserved w id caller minute all_carriers donor
    (CommandRequest (OldProviderCreate tn old_provider new_provider due false)) = refl
made_unserved w id caller minute all_carriers donor _ = refl

module _ (w : Windows) (s : Subject) where
  after_minute : (h : List Entry) (m : ℕ) → IsHistory w h m → AreServed (replay w s h m).versions
      → AreServed (judge (present_set w h) (suc m) (replay w s h m)).versions
  unfolding judge
  after_minute h m is are =
      let r : Record = replay w s h m in
      changed_served (present_set w h) s true (suc m) (judged_version (present_set w h) r.carriers
      (suc m)) r.versions (everywhere (judged_follows (present_set w h) r.carriers (suc m))
      r.versions) (sound_now (record { windows = w; history = h; now = m }) is s) are

  after_entry : (h : List Entry) (e : Entry) → IsHistory w (e ∷ h) e.minute
      → AreServed (replay w s h e.minute).versions → AreServed (record_after w s h e).versions
  unfolding effect
  after_entry h e is are =
      let r : Record = replay w s h e.minute in
      let st : State = record { windows = w; history = h; now = e.minute } in
      with_new (id_among s (next_after (subjects_made w h))
      (subjects_made_by e.request (record_now st)))
      (changed_served (present_set w h) s (is_answer e.request) e.minute
      (version_after_request (present_set w h) s e.caller e.minute r.carriers e.request) r.versions
      (done_follows st s (given_now st is.3 s) e.caller r.carriers e.request is.2)
      (sound_now st is.3 s) are)
    where
      versions : List Version
      versions = changed_at (present_set w h) e.minute (version_after_request (present_set w h) s
          e.caller
          e.minute (replay w s h e.minute).carriers e.request) (replay w s h e.minute).versions

      with_new : (o : Option ℕ) → AreServed versions
          → AreServed (with_made o (λ id. made_version (present_set w h) id e.caller e.minute
          (replay w s h e.minute).carriers (donor_of (assigned_block e.request) h) e.request)
          versions)
      with_new None now = now
      with_new (Some id) now = (
        λ served. true-false _ served (made_unserved (present_set w h) id e.caller e.minute
            (replay w s h e.minute).carriers (donor_of (assigned_block e.request) h) e.request),
        now,
      )

  -- Every record of every history.
  pub are_served : (h : List Entry) (m : ℕ) → IsHistory w h m → AreServed (replay w s h m).versions
  are_served = kept w s (λ h m r. AreServed r.versions) (record {
    first = λ m. tt;
    minute = after_minute;
    entry = after_entry;
  })
