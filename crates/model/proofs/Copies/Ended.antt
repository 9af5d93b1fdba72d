-- In every record all broadcasts of an old version are closed. If no newer version is or was in
-- force, its last word is that there is no routing.
use Rattle.std.proofs.Common.{◌≡◌, ℕ, suc, Bool, true, false, not, ◌&&◌, List, [], ◌∷◌, map, Option, Some, None, refl, ap, sym, ◌∙◌, subst}
use Rattle.std.specs.Prelude.{⊤, ◌==◌, nat_lt, if◌then◌else◌}
use Rattle.std.specs.List.{AllByRecursion}
use Rattle.numbers.specs.Subjects.{Subject, Number, Block, subject_eq}
use Rattle.numbers.specs.Routings.{Routing}
use Rattle.model.specs.Commands.{RegisterCarrier, OldProviderCreate, NewProviderCreate, VersionCommand, OnVersion, Activate, PutInConflict, RemoveFromConflict, Cancel, OldProviderCancellationAcknowledge, NewProviderCancellationAcknowledge, Disconnect, ModifyRouting, Release}
use Rattle.model.specs.Statuses.{Send}
use Rattle.model.specs.Statuses.{Create, Delete, Modify}
use Rattle.model.specs.declared.words.Outcome.{Outcome}
use Rattle.model.specs.declared.words.Outcome.TheVariants.{Open, AllAcknowledged, SomeAcknowledged, NoneAcknowledged}
use Rattle.model.specs.declared.words.Side.TheVariants.{OldProvider, NewProvider}
use Rattle.model.specs.Statuses.{Status, Pending, Conflict, CancelPending, Sending, Active, PartialFailure, DisconnectPending, Failed, Old, Canceled}
use Rattle.model.specs.Windows.{Windows, WindowSet}
use Rattle.model.specs.Versions.{Broadcast, Version, Record, in_force, open_by, sends_create}
use Rattle.model.specs.Changes.{with_status, next_attempt, status_after, on_newest, outcome_at_end, completed, acknowledged_by, acknowledged_broadcast, joined_broadcast, nobody_is_missing, changed_at, retired}
use Rattle.model.specs.Judge.{is_expired, version_on_expiry, judged_version, judge}
use Rattle.model.specs.History.{Request, Entry, CommandRequest, AcknowledgementRequest, effect, replay, subjects_made, subjects_made_by, made_version, with_made, version_after_request, version_after_command, cancelled_by, side_of, has_both_creates, with_old_create, lacks_old_create, lacks_new_create, with_new_create, next_after, id_among, donor_of, assigned_block, present_set}
use Rattle.model.specs.State.{State, record_now}
use Rattle.model.specs.Machine.{IsHistory}
use Rattle.model.specs.Sound.{NoneOpen, InForceIsActive, AreSound}
use Rattle.numbers.proofs.Small.{true-false, or_first, or_second}
use Rattle.model.proofs.Lists.{everywhere, each, each_two}
use Rattle.model.proofs.Minutes.{retired-never}
use Rattle.model.proofs.Unique.{KeepsActive, respect_active, judged_version-respects}
use Rattle.model.proofs.Ids.{given_apart, all_found}
use Rattle.model.proofs.Entries.{acknowledge-respects}
use Rattle.model.proofs.Entered.{sound_now, given_now}
use Rattle.model.proofs.Moves.{answered_by, judged_kept, done_kept}
use Rattle.model.proofs.Kept.{record_after, kept}
use Rattle.model.proofs.KeptVersions.{versions_kept}
use Rattle.model.proofs.Copies.Told.{AllClosed, Says, IsTold, IsToldAs, told_in, told_kept, closing_says, answered_told, closed_same, says_same, answered_same, joined_same}
use Rattle.model.proofs.Copies.Served.{is_old, is_served, Follows, stays_out, still_served, taker, is_answer, judged_follows, done_follows, made_unserved, closed_sends_none}

-- ---- what an old version's broadcasts keep

module _ (w : WindowSet) (R : List Broadcast → Type 0) (said : (bs : List Broadcast) → Says None bs
    → R bs)
    (stays : (f : Broadcast → Broadcast) → ((b : Broadcast) → ((f b).outcome ≡ b.outcome)
    × ((f b).routing ≡ b.routing)) → (bs : List Broadcast) → R bs → R (map f bs)) where
  abbrev WhereOld : Version → Type 0
  WhereOld v = is_old v.status ≡ true → R v.broadcasts

  -- A broadcast that closes and leaves its version old was a delete.
  closing_old : (action : Send) (outcome : Outcome) (routing : Option Routing) (bs : List Broadcast)
      → IsToldAs (Sending action) routing bs → is_old (status_after action outcome) ≡ true →
      R (on_newest (λ b. record b { outcome = outcome }) bs)
  closing_old Create Open routing bs told is = cc
  closing_old Create AllAcknowledged routing bs told is = cc
  closing_old Create SomeAcknowledged routing bs told is = cc
  closing_old Create NoneAcknowledged routing bs told is = cc
  closing_old (Modify put) Open routing bs told is = cc
  closing_old (Modify put) AllAcknowledged routing bs told is = cc
  closing_old (Modify put) SomeAcknowledged routing bs told is = cc
  closing_old (Modify put) NoneAcknowledged routing bs told is = cc
  closing_old Delete Open routing bs told is = cc
  closing_old Delete NoneAcknowledged routing bs told is = cc
  closing_old Delete AllAcknowledged routing bs told is =
      said _ (closing_says None (Says routing) (λ xs says. says.0) AllAcknowledged refl refl bs
      told)
  closing_old Delete SomeAcknowledged routing bs told is =
      said _ (closing_says None (Says routing) (λ xs says. says.0) SomeAcknowledged refl refl bs
      told)

  judged_old : (all_carriers : List ℕ) (j : ℕ) (v : Version) → IsTold v → WhereOld v
      → WhereOld (judged_version w all_carriers j v)
  unfolding judged_version
  judged_old all_carriers j v told keeps = by_cases (is_expired j v v.status) v.status refl
    where
      by_cases : (b : Bool) (status : Status) → v.status ≡ status
          → WhereOld (if b then version_on_expiry w all_carriers j v status else v)
      by_cases false status e = keeps
      by_cases true Pending e = λ is. cc
      by_cases true Conflict e = λ is. cc
      by_cases true (CancelPending OldProvider) e = λ is. cc
      by_cases true (CancelPending NewProvider) e = λ is. cc
      by_cases true (DisconnectPending release) e = λ is. cc
      by_cases true (Sending action) e =
          closing_old action (outcome_at_end v.broadcasts) v.routing v.broadcasts
          (told_in v (Sending action) e told)
      by_cases true _ e = keeps

  either : (b : Bool) (u v : Version) → WhereOld u → WhereOld v → WhereOld (if b then u else v)
  either true u v one other = one
  either false u v one other = other

  cancelled_old : (caller minute : ℕ) (v : Version) → WhereOld v → (status : Status)
      → WhereOld (cancelled_by w status caller minute v)
  cancelled_old caller minute v keeps Pending =
      either (has_both_creates v.old_at v.new_at)
      (with_status w (CancelPending (side_of caller v.old_provider)) minute v)
      (with_status w Canceled minute v) (λ is. cc) (λ is. cc)
  cancelled_old caller minute v keeps Conflict =
      either (has_both_creates v.old_at v.new_at)
      (with_status w (CancelPending (side_of caller v.old_provider)) minute v)
      (with_status w Canceled minute v) (λ is. cc) (λ is. cc)
  cancelled_old caller minute v keeps Failed = λ is. cc
  cancelled_old caller minute v keeps (DisconnectPending release) = λ is. cc
  cancelled_old caller minute v keeps _ = keeps

  change_old : (caller minute : ℕ) (all_carriers : List ℕ) (c : VersionCommand) (v : Version)
      → WhereOld v → WhereOld (version_after_command w caller minute all_carriers c v)
  change_old caller minute all_carriers Activate v keeps = λ is. cc
  change_old caller minute all_carriers PutInConflict v keeps = λ is. cc
  change_old caller minute all_carriers RemoveFromConflict v keeps = λ is. cc
  change_old caller minute all_carriers Cancel v keeps =
      cancelled_old caller minute v keeps v.status
  change_old caller minute all_carriers OldProviderCancellationAcknowledge v keeps = λ is. cc
  change_old caller minute all_carriers NewProviderCancellationAcknowledge v keeps = λ is. cc
  change_old caller minute all_carriers (Disconnect None) v keeps = λ is. cc
  change_old caller minute all_carriers (Disconnect (Some release)) v keeps =
      either (nat_lt minute release) (with_status w (DisconnectPending release) minute v)
      (next_attempt w Delete all_carriers minute v) (λ is. cc) (λ is. cc)
  change_old caller minute all_carriers (ModifyRouting lrn cic) v keeps = λ is. cc

  acknowledged_old : (c attempt minute : ℕ) (v : Version) → IsTold v → WhereOld v
      → WhereOld (acknowledged_by w c attempt minute v)
  acknowledged_old c attempt minute v told keeps =
      either (nobody_is_missing (answered_by c attempt v).broadcasts)
      (completed w v.status minute (answered_by c attempt v)) (answered_by c attempt v)
      (by_cases v.status refl) still
    where
      still : WhereOld (answered_by c attempt v)
      still = λ is. stays (acknowledged_broadcast c attempt) (answered_same c attempt) v.broadcasts
          (keeps is)

      by_cases : (status : Status) → v.status ≡ status
          → WhereOld (completed w status minute (answered_by c attempt v))
      by_cases (Sending action) e =
          closing_old action AllAcknowledged v.routing (answered_by c attempt v).broadcasts
          (answered_told c attempt (Sending action) v.routing v.broadcasts
          (told_in v (Sending action) e told))
      by_cases PartialFailure e = λ is. cc
      by_cases _ e = still

  done_old : (s : Subject) (caller minute : ℕ) (all_carriers : List ℕ) (request : Request)
      (v : Version)
      → IsTold v → WhereOld v
      → WhereOld (version_after_request w s caller minute all_carriers request v)
  done_old s caller minute all_carriers (CommandRequest (RegisterCarrier spid)) v told keeps =
      λ is. stays (joined_broadcast spid) (joined_same spid) v.broadcasts (keeps is)
  done_old s caller minute all_carriers
      (CommandRequest (OldProviderCreate tn old_provider new_provider due authorized)) v told
      keeps =
      either (subject_eq s (Number tn) && lacks_old_create old_provider new_provider v)
      (with_old_create w authorized minute v) v (by authorized) keeps
    where
      by : (b : Bool) → WhereOld (with_old_create w b minute v)
      by true = keeps
      by false = λ is. cc
  done_old s caller minute all_carriers
      (CommandRequest (NewProviderCreate tn old_provider new_provider due lrn cic)) v told keeps =
      either (subject_eq s (Number tn) && lacks_new_create old_provider new_provider v)
      (with_new_create (record { lrn = lrn; cic = cic }) minute v) v keeps keeps
  done_old s caller minute all_carriers (CommandRequest (OnVersion id c)) v told keeps =
      either (v.id == id) (version_after_command w caller minute all_carriers c v) v
      (change_old caller minute all_carriers c v keeps) keeps
  done_old s caller minute all_carriers (CommandRequest (Release block)) v told keeps =
      either (subject_eq s (Block block) && in_force v) (next_attempt w Delete all_carriers minute
      v) v
      (λ is. cc) keeps
  done_old s caller minute all_carriers (AcknowledgementRequest id attempt) v told keeps =
      either (v.id == id) (acknowledged_by w caller attempt minute v) v
      (acknowledged_old caller attempt minute v told keeps) keeps
  done_old s caller minute all_carriers _ v told keeps = keeps

-- ---- the versions of a subject

-- Holds if all broadcasts of the version are closed, should it be old.
abbrev pub IsClosedWhereOld : Version → Type 0
IsClosedWhereOld v = is_old v.status ≡ true → AllClosed v.broadcasts

-- Holds if the last word of the version is no routing, should it be old.
abbrev pub SaysNoneWhereOld : Version → Type 0
SaysNoneWhereOld v = is_old v.status ≡ true → Says None v.broadcasts

-- Holds if this is so of the newest version that is or was in force.
abbrev pub LastSaysNone : List Version → Type 0
LastSaysNone [] = ⊤
LastSaysNone (v ∷ vs) = SaysNoneWhereOld v × (is_served v.status ≡ false → LastSaysNone vs)

abbrev pub HaveEnded : List Version → Type 0
HaveEnded vs = AllByRecursion IsClosedWhereOld vs × LastSaysNone vs

sends_open : (s : Subject) (status : Status) → sends_create status ≡ true → open_by s status ≡ true
sends_open (Number n) (Sending Create) is = refl
sends_open (Block b) (Sending Create) is = refl
sends_open s (Sending Delete) is = cc
sends_open s (Sending (Modify routing)) is = cc
sends_open s _ is = cc

module _ (w : WindowSet) (s : Subject) (takes : Bool) (minute : ℕ) (change : Version
    → Version) where
  -- Among versions that are not open, none supersedes another.
  behind_mapped : (vs : List Version) → AllByRecursion (Follows takes change) vs → NoneOpen s vs
      → changed_at w minute change vs ≡ map change vs
  behind_mapped [] steps closed = refl
  behind_mapped (v ∷ vs) steps closed =
      ap (λ b. change v ∷ map (retired w b minute) (changed_at w minute change vs))
      (by_cases (in_force v) refl)
      ∙ ap (λ us. change v ∷ us) (retired-never w minute (changed_at w minute change vs)
      ∙ behind_mapped vs steps.1 closed.1)
    where
      by_cases : (b : Bool) → in_force v ≡ b → (not b && in_force (change v)) ≡ false
      by_cases true e = refl
      by_cases false e =
          stays_out takes v.status (change v).status steps.0 (closed_sends_none s v.status closed.0)
          e

  module _ (closed_step : (v : Version) → IsTold v → IsClosedWhereOld v
      → IsClosedWhereOld (change v)) (none_step : (v : Version) → IsTold v → SaysNoneWhereOld v
      → SaysNoneWhereOld (change v)) where
    retired_closed : (b : Bool) (vs : List Version) → AllByRecursion IsTold vs
        → AllByRecursion IsClosedWhereOld vs
        → (b ≡ true → AllByRecursion (λ v. in_force (change v) ≡ true
        → AllClosed (change v).broadcasts) vs) →
        AllByRecursion IsClosedWhereOld (map (retired w b minute) (map change vs))
    retired_closed b [] told old forced = tt
    retired_closed b (v ∷ vs) told old forced = (
      by_cases b (in_force (change v)) refl refl,
      retired_closed b vs told.1 old.1 (λ e. (forced e).1),
    )
      where
        by_cases : (x y : Bool) → b ≡ x → in_force (change v) ≡ y
            → IsClosedWhereOld (if x && y then with_status w Old minute (change v) else change v)
        by_cases true true e f = λ is. (forced e).0 f
        by_cases true false e f = closed_step v told.0 old.0
        by_cases false y e f = closed_step v told.0 old.0

    last_mapped : (vs : List Version) → AllByRecursion (Follows takes change) vs
        → AllByRecursion IsTold vs → LastSaysNone vs → LastSaysNone (map change vs)
    last_mapped [] steps told last = tt
    last_mapped (v ∷ vs) steps told last = (
      none_step v told.0 last.0,
      λ out. last_mapped vs steps.1 told.1 (last.1 (by_cases (is_served v.status) refl out)),
    )
      where
        by_cases : (b : Bool) → is_served v.status ≡ b → is_served (change v).status ≡ false
            → b ≡ false
        by_cases true e out =
            true-false (is_served (change v).status) (still_served takes v.status (change v).status
            steps.0 e) out
        by_cases false e out = refl

    -- Beside an open version, what is in force is active, and its broadcasts are closed.
    active_closed : (vs : List Version) → AllByRecursion (Follows takes change) vs → NoneOpen s vs
        → InForceIsActive vs → KeepsActive change vs → AllByRecursion (λ v. IsTold (change v)) vs →
        AllByRecursion (λ v. in_force (change v) ≡ true → AllClosed (change v).broadcasts) vs
    active_closed [] steps closed active keeps told = tt
    active_closed (v ∷ vs) steps closed active keeps told = (
      by_cases (in_force v) refl,
      active_closed vs steps.1 closed.1 active.1 keeps.1 told.1,
    )
      where
        by_cases : (b : Bool) → in_force v ≡ b → in_force (change v) ≡ true
            → AllClosed (change v).broadcasts
        by_cases true e now = (told_in (change v) Active (keeps.0 (active.0 e)) told.0).0
        by_cases false e now =
            true-false (in_force (change v)) now (stays_out takes v.status (change v).status steps.0
            (closed_sends_none s v.status closed.0) e)

    changed_ended : (vs : List Version) → AreSound s vs → AllByRecursion (Follows takes change) vs
        → AllByRecursion IsTold vs → AllByRecursion (λ v. IsTold (change v)) vs
        → (takes ≡ true → KeepsActive change vs) → HaveEnded vs →
        HaveEnded (changed_at w minute change vs)
    changed_ended [] sound steps told after keeps version_on_expiry = (tt, tt)
    changed_ended (v ∷ vs) sound steps told after keeps version_on_expiry =
        subst (λ us. HaveEnded (change v ∷ map (retired w (not (in_force v) && in_force (change v))
        minute) us)) (sym (behind_mapped vs steps.1 sound.0)) (
          (
            closed_step v told.0 version_on_expiry.0.0,
            retired_closed (not (in_force v) && in_force (change v)) vs told.1 version_on_expiry.0.1
                forced,
          ),
          (none_step v told.0 version_on_expiry.1.0, last),
        )
      where
        taken : (a b : Bool) → in_force v ≡ a → in_force (change v) ≡ b → (not a && b) ≡ true
            → (takes ≡ true) × (sends_create v.status ≡ true)
        taken false true e f is = taker takes v.status (change v).status steps.0 e f
        taken true b e f is = cc
        taken false false e f is = cc

        forced : (not (in_force v) && in_force (change v)) ≡ true
            → AllByRecursion (λ u. in_force (change u) ≡ true → AllClosed (change u).broadcasts) vs
        forced is =
            let by = taken (in_force v) (in_force (change v)) refl refl is in
            active_closed vs steps.1 sound.0 (sound.2 (sends_open s v.status by.1)) (keeps by.0).1
            after.1

        drop : (b : Bool) → (b && false) ≡ false
        drop true = refl
        drop false = refl

        unserved : (b : Bool) → is_served v.status ≡ b → is_served (change v).status ≡ false
            → b ≡ false
        unserved true e out =
            true-false (is_served (change v).status) (still_served takes v.status (change v).status
            steps.0 e) out
        unserved false e out = refl

        last : is_served (change v).status ≡ false
            → LastSaysNone (map (retired w (not (in_force v) && in_force (change v)) minute)
            (map change vs))
        last out = subst LastSaysNone
            (sym (ap (λ b. map (retired w b minute) (map change vs))
            (ap (λ b. not (in_force v) && b) (or_first (in_force (change v))
            (is_old (change v).status) out) ∙ drop (not (in_force v)))
            ∙ retired-never w minute (map change vs)))
            (last_mapped vs steps.1 told.1
            (version_on_expiry.1.1 (unserved (is_served v.status) refl out)))

-- ---- every record

module _ (w : Windows) (s : Subject) where
  after_minute : (h : List Entry) (m : ℕ) → IsHistory w h m → HaveEnded (replay w s h m).versions
      → HaveEnded (judge (present_set w h) (suc m) (replay w s h m)).versions
  unfolding judge
  after_minute h m is version_on_expiry =
      let r : Record = replay w s h m in
      let told : AllByRecursion IsTold r.versions = versions_kept told_kept w s h m is in
      changed_ended (present_set w h) s true (suc m) (judged_version (present_set w h) r.carriers
      (suc m)) (judged_old (present_set w h) AllClosed (λ bs says. says.0) closed_same r.carriers
      (suc m))
      (judged_old (present_set w h) (Says None) (λ bs says. says) (λ f same. says_same f same None)
      r.carriers (suc m)) r.versions
      (sound_now (record { windows = w; history = h; now = m }) is s)
      (everywhere (judged_follows (present_set w h) r.carriers (suc m)) r.versions) told
      (each (λ v p. judged_kept (told_kept (present_set w h)) r.carriers (suc m) v p) r.versions
      told) (λ takes. everywhere
      (λ v. (judged_version-respects s (present_set w h) r.carriers (suc m) v).active) r.versions)
      version_on_expiry

  after_entry : (h : List Entry) (e : Entry) → IsHistory w (e ∷ h) e.minute
      → HaveEnded (replay w s h e.minute).versions → HaveEnded (record_after w s h e).versions
  unfolding effect
  after_entry h e is version_on_expiry =
      let r : Record = replay w s h e.minute in
      let st : State = record { windows = w; history = h; now = e.minute } in
      let told : AllByRecursion IsTold r.versions = versions_kept told_kept w s h e.minute is.3 in
      with_new (id_among s (next_after (subjects_made w h))
      (subjects_made_by e.request (record_now st)))
      (changed_ended (present_set w h) s (is_answer e.request) e.minute
      (version_after_request (present_set w h) s e.caller e.minute r.carriers e.request)
      (done_old (present_set w h) AllClosed (λ bs says. says.0) closed_same s e.caller e.minute
      r.carriers e.request)
      (done_old (present_set w h) (Says None) (λ bs says. says) (λ f same. says_same f same None) s
      e.caller e.minute r.carriers e.request) r.versions
      (sound_now st is.3 s) (done_follows st s (given_now st is.3 s) e.caller r.carriers e.request
      is.2) told
      (each_two (λ v found p. done_kept st (told_kept (present_set w h)) is.3 s e.caller e.request
      is.2 v found p) r.versions
      (all_found r.versions (given_apart (subjects_made w h) s r.versions (given_now st is.3 s)))
      told)
      (active e.request) version_on_expiry)
    where
      versions : List Version
      versions = changed_at (present_set w h) e.minute (version_after_request (present_set w h) s
          e.caller
          e.minute (replay w s h e.minute).carriers e.request) (replay w s h e.minute).versions

      active : (request : Request) → is_answer request ≡ true
          → KeepsActive (version_after_request (present_set w h) s e.caller e.minute
          (replay w s h e.minute).carriers request) (replay w s h e.minute).versions
      active (AcknowledgementRequest id attempt) answers =
          respect_active s (version_after_request (present_set w h) s e.caller e.minute
          (replay w s h e.minute).carriers (AcknowledgementRequest id attempt))
          (replay w s h e.minute).versions
          (acknowledge-respects (record { windows = w; history = h; now = e.minute }) s
          (given_now (record { windows = w; history = h; now = e.minute }) is.3 s) e.caller id
          attempt (replay w s h e.minute).carriers)
      active (CommandRequest command) answers = cc

      made : ℕ → Version
      made id = made_version (present_set w h) id e.caller e.minute (replay w s h e.minute).carriers
          (donor_of (assigned_block e.request) h) e.request

      fresh : (id : ℕ) → is_old (made id).status ≡ true → ⊥
      fresh id is_it =
          true-false (is_old (made id).status) is_it (or_second (in_force (made id))
          (is_old (made id).status) (made_unserved (present_set w h) id e.caller e.minute
          (replay w s h e.minute).carriers (donor_of (assigned_block e.request) h) e.request))

      with_new : (o : Option ℕ) → HaveEnded versions → HaveEnded (with_made o made versions)
      with_new None now = now
      with_new (Some id) now = (
        (λ is_it. absurd (fresh id is_it), now.0),
        (λ is_it. absurd (fresh id is_it), λ out. now.1),
      )

  -- Every record of every history.
  pub have_ended : (h : List Entry) (m : ℕ) → IsHistory w h m → HaveEnded (replay w s h m).versions
  have_ended = kept w s (λ h m r. HaveEnded r.versions) (record {
    first = λ m. (tt, tt);
    minute = after_minute;
    entry = after_entry;
  })
