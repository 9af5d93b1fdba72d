-- What an accepted request makes of the selected broadcasts, unless it is an acknowledgement or a
-- registration of the carrier that they are selected for.
use Rattle.std.proofs.Common.{◌≡◌, ℕ, Bool, true, false, cond, not, ◌&&◌, ◌||◌, List, [], ◌∷◌, ◌++◌, map, Option, Some, None, refl, ap, sym, ◌∙◌, subst, ◌⊎◌, inl, inr, is_some}
use Rattle.std.specs.Prelude.{◌==◌, nat_lt, filter, unwrap_or, if◌then◌else◌}
use Rattle.std.specs.List.{AllByRecursion}
use Rattle.numbers.specs.Subjects.{Subject, Number, Block, subject_eq}
use Rattle.model.specs.Commands.{RegisterCarrier, OldProviderCreate, NewProviderCreate, VersionCommand, OnVersion, Activate, PutInConflict, RemoveFromConflict, Cancel, OldProviderCancellationAcknowledge, NewProviderCancellationAcknowledge, Disconnect, ModifyRouting, Donate, Assign, Release}
use Rattle.model.specs.Statuses.{Create, Delete, Modify}
use Rattle.model.specs.declared.words.Outcome.TheVariants.{AllAcknowledged}
use Rattle.model.specs.Statuses.{Status, Pending, Conflict, CancelPending, Canceled, Sending, PartialFailure, Failed, DisconnectPending}
use Rattle.model.specs.Windows.{Windows, WindowSet}
use Rattle.model.specs.Versions.{Broadcast, Version, with_number, is_among, is_withdrawn, is_open_broadcast, in_force, in_force_status, is_open, open_by, version_with, first_of_versions, open_version}
use Rattle.model.specs.Changes.{with_status, next_attempt, completed, acknowledged_broadcast, acknowledged_by, nobody_is_missing, joined_broadcast, joined_by, changed_at, of_id}
use Rattle.model.specs.Conditions.{holds_of, is_active, can_activate}
use Rattle.model.specs.History.{Request, CommandRequest, AcknowledgementRequest, Entry, effect, replay, subjects_made_by, subjects_made, made_version, with_made, version_after_request, version_after_command, cancelled_by, side_of, has_both_creates, disconnected, with_old_create, with_new_create, lacks_old_create, lacks_new_create, next_after, id_among, donor_of, assigned_block, blank_version, present_set}
use Rattle.model.specs.State.{State, SubjectVersion, record_now, version_of_id, registers, set_now, made_now}
use Rattle.model.specs.OnVersion.{is_number}
use Rattle.model.specs.Refusals.{RequestFrom, refusal}
use Rattle.model.specs.Machine.{IsHistory, HasHistory}
use Rattle.model.specs.Sound.{NoneOpen, AreSound}
use Rattle.model.proofs.Lists.{everywhere, each}
use Rattle.model.proofs.Accepted.{AcceptedCommand, accepted_command}
use Rattle.model.proofs.Ids.{AreGiven, of_id-each, version_of_id_is, same_subject}
use Rattle.model.proofs.Entries.{named_test, named_number, is_active-is, active_is_closed}
use Rattle.model.proofs.Entered.{sound_now, given_now}
use Rattle.model.proofs.Made.{none_open-found}
use Rattle.model.proofs.Begun.{HasBegun, HasBegunAs, answered_begun, begun_kept}
use Rattle.model.proofs.Rising.{among-with_number}
use Rattle.model.proofs.Moves.{answered_by}
use Rattle.model.proofs.Kept.{record_after}
use Rattle.model.proofs.KeptVersions.{versions_kept}
use Rattle.model.proofs.Copies.{Look, Carrier, Nobody, Unsent, Closed, Placed, wants, is_marked, stands_for, place, own_of, own, placed}
use Rattle.model.proofs.Copies.Followed.{IsThinned, IsNext, thinned_same, thinned_is, next_thinned, next_append}
use Rattle.model.proofs.Copies.Told.{told_kept}
use Rattle.model.proofs.Copies.Served.{are_served}
use Rattle.model.proofs.Copies.Steps.{Lasts, closed_same, sent_next, thins_next, changed_thinned, open_next, force_next}
use Rattle.numbers.proofs.Small.{negated}

-- ---- whose request it is

-- Whether the request is neither a registration nor an acknowledgement of the carrier that is
-- looked at.
abbrev pub is_others : Look → (caller : ℕ) → Request → Bool
is_others (Carrier c) caller (AcknowledgementRequest id attempt) = not (caller == c)
is_others (Carrier c) caller (CommandRequest command) = not (registers c (CommandRequest command))
is_others (Unsent c) caller request = not (registers c request)
is_others Nobody caller request = true
is_others Closed caller request = true

other_number : (k c : ℕ) → not (k == c) ≡ true → (rs : List ℕ)
    → is_among c (with_number k rs) ≡ is_among c rs
other_number k c other rs =
    among-with_number c k rs ∙ ap (λ b. b || is_among c rs) (negated (k == c) other)

joined_wanted : (o : Look) (caller k : ℕ) → is_others o caller (CommandRequest (RegisterCarrier k))
    ≡ true
    → (b : Broadcast) → wants o (with_number k b.recipients) ≡ wants o b.recipients
joined_wanted (Carrier c) caller k other b = other_number k c other b.recipients
joined_wanted Nobody caller k other b = refl
joined_wanted (Unsent c) caller k other b = refl
joined_wanted Closed caller k other b = refl

joined_marked : (o : Look) (caller k : ℕ) → is_others o caller (CommandRequest (RegisterCarrier k))
    ≡ true
    → (b : Broadcast) → is_marked o (record b { recipients = with_number k b.recipients })
    ≡ is_marked o b
joined_marked (Carrier c) caller k other b = refl
joined_marked Nobody caller k other b = refl
joined_marked (Unsent c) caller k other b = ap not (other_number k c other b.recipients)
joined_marked Closed caller k other b = refl

answered_marked : (o : Look) (caller id attempt : ℕ)
    → is_others o caller (AcknowledgementRequest id attempt)
    ≡ true → (b : Broadcast) → is_marked o (record b {
      acknowledged = with_number caller b.acknowledged;
    }) ≡ is_marked o b
answered_marked (Carrier c) caller id attempt other b = other_number caller c other b.acknowledged
answered_marked Nobody caller id attempt other b = refl
answered_marked (Unsent c) caller id attempt other b = refl
answered_marked Closed caller id attempt other b = refl

module _ (w : WindowSet) (o : Look) where
  -- ---- a version whose selected broadcasts stay

  same_own : (f : Broadcast → Broadcast) → ((b : Broadcast) → stands_for o (f b) ≡ stands_for o b)
      → (id : ℕ) → ((b : Broadcast) → place o id (f b) ≡ place o id b) → (bs : List Broadcast)
      → own_of o id (map f bs) ≡ own_of o id bs
  same_own f stands id places [] = refl
  same_own f stands id places (b ∷ bs) =
      ap (λ t. map (place o id) (cond t (f b ∷ filter (stands_for o) (map f bs))
      (filter (stands_for o) (map f bs)))) (stands b)
      ∙ by_cases (stands_for o b) (same_own f stands id places bs)
    where
      by_cases : (t : Bool) → own_of o id (map f bs) ≡ own_of o id bs →
          map (place o id) (cond t (f b ∷ filter (stands_for o) (map f bs))
          (filter (stands_for o) (map f bs))) ≡ map (place o id)
          (cond t (b ∷ filter (stands_for o) bs) (filter (stands_for o) bs))
      by_cases true later = ap (λ p. p ∷ own_of o id (map f bs)) (places b)
          ∙ ap (λ ps. place o id b ∷ ps)
          later
      by_cases false later = later

  -- Another carrier registers.
  joined_own : (caller k : ℕ) → is_others o caller (CommandRequest (RegisterCarrier k)) ≡ true
      → (v : Version) → own o (joined_by k v) ≡ own o v
  joined_own caller k other v = same_own (joined_broadcast k) (λ b. stands b (is_open_broadcast b))
      v.id (λ b. places b (is_open_broadcast b)) v.broadcasts
    where
      stands : (b : Broadcast) (t : Bool) → stands_for o (if t then record b {
        recipients =
            with_number k b.recipients;
      } else b) ≡ stands_for o b
      stands b true = ap (λ x. x && not (is_withdrawn b)) (joined_wanted o caller k other b)
      stands b false = refl

      places : (b : Broadcast) (t : Bool) → place o v.id (if t then record b {
        recipients =
            with_number k b.recipients;
      } else b) ≡ place o v.id b
      places b true = ap (λ x. let p : Placed = record {
        id = v.id;
        attempt = b.attempt;
        minute = b.minute;
        action = b.action;
        routing = b.routing;
        marked = x;
      } in p) (joined_marked o caller k other b)
      places b false = refl

  -- What the last acknowledgement completes stays selected as it was.
  pub completed_own : (all_carriers : List ℕ) → Lasts o all_carriers
      → (k attempt minute : ℕ) (v : Version)
      → HasBegun v → own o (acknowledged_by w k attempt minute v) ≡ own o (answered_by k attempt v)
  completed_own all_carriers lasts k attempt minute v begun =
      by_cases (nobody_is_missing (answered_by k attempt v).broadcasts)
    where
      still_open : (status : Status) → v.status ≡ status
          → HasBegunAs status (answered_by k attempt v).broadcasts
      still_open status e =
          subst (λ x. HasBegunAs x (answered_by k attempt v).broadcasts) e
          (answered_begun k attempt v begun)

      by : (status : Status) → v.status ≡ status
          → own o (completed w status minute (answered_by k attempt v))
          ≡ own o (answered_by k attempt v)
      by (Sending action) e =
          closed_same w o all_carriers lasts v.id action (answered_by k attempt v).broadcasts
          AllAcknowledged (still_open (Sending action) e) refl
      by PartialFailure e = refl
      by _ e = refl

      by_cases : (b : Bool) → own o (if b then completed w v.status minute (answered_by k attempt v)
          else answered_by k attempt v) ≡ own o (answered_by k attempt v)
      by_cases true = by v.status refl
      by_cases false = refl

  -- Another carrier acknowledges.
  answered_own : (caller id attempt : ℕ) → is_others o caller (AcknowledgementRequest id attempt)
      ≡ true
      → (v : Version) → own o (answered_by caller attempt v) ≡ own o v
  answered_own caller id attempt other v =
      same_own (acknowledged_broadcast caller attempt) (λ b. stands b (b.attempt == attempt)) v.id
      (λ b. places b (b.attempt == attempt)) v.broadcasts
    where
      stands : (b : Broadcast) (t : Bool) → stands_for o (if t then record b {
        acknowledged = with_number caller b.acknowledged;
      } else b) ≡ stands_for o b
      stands b true = refl
      stands b false = refl

      places : (b : Broadcast) (t : Bool) → place o v.id (if t then record b {
        acknowledged = with_number caller b.acknowledged;
      } else b) ≡ place o v.id b
      places b true = ap (λ x. let p : Placed = record {
        id = v.id;
        attempt = b.attempt;
        minute = b.minute;
        action = b.action;
        routing = b.routing;
        marked = x;
      } in p) (answered_marked o caller id attempt other b)
      places b false = refl

  either_own : (b : Bool) (u v : Version) → own o u ≡ own o v → own o (if b then u else v) ≡ own o v
  either_own true u v e = e
  either_own false u v e = refl

  waiting_own : (caller minute : ℕ) (v : Version) (b : Bool)
      → own o (if b then with_status w (CancelPending (side_of caller v.old_provider)) minute v
      else with_status w Canceled minute v) ≡ own o v
  waiting_own caller minute v true = refl
  waiting_own caller minute v false = refl

  cancelled_own : (caller minute : ℕ) (status : Status) (v : Version)
      → own o (cancelled_by w status caller minute v) ≡ own o v
  cancelled_own caller minute Pending v =
      waiting_own caller minute v (has_both_creates v.old_at v.new_at)
  cancelled_own caller minute Conflict v =
      waiting_own caller minute v (has_both_creates v.old_at v.new_at)
  cancelled_own caller minute _ v = refl

  disconnected_next : (all_carriers : List ℕ) → Lasts o all_carriers
      → (release : Option ℕ) (minute : ℕ) (v : Version)
      → IsNext minute (own o v) (own o (disconnected w release all_carriers minute v))
  disconnected_next all_carriers lasts None minute v =
      sent_next w o all_carriers lasts Delete minute v
  disconnected_next all_carriers lasts (Some release) minute v = by_cases (nat_lt minute release)
    where
      by_cases : (b : Bool)
          → IsNext minute (own o v) (own o (if b
          then with_status w (DisconnectPending release) minute v
          else next_attempt w Delete all_carriers minute v))
      by_cases true = next_thinned minute (own o v) (own o v) (thinned_same (own o v))
      by_cases false = sent_next w o all_carriers lasts Delete minute v

-- ---- what the tests say

-- A number's version that may be activated is open.
activated_open : (s : Subject) (status : Status) → is_number s ≡ true
    → not (can_activate status) ≡ false → open_by s status ≡ true
activated_open (Number n) Pending number may = refl
activated_open (Number n) Failed number may = refl
activated_open (Number n) _ number may = cc
activated_open (Block b) status number may = cc

-- If the newest version is active, none is open.
active_closes : (s : Subject) (vs : List Version) → AreSound s vs
    → holds_of (λ (v : Version). not (is_active v.status)) (first_of_versions vs) ≡ false
    → NoneOpen s vs
active_closes s [] sound active = tt
active_closes s (v ∷ vs) sound active = (
  ap (open_by s) (is_active-is v.status active) ∙ active_is_closed s,
  sound.0,
)

module _ (o : Look) (st : State) (is : HasHistory st) (s : Subject)
    (lasts : Lasts o (record_now st s).carriers) where
  abbrev all_carriers : List ℕ
  all_carriers = (record_now st s).carriers

  abbrev versions : List Version
  versions = (record_now st s).versions

  given : AreGiven (made_now st) s versions
  given = given_now st is s

  -- Holds if a change of each version makes a list that `IsNext` permits.
  abbrev Passes : (Version → Version) → Type 0
  Passes change =
      IsNext st.now (placed o versions) (placed o (changed_at (set_now st) st.now change versions))

  sames : (change : Version → Version) → ((v : Version) → own o (change v) ≡ own o v)
      → AllByRecursion (λ v. IsThinned (own o v) (own o (change v))) versions
  sames change same = everywhere (λ v. thinned_is (own o v) (own o (change v)) (same v)) versions

  all_same : (change : Version → Version) → ((v : Version) → own o (change v) ≡ own o v)
      → Passes change
  all_same change same = thins_next (set_now st) o st.now change versions (sames change same)

  of_id_same : (id : ℕ) (change : Version → Version) → ((v : Version) → own o (change v) ≡ own o v)
      → Passes (of_id id change)
  of_id_same id change same =
      all_same (of_id id change) (λ v. either_own (set_now st) o (v.id == id) (change v) v (same v))

  -- The version in force may be sent, and no version is open.
  forced : (change : Version → Version) → NoneOpen s versions
      → AllByRecursion (λ v. IsThinned (own o v) (own o (change v))
      ⊎ (IsNext st.now (own o v) (own o (change v)) × (in_force v ≡ true))) versions → Passes change
  forced change closed sends =
      force_next (set_now st) o st.now change s versions (versions_kept told_kept st.windows s
      st.history st.now is) (are_served st.windows s st.history st.now is) closed sends

  activate_next : (caller id : ℕ) → AcceptedCommand st caller (OnVersion id Activate)
      → Passes (of_id id (next_attempt (set_now st) Create all_carriers st.now))
  activate_next caller id accepted =
      open_next (set_now st) o st.now
      (of_id id (next_attempt (set_now st) Create all_carriers st.now)) s
      versions (sound_now st is s)
      (of_id-each (λ v u. IsThinned (own o v) (own o u) ⊎ (IsNext st.now (own o v) (own o u)
      × (is_open s v ≡ true))) (λ v. inl (thinned_same (own o v))) (made_now st) s
      id (next_attempt (set_now st) Create all_carriers st.now) versions given
      (λ v found. inr (
        sent_next (set_now st) o all_carriers lasts Create st.now v,
        activated_open s v.status (named_number st s given id v found (accepted 10))
            (named_test st s given id v (λ u. not (can_activate u.status)) found
            (accepted 13)),
      )))

  -- A command on an active version that is refused beside an open one.
  active_next : (id : ℕ) (change : Version → Version)
      → holds_of (λ (e : SubjectVersion). not (is_active e.version.status)) (version_of_id st id)
      ≡ false →
      holds_of (λ (e : SubjectVersion). is_some (open_version e.subject (record_now st e.subject)))
      (version_of_id st id) ≡ false → ((v : Version) → IsNext st.now (own o v) (own o (change v)))
      → Passes (of_id id change)
  active_next id change active alone step = by_cases (version_with id (record_now st s)) refl
    where
      by_cases : (found_one : Option Version) → version_with id (record_now st s) ≡ found_one
          → Passes (of_id id change)
      by_cases None none = thins_next (set_now st) o st.now (of_id id change) versions
          (of_id-each (λ v u. IsThinned (own o v) (own o u)) (λ v. thinned_same (own o v))
          (made_now st) s id change versions given (λ v found. let both : None
          ≡ Some v = sym none ∙ found in cc))
      by_cases (Some v) found = forced (of_id id change)
          (none_open-found s versions
          (ap (holds_of (λ (e : SubjectVersion). is_some
          (open_version e.subject (record_now st e.subject))))
          (sym (version_of_id_is st s id v given found)) ∙ alone))
          (of_id-each (λ u x. IsThinned (own o u) (own o x) ⊎ (IsNext st.now (own o u) (own o x)
          × (in_force u ≡ true))) (λ u. inl (thinned_same (own o u)))
          (made_now st) s id change versions given
          (λ u there. inr (
            step u,
            ap in_force_status
                (is_active-is u.status (named_test st s given id u (λ x. not (is_active x.status))
                there active)),
          )))

  command_next : (caller id : ℕ) (c : VersionCommand) → AcceptedCommand st caller (OnVersion id c)
      → Passes (of_id id (version_after_command (set_now st) caller st.now all_carriers c))
  command_next caller id Activate accepted = activate_next caller id accepted
  command_next caller id PutInConflict accepted =
      of_id_same id (version_after_command (set_now st) caller st.now all_carriers PutInConflict)
      (λ v. refl)
  command_next caller id RemoveFromConflict accepted =
      of_id_same id (version_after_command (set_now st) caller st.now all_carriers
      RemoveFromConflict) (λ v. refl)
  command_next caller id Cancel accepted =
      of_id_same id (version_after_command (set_now st) caller st.now all_carriers Cancel)
      (λ v. cancelled_own (set_now st) o caller st.now v.status v)
  command_next caller id OldProviderCancellationAcknowledge accepted =
      of_id_same id (version_after_command (set_now st) caller st.now all_carriers
      OldProviderCancellationAcknowledge) (λ v. refl)
  command_next caller id NewProviderCancellationAcknowledge accepted =
      of_id_same id (version_after_command (set_now st) caller st.now all_carriers
      NewProviderCancellationAcknowledge) (λ v. refl)
  command_next caller id (Disconnect release) accepted =
      active_next id (disconnected (set_now st) release all_carriers st.now) (accepted 13)
      (accepted 12) (disconnected_next (set_now st) o all_carriers lasts release st.now)
  command_next caller id (ModifyRouting lrn cic) accepted =
      active_next id (version_after_command (set_now st) caller st.now all_carriers
      (ModifyRouting lrn cic))
      (accepted 13) (accepted 12) (sent_next (set_now st) o all_carriers lasts
      (Modify (record { lrn = lrn; cic = cic })) st.now)

  release_next : (caller block : ℕ) → AcceptedCommand st caller (Release block)
      → Passes (λ v. if subject_eq s (Block block) && in_force v
      then next_attempt (set_now st) Delete all_carriers st.now v else v)
  release_next caller block accepted = by_cases (subject_eq s (Block block)) refl
    where
      one : (v : Version) (b : Bool) → in_force v ≡ b
          → IsThinned (own o v) (own o (if b
          then next_attempt (set_now st) Delete all_carriers st.now v
          else v)) ⊎ (IsNext st.now (own o v) (own o (if b
          then next_attempt (set_now st) Delete all_carriers st.now v else v))
          × (in_force v ≡ true))
      one v true e = inr (sent_next (set_now st) o all_carriers lasts Delete st.now v, e)
      one v false e = inl (thinned_same (own o v))

      by_cases : (b : Bool) → subject_eq s (Block block) ≡ b → Passes (λ v. if b && in_force v
          then next_attempt (set_now st) Delete all_carriers st.now v else v)
      by_cases true e =
          forced (λ v. if true && in_force v
          then next_attempt (set_now st) Delete all_carriers st.now v
          else v)
          (active_closes s versions (sound_now st is s)
          (ap (λ t. holds_of (λ (v : Version). not (is_active v.status))
          (first_of_versions (record_now st t).versions)) (sym (same_subject s (Block block) e))
          ∙ accepted 13))
          (everywhere (λ v. one v (in_force v) refl) versions)
      by_cases false e = all_same (λ v. v) (λ v. refl)

  -- An acknowledgement by another carrier.
  acknowledged_next : (caller id attempt : ℕ)
      → is_others o caller (AcknowledgementRequest id attempt) ≡ true
      → Passes (of_id id (acknowledged_by (set_now st) caller attempt st.now))
  acknowledged_next caller id attempt other =
      thins_next (set_now st) o st.now
      (of_id id (acknowledged_by (set_now st) caller attempt st.now)) versions
      (each (λ v begun. thinned_is (own o v)
      (own o (of_id id (acknowledged_by (set_now st) caller attempt st.now) v))
      (either_own (set_now st) o (v.id == id) (acknowledged_by (set_now st) caller attempt st.now v)
      v (completed_own (set_now st) o all_carriers lasts caller attempt st.now v begun
      ∙ answered_own (set_now st) o caller id attempt other v))) versions
      (versions_kept begun_kept st.windows s st.history st.now is))

  -- What a request does to the existing versions.
  done_next : (caller : ℕ) (request : Request) → refusal st (RequestFrom caller request) ≡ None
      → is_others o caller request ≡ true
      → Passes (version_after_request (set_now st) s caller st.now all_carriers request)
  done_next caller (CommandRequest (RegisterCarrier spid)) ok other =
      all_same (joined_by spid) (joined_own (set_now st) o caller spid other)
  done_next caller (CommandRequest (OldProviderCreate tn old_provider new_provider due authorized))
      ok
      other =
      all_same (version_after_request (set_now st) s caller st.now all_carriers
      (CommandRequest (OldProviderCreate tn old_provider new_provider due authorized)))
      (λ v. either_own (set_now st) o (subject_eq s (Number tn) && lacks_old_create old_provider
      new_provider v) (with_old_create (set_now st) authorized st.now v) v (by authorized v))
    where
      by : (b : Bool) (v : Version) → own o (with_old_create (set_now st) b st.now v) ≡ own o v
      by true v = refl
      by false v = refl
  done_next caller (CommandRequest (NewProviderCreate tn old_provider new_provider due lrn cic)) ok
      other =
      all_same (version_after_request (set_now st) s caller st.now all_carriers
      (CommandRequest (NewProviderCreate tn old_provider new_provider due lrn cic)))
      (λ v. either_own (set_now st) o (subject_eq s (Number tn) && lacks_new_create old_provider
      new_provider v) (with_new_create (record { lrn = lrn; cic = cic }) st.now v) v refl)
  done_next caller (CommandRequest (OnVersion id c)) ok other =
      command_next caller id c (accepted_command st caller (OnVersion id c) ok)
  done_next caller (CommandRequest (Release block)) ok other =
      release_next caller block (accepted_command st caller (Release block) ok)
  done_next caller (AcknowledgementRequest id attempt) ok other =
      acknowledged_next caller id attempt other
  done_next caller _ ok other = all_same (λ v. v) (λ v. refl)

  -- ---- the version that it makes

  abbrev MadeNext : (caller : ℕ) (donor : Option ℕ) → Request → ℕ → Type 0
  MadeNext caller donor request id =
      IsNext st.now (placed o versions)
      (placed o (made_version (set_now st) id caller st.now all_carriers donor request ∷ changed_at
      (set_now st) st.now (version_after_request (set_now st) s caller st.now all_carriers request)
      versions))

  -- A version that is sent at once.
  sent_made : (v : Version) → v.broadcasts ≡ []
      → IsNext st.now (placed o versions)
      (placed o (next_attempt (set_now st) Create all_carriers st.now v ∷ changed_at (set_now st)
      st.now
      (λ u. u) versions))
  sent_made v none =
      by_cases (own o v) (ap (own_of o v.id) none)
      (own o (next_attempt (set_now st) Create all_carriers st.now v))
      (sent_next (set_now st) o all_carriers lasts Create st.now v)
    where
      thin : IsThinned (placed o versions)
          (placed o (changed_at (set_now st) st.now (λ u. u) versions))
      thin = changed_thinned (set_now st) o st.now (λ u. u) versions (sames (λ u. u) (λ u. refl))

      by_cases : (ps : List Placed) → ps ≡ [] → (qs : List Placed) → IsNext st.now ps qs
          → IsNext st.now (placed o versions)
          (qs ++ placed o (changed_at (set_now st) st.now (λ u. u) versions))
      by_cases [] e qs next =
          next_append st.now [] qs (placed o versions)
          (placed o (changed_at (set_now st) st.now (λ u. u) versions)) next thin
      by_cases (p ∷ ps) e qs next = cc

  made_next : (caller : ℕ) (donor : Option ℕ) (request : Request) (id : ℕ)
      → Passes (version_after_request (set_now st) s caller st.now all_carriers request)
      → MadeNext caller donor request id
  made_next caller donor (CommandRequest (OldProviderCreate tn old_provider new_provider due true))
      id
      next = next
  made_next caller donor (CommandRequest (OldProviderCreate tn old_provider new_provider due false))
      id
      next = next
  made_next caller donor (CommandRequest (Donate block used lrn cic)) id next =
      sent_made (record (blank_version (set_now st) id caller caller st.now st.now) {
        routing =
            Some (record { lrn = lrn; cic = cic });
        protective = true;
      }) refl
  made_next caller donor (CommandRequest (Assign block holder lrn cic)) id next =
      sent_made (record (blank_version (set_now st) id (unwrap_or donor 0) holder st.now st.now)
      { routing = Some (record { lrn = lrn; cic = cic }) }) refl
  made_next caller donor _ id next = next

-- An entry makes a list that `IsNext` permits.
pub entry_next : (o : Look) (w : Windows) (s : Subject) (h : List Entry) (e : Entry)
    → IsHistory w (e ∷ h) e.minute → Lasts o (replay w s h e.minute).carriers
    → is_others o e.caller e.request ≡ true →
    IsNext e.minute (placed o (replay w s h e.minute).versions)
    (placed o (record_after w s h e).versions)
unfolding effect
entry_next o w s h e is lasts other =
    by_cases (id_among s (next_after (subjects_made w h))
    (subjects_made_by e.request (record_now st)))
  where
    st : State
    st = record { windows = w; history = h; now = e.minute }

    next : IsNext e.minute (placed o (replay w s h e.minute).versions)
        (placed o (changed_at (present_set w h) e.minute (version_after_request (present_set w h) s
        e.caller
        e.minute (replay w s h e.minute).carriers e.request) (replay w s h e.minute).versions))
    next = done_next o st is.3 s lasts e.caller e.request is.2 other

    by_cases : (made : Option ℕ) → IsNext e.minute (placed o (replay w s h e.minute).versions)
        (placed o (with_made made (λ id. made_version (present_set w h) id e.caller e.minute
        (replay w s h e.minute).carriers (donor_of (assigned_block e.request) h) e.request)
        (changed_at (present_set w h) e.minute (version_after_request (present_set w h) s e.caller
        e.minute
        (replay w s h e.minute).carriers e.request) (replay w s h e.minute).versions)))
    by_cases None = next
    by_cases (Some id) =
        made_next o st is.3 s lasts e.caller (donor_of (assigned_block e.request) h)
        e.request id next
