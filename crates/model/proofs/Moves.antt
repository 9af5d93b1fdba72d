-- The moves: whatever an accepted request or a minute makes of a version is one of them.
use Rattle.std.proofs.Common.{◌≡◌, ℕ, ◌+◌, ◌<◌, ◌≤◌, ◌⊎◌, inl, inr, Bool, true, false, cond, not, ◌&&◌, List, [], ◌∷◌, map, Option, Some, None, refl, ap, sym, ◌∙◌, subst, arith, is_some}
use Rattle.std.specs.Prelude.{◌==◌, nat_lt, find, unwrap_or, if◌then◌else◌}
use Rattle.std.specs.List.{AllByRecursion}
use Rattle.std.proofs.lemmas.Bool.Decides.{nat_tests}
use Rattle.numbers.specs.Subjects.{Subject, Number, Block, subject_eq}
use Rattle.numbers.specs.Routings.{Routing}
use Rattle.model.specs.Commands.{RegisterCarrier, OldProviderCreate, NewProviderCreate, VersionCommand, OnVersion, Activate, PutInConflict, RemoveFromConflict, Cancel, OldProviderCancellationAcknowledge, NewProviderCancellationAcknowledge, Disconnect, ModifyRouting, Donate, Assign, Release}
use Rattle.model.specs.Statuses.{Send}
use Rattle.model.specs.Statuses.{Create, Delete, Modify}
use Rattle.model.specs.declared.words.Outcome.TheVariants.{AllAcknowledged}
use Rattle.model.specs.declared.words.Side.{Side}
use Rattle.model.specs.declared.words.Side.TheVariants.{OldProvider, NewProvider}
use Rattle.model.specs.Statuses.{Status, Pending, Conflict, CancelPending, Sending, Active, PartialFailure, Failed, DisconnectPending, Old, Canceled}
use Rattle.model.specs.Windows.{Windows, WindowSet}
use Rattle.model.specs.Sound.{NoneInForce, AreSound, is_block}
use Rattle.model.specs.Versions.{Version, in_force, in_force_status, is_among, with_number, first_of_versions, last_version, version_with}
use Rattle.model.specs.Changes.{with_status, next_attempt, closed_with, outcome_at_end, nobody_is_missing, completed, acknowledged_by, acknowledged_broadcast, joined_by}
use Rattle.model.specs.Conditions.{limit, holds_of, can_activate, can_cancel, is_pending, is_conflict, is_cancel_pending, is_active, lacks_concurrence, has_no_attempt_left}
use Rattle.model.specs.Content.{is_nonempty}
use Rattle.model.specs.Judge.{is_expired, version_on_expiry, judged_version}
use Rattle.model.specs.History.{Request, CommandRequest, AcknowledgementRequest, carriers, carrier_named, carrier_added, awaits_creates, lacks_old_create, lacks_new_create, with_old_create, with_new_create, has_both_creates, side_of, cancelled_by, disconnected, version_after_command, version_after_request, subjects_made_by, blank_version, made_version, id_among}
use Rattle.model.specs.State.{State, SubjectVersion, record_now, version_of_id, is_carrier, set_now}
use Rattle.model.specs.Refusals.{RequestFrom, refusal, tests}
use Rattle.model.specs.Machine.{HasHistory}
use Rattle.numbers.proofs.Small.{true-false, denied, and_first, and_second, or_first, equal_number}
use Rattle.model.proofs.Lists.{found_has}
use Rattle.model.proofs.Accepted.{AcceptedCommand, accepted_command, none_holds}
use Rattle.model.proofs.Ids.{same_subject}
use Rattle.model.proofs.Entries.{named_test, is_active-is}
use Rattle.model.proofs.Entered.{given_now, sound_now, record-carriers}

-- ---- statuses

-- Whether a version with this status waits for creates or for the acknowledgement of a cancel.
abbrev pub is_before_sending : Status → Bool
is_before_sending Pending = true
is_before_sending Conflict = true
is_before_sending (CancelPending by) = true
is_before_sending _ = false

-- Whether a version with this status was never in force, and may still become canceled.
abbrev pub is_unserved : Status → Bool
is_unserved Failed = true
is_unserved status = is_before_sending status

-- Whether a version with this status waits for its release minute.
abbrev pub is_planned : Status → Bool
is_planned (DisconnectPending release) = true
is_planned _ = false

-- Whether the last acknowledgement of its newest broadcast would change a version with this status.
abbrev pub awaits_answers : Status → Bool
awaits_answers (Sending action) = true
awaits_answers PartialFailure = true
awaits_answers _ = false

-- ---- conditions of moves

-- Holds if the version's status passes the test.
abbrev pub IsIn : (Status → Bool) → List ℕ → Version → Type 0
IsIn test cs v = test v.status ≡ true

abbrev pub Sends : Send → List ℕ → Version → Type 0
Sends action cs v = v.status ≡ Sending action

-- Holds if the version failed, or is pending with the new provider's create, and has an attempt
-- left.
abbrev pub MayActivate : List ℕ → Version → Type 0
MayActivate cs v =
    ((v.status ≡ Failed) ⊎ ((v.status ≡ Pending) × (is_some v.new_at ≡ true)))
    × (v.attempt + 1 < limit)

-- Holds if the version is active and has an attempt left.
abbrev pub MayDisconnect : List ℕ → Version → Type 0
MayDisconnect cs v = (v.status ≡ Active) × (v.attempt + 1 < limit)

-- The version with the acknowledgement of one more carrier.
abbrev pub answered_by : ℕ → ℕ → Version → Version
answered_by c attempt v = record v {
  broadcasts = map (acknowledged_broadcast c attempt) v.broadcasts;
}

-- Holds if a carrier acknowledges, and either somebody is still missing or the status does not
-- change with the last acknowledgement.
abbrev pub MayAnswer : (c attempt : ℕ) → List ℕ → Version → Type 0
MayAnswer c attempt cs v =
    (is_among c cs ≡ true)
    × (awaits_answers v.status ≡ true → nobody_is_missing (answered_by c attempt v).broadcasts
    ≡ false)

-- ---- the moves

-- A property of a minute, the registered carriers and a version.
abbrev pub Property : Type 1
Property = ℕ → List ℕ → Version → Type 0

-- Holds if the move keeps P under its condition.
abbrev pub Move : Property → (List ℕ → Version → Type 0) → (ℕ → List ℕ → Version → Version) → Type 0
Move P when becomes =
    (m : ℕ) (cs : List ℕ) (v : Version) → when cs v → P m cs v → P m cs (becomes m cs v)

-- Holds if a version that is made has P. Somebody is a carrier, since a request made it.
abbrev pub Makes : WindowSet → Property → (ℕ → List ℕ → Version → Version) → Type 0
Makes w P becomes =
    (m : ℕ) (cs : List ℕ) (id old_provider new_provider due : ℕ) → is_nonempty cs ≡ true →
    P m cs (becomes m cs (blank_version w id old_provider new_provider due m))

-- Holds if each move keeps P, with this set of windows as the present one.
pub record MovesKeep (w : WindowSet) (P : Property) : Type 0 where
  -- Time passes, or a carrier registers.
  pub later : (m n : ℕ) (cs : List ℕ) (v : Version) → m ≤ n → P m cs v → P n cs v
  pub joined : (c m : ℕ) (cs : List ℕ) (v : Version) → P m cs v
      → P m (with_number c cs) (joined_by c v)
  -- A version is made: by a create, or by a donation or an assignment, which send it.
  pub made_old : Makes w P (λ m cs b. record b { old_at = Some m })
  pub made_new : (routing : Routing) →
      Makes w P (λ m cs b. record b { new_at = Some m; routing = Some routing })
  pub made_sent : (routing : Routing) (protective : Bool) →
      Makes w P (λ m cs b. next_attempt w Create cs m (record b {
        routing = Some routing;
        protective =
            protective;
      }))
  -- A second create comes.
  pub old_create : Move P (IsIn awaits_creates) (λ m cs v. record v { old_at = Some m })
  pub new_create : (routing : Routing) →
      Move P (IsIn awaits_creates) (λ m cs v. record v { new_at = Some m; routing = Some routing })
  -- The version enters a status at once.
  pub pending : Move P (IsIn is_before_sending) (λ m cs v. with_status w Pending m v)
  pub conflict : (spent : Bool) →
      Move P (IsIn is_before_sending) (λ m cs v. record (with_status w Conflict m v) {
        spent =
            spent;
      })
  pub cancel_pending : (by : Side) →
      Move P (IsIn is_before_sending) (λ m cs v. with_status w (CancelPending by) m v)
  pub canceled : Move P (IsIn is_unserved) (λ m cs v. with_status w Canceled m v)
  pub active : Move P (IsIn is_planned) (λ m cs v. with_status w Active m v)
  pub planned : (release : ℕ)
      → Move P MayDisconnect (λ m cs v. with_status w (DisconnectPending release) m v)
  pub old : Move P (IsIn in_force_status) (λ m cs v. with_status w Old m v)
  -- The version is sent: by an activation, by a disconnect or a block's release, by its release
  -- minute, or by a modify.
  pub activated : Move P MayActivate (λ m cs v. next_attempt w Create cs m v)
  pub disconnected : Move P MayDisconnect (λ m cs v. next_attempt w Delete cs m v)
  pub released : Move P (IsIn is_planned) (λ m cs v. next_attempt w Delete cs m v)
  pub modified : (routing : Routing)
      → Move P MayDisconnect (λ m cs v. next_attempt w (Modify routing) cs m v)
  -- The window of its broadcast ends.
  pub ended : (action : Send) →
      Move P (Sends action) (λ m cs v. closed_with w action (outcome_at_end v.broadcasts) m v)
  -- A carrier acknowledges. The last one closes the broadcast, or makes a partial failure active.
  pub answered : (c attempt : ℕ) → Move P (MayAnswer c attempt) (λ m cs v. answered_by c attempt v)
  pub closed : (c attempt : ℕ) (action : Send) →
      Move P (λ cs v. (is_among c cs ≡ true) × Sends action cs v)
      (λ m cs v. closed_with w action AllAcknowledged m (answered_by c attempt v))
  pub whole : (c attempt : ℕ) →
      Move P (λ cs v. (is_among c cs ≡ true) × (v.status ≡ PartialFailure))
      (λ m cs v. with_status w Active m (answered_by c attempt v))

-- ---- what the tests say

-- If the limit's test fails, an attempt is left.
left_by : (attempt : ℕ) → has_no_attempt_left attempt ≡ false → attempt + 1 < limit
left_by attempt e = grind (arith, nat_tests)

-- The status passed a command's test.
pending_before : (status : Status) → not (is_pending status) ≡ false
    → is_before_sending status ≡ true
pending_before Pending may = refl
pending_before _ may = cc

conflict_before : (status : Status) → not (is_conflict status) ≡ false
    → is_before_sending status ≡ true
conflict_before Conflict may = refl
conflict_before _ may = cc

cancelled_before : (status : Status) → not (is_cancel_pending status) ≡ false →
    is_unserved status ≡ true
cancelled_before (CancelPending by) may = refl
cancelled_before _ may = cc

awaiting_before : (status : Status) → awaits_creates status ≡ true → is_before_sending status ≡ true
awaiting_before Pending awaits = refl
awaiting_before Conflict awaits = refl
awaiting_before _ awaits = cc

-- A version that is activated failed, or is pending with the new provider's create.
activated_from : (w : Windows) (now : ℕ) (new_at old_at : Option ℕ) (since : ℕ) (status : Status) →
    not (can_activate status) ≡ false →
    lacks_concurrence w now status old_at new_at since ≡ false → (status ≡ Failed)
    ⊎ ((status ≡ Pending) × (is_some new_at ≡ true))
activated_from w now new_at old_at since Failed may concurred = inl refl
activated_from w now (Some m) old_at since Pending may concurred = inr (refl, refl)
activated_from w now None old_at since Pending may concurred = cc
activated_from w now new_at old_at since _ may concurred = cc

-- Of a block's versions only the newest is in force.
last_in_force : (s : Subject) (vs : List Version) (v : Version) → AreSound s vs →
    is_block s ≡ true → find (λ u. u.id == v.id) vs ≡ Some v → in_force v ≡ true →
    first_of_versions vs ≡ Some v
last_in_force s [] v sound block found force = cc
last_in_force s (u ∷ us) v sound block found force = by_cases (u.id == v.id) found
  where
    none : (xs : List Version) → NoneInForce xs → AllByRecursion (λ x. in_force x ≡ false) xs
    none [] out = tt
    none (x ∷ xs) out = (out.0, none xs out.1)

    by_cases : (b : Bool) → cond b (Some u) (find (λ x. x.id == v.id) us) ≡ Some v → Some u ≡ Some v
    by_cases true e = e
    by_cases false e =
        true-false (in_force v) force (found_has (λ x. in_force x ≡ false) (λ x. x.id == v.id) us v
        (none us (sound.3 block).1) e)

some_carrier : (c : ℕ) (cs : List ℕ) → is_among c cs ≡ true → is_nonempty cs ≡ true
some_carrier c [] is = cc
some_carrier c (d ∷ ds) is = refl

-- Whoever makes a version names a carrier or is one, so somebody is a carrier.
made_by_carrier : (st : State) (caller : ℕ) (s : Subject) (from id : ℕ) (request : Request) →
    refusal st (RequestFrom caller request) ≡ None →
    id_among s from (subjects_made_by request (record_now st)) ≡ Some id
    → is_nonempty (carriers st.history) ≡ true
made_by_carrier st caller s from id
    (CommandRequest (OldProviderCreate tn old_provider new_provider due authorized)) ok made =
    some_carrier old_provider (carriers st.history) (denied (is_carrier st old_provider)
    (or_first (not (is_carrier st old_provider)) _
    (accepted_command st caller (OldProviderCreate tn old_provider new_provider due authorized) ok
    1)))
made_by_carrier st caller s from id
    (CommandRequest (NewProviderCreate tn old_provider new_provider due lrn cic)) ok made =
    some_carrier old_provider (carriers st.history) (denied (is_carrier st old_provider)
    (or_first (not (is_carrier st old_provider)) _
    (accepted_command st caller (NewProviderCreate tn old_provider new_provider due lrn cic) ok
    1)))
made_by_carrier st caller s from id (CommandRequest (Donate block used lrn cic)) ok made =
    some_carrier caller (carriers st.history) (denied (is_carrier st caller)
    (accepted_command st caller (Donate block used lrn cic) ok 1))
made_by_carrier st caller s from id (CommandRequest (Assign block holder lrn cic)) ok made =
    some_carrier holder (carriers st.history) (denied (is_carrier st holder)
    (accepted_command st caller (Assign block holder lrn cic) ok 1))
made_by_carrier st caller s from id _ ok made = cc

-- An accepted acknowledgement is a carrier's.
by_carrier : (st : State) (caller id attempt : ℕ) →
    refusal st (RequestFrom caller (AcknowledgementRequest id attempt)) ≡ None →
    is_among caller (carriers st.history) ≡ true
unfolding tests
by_carrier st caller id attempt ok =
    denied (is_among caller (carriers st.history))
    (none_holds (tests st (RequestFrom caller (AcknowledgementRequest id attempt))) ok).0

-- ---- what keeps P

module _ {P : Property} {w : WindowSet} (keeps : MovesKeep w P) where
  -- A minute keeps P.
  pub judged_kept : (cs : List ℕ) (m : ℕ) (v : Version) → P m cs v →
      P m cs (judged_version w cs m v)
  unfolding judged_version
  judged_kept cs m v p = by_cases (is_expired m v v.status)
    where
      over : (status : Status) → v.status ≡ status → P m cs (version_on_expiry w cs m v status)
      over Pending e = keeps.canceled m cs v (ap is_unserved e) p
      over Conflict e = keeps.canceled m cs v (ap is_unserved e) p
      over (CancelPending OldProvider) e = keeps.conflict v.spent m cs v (ap is_before_sending e) p
      over (CancelPending NewProvider) e = keeps.canceled m cs v (ap is_unserved e) p
      over (DisconnectPending release) e = keeps.released m cs v (ap is_planned e) p
      over (Sending action) e = keeps.ended action m cs v e p
      over _ e = p

      by_cases : (b : Bool) → P m cs (if b then version_on_expiry w cs m v v.status else v)
      by_cases true = over v.status refl
      by_cases false = p

  module _ (m : ℕ) (cs : List ℕ) (v : Version) (p : P m cs v) where
    either : (b : Bool) (u : Version) → (b ≡ true → P m cs u) → P m cs (if b then u else v)
    either true u one = one refl
    either false u one = p

    -- An acknowledgement keeps P.
    acknowledged_kept : (c attempt : ℕ) → is_among c cs ≡ true
        → P m cs (acknowledged_by w c attempt m v)
    acknowledged_kept c attempt among =
        by_cases (nobody_is_missing (answered_by c attempt v).broadcasts) refl
      where
        complete : (status : Status) → v.status ≡ status →
            P m cs (completed w status m (answered_by c attempt v))
        complete (Sending action) e = keeps.closed c attempt action m cs v (among, e) p
        complete PartialFailure e = keeps.whole c attempt m cs v (among, e) p
        complete _ e = keeps.answered c attempt m cs v (
          among,
          λ awaits. true-false (awaits_answers v.status) awaits (ap awaits_answers e),
        ) p

        by_cases : (b : Bool) → nobody_is_missing (answered_by c attempt v).broadcasts ≡ b →
            P m cs (if b then completed w v.status m (answered_by c attempt v)
            else answered_by c attempt v)
        by_cases true e = complete v.status refl
        by_cases false e = keeps.answered c attempt m cs v (among, λ awaits. e) p

    -- A second create keeps P.
    old_create_kept : (authorized : Bool) → awaits_creates v.status ≡ true →
        P m cs (with_old_create w authorized m v)
    old_create_kept true awaits = keeps.old_create m cs v awaits p
    old_create_kept false awaits =
        keeps.conflict true m cs (record v { old_at = Some m }) (awaiting_before v.status awaits)
        (keeps.old_create m cs v awaits p)

    -- A cancel keeps P.
    waiting_kept : (caller : ℕ) → is_before_sending v.status ≡ true → is_unserved v.status ≡ true
        → (b : Bool) →
        P m cs (if b then with_status w (CancelPending (side_of caller v.old_provider)) m v
        else with_status w Canceled m v)
    waiting_kept caller before unserved true =
        keeps.cancel_pending (side_of caller v.old_provider) m cs v before p
    waiting_kept caller before unserved false = keeps.canceled m cs v unserved p

    cancelled_kept : (caller : ℕ) (status : Status) → v.status ≡ status
        → not (can_cancel status) ≡ false →
        P m cs (cancelled_by w status caller m v)
    cancelled_kept caller Pending e may =
        waiting_kept caller (ap is_before_sending e) (ap is_unserved e)
        (has_both_creates v.old_at v.new_at)
    cancelled_kept caller Conflict e may =
        waiting_kept caller (ap is_before_sending e) (ap is_unserved e)
        (has_both_creates v.old_at v.new_at)
    cancelled_kept caller Failed e may = keeps.canceled m cs v (ap is_unserved e) p
    cancelled_kept caller (DisconnectPending release) e may =
        keeps.active m cs v (ap is_planned e) p
    cancelled_kept caller _ e may = cc

    -- A disconnect keeps P.
    disconnected_kept : (release : Option ℕ) → v.status ≡ Active → v.attempt + 1 < limit →
        P m cs (disconnected w release cs m v)
    disconnected_kept None active left = keeps.disconnected m cs v (active, left) p
    disconnected_kept (Some release) active left = by_cases (nat_lt m release)
      where
        by_cases : (b : Bool) →
            P m cs (if b then with_status w (DisconnectPending release) m v
            else next_attempt w Delete cs m v)
        by_cases true = keeps.planned release m cs v (active, left) p
        by_cases false = keeps.disconnected m cs v (active, left) p

module _ {P : Property} (st : State) (keeps : MovesKeep (set_now st) P)
    (is : HasHistory st) (s : Subject) where
  abbrev all_carriers : List ℕ
  all_carriers = (record_now st s).carriers

  carriers_are : all_carriers ≡ carriers st.history
  carriers_are = record-carriers st.windows st.history s st.now

  test : (id : ℕ) (v : Version) (is_so : Version → Bool) →
      version_with id (record_now st s) ≡ Some v →
      holds_of (λ (e : SubjectVersion). is_so e.version) (version_of_id st id) ≡ false
      → is_so v ≡ false
  test = named_test st s (given_now st is s)

  -- A command on the version keeps P.
  change_kept : (caller id : ℕ) (c : VersionCommand) →
      AcceptedCommand st caller (OnVersion id c) → (v : Version) →
      version_with id (record_now st s) ≡ Some v →
      P st.now all_carriers v
      → P st.now all_carriers (version_after_command (set_now st) caller st.now all_carriers c v)
  change_kept caller id Activate accepted v found p = keeps.activated st.now all_carriers v (
    activated_from v.held.windows st.now v.new_at v.old_at v.since v.status
        (test id v (λ u. not (can_activate u.status)) found (accepted 13))
        (test id v (λ u. lacks_concurrence u.held.windows st.now u.status u.old_at u.new_at u.since)
        found (accepted 16)),
    left_by v.attempt (test id v (λ u. has_no_attempt_left u.attempt) found
        (accepted 28)),
  ) p
  change_kept caller id PutInConflict accepted v found p =
      keeps.conflict true st.now all_carriers v
      (pending_before v.status (test id v (λ u. not (is_pending u.status)) found
      (accepted 13))) p
  change_kept caller id RemoveFromConflict accepted v found p =
      keeps.pending st.now all_carriers v
      (conflict_before v.status (test id v (λ u. not (is_conflict u.status)) found
      (accepted 13))) p
  change_kept caller id Cancel accepted v found p =
      cancelled_kept keeps st.now all_carriers v p caller v.status refl
      (test id v (λ u. not (can_cancel u.status)) found (accepted 13))
  change_kept caller id OldProviderCancellationAcknowledge accepted v found p =
      keeps.canceled st.now all_carriers v
      (cancelled_before v.status (test id v (λ u. not (is_cancel_pending u.status)) found
      (accepted 13))) p
  change_kept caller id NewProviderCancellationAcknowledge accepted v found p =
      keeps.canceled st.now all_carriers v
      (cancelled_before v.status (test id v (λ u. not (is_cancel_pending u.status)) found
      (accepted 13))) p
  change_kept caller id (Disconnect release) accepted v found p =
      disconnected_kept keeps st.now all_carriers v p release
      (is_active-is v.status (test id v (λ u. not (is_active u.status)) found
      (accepted 13)))
      (left_by v.attempt (test id v (λ u. has_no_attempt_left u.attempt) found
      (accepted 28)))
  change_kept caller id (ModifyRouting lrn cic) accepted v found p =
      keeps.modified (record { lrn = lrn; cic = cic }) st.now all_carriers v (
        is_active-is v.status (test id v (λ u. not (is_active u.status)) found
            (accepted 13)),
        left_by v.attempt (test id v (λ u. has_no_attempt_left u.attempt) found
            (accepted 28)),
      ) p

  -- The release of a block keeps P: its newest version is active.
  released_kept : (caller block : ℕ) → AcceptedCommand st caller (Release block) → (v : Version) →
      version_with v.id (record_now st s) ≡ Some v →
      (subject_eq s (Block block) && in_force v) ≡ true → P st.now all_carriers v
      → P st.now all_carriers (next_attempt (set_now st) Delete all_carriers st.now v)
  released_kept caller block accepted v found released p =
      let same : s ≡ Block block =
      sym (same_subject s (Block block) (and_first (subject_eq s (Block block)) (in_force v)
      released)) in
      let last : first_of_versions (record_now st s).versions ≡ Some v =
      last_in_force s (record_now st s).versions v (sound_now st is s) (ap is_block same) found
      (and_second (subject_eq s (Block block)) (in_force v) released) in
      let last_is : last_version (record_now st (Block block)) ≡ Some v =
      ap (λ t. last_version (record_now st t)) (sym same) ∙ last in
      keeps.disconnected st.now all_carriers v (
        is_active-is v.status (ap (holds_of (λ (u : Version). not (is_active u.status)))
            (sym last_is) ∙ accepted 13),
        left_by v.attempt (ap (holds_of (λ (u : Version). has_no_attempt_left u.attempt))
            (sym last_is) ∙ accepted 28),
      ) p

  -- An accepted request keeps P of a version of the subject.
  pub done_kept : (caller : ℕ) (request : Request) → refusal st (RequestFrom caller request) ≡ None
      →
      (v : Version) → version_with v.id (record_now st s) ≡ Some v →
      P st.now all_carriers v → P st.now (carrier_added (carrier_named request) all_carriers)
      (version_after_request (set_now st) s caller st.now all_carriers request v)
  done_kept caller (CommandRequest (RegisterCarrier spid)) ok v found p =
      keeps.joined spid st.now all_carriers v p
  done_kept caller (CommandRequest (OldProviderCreate tn old_provider new_provider due authorized))
      ok v
      found p =
      either keeps st.now all_carriers v p (subject_eq s (Number tn) && lacks_old_create
      old_provider
      new_provider v) (with_old_create (set_now st) authorized st.now v)
      (λ lacks. old_create_kept keeps st.now all_carriers v p authorized (awaits lacks))
    where
      awaits : (subject_eq s (Number tn) && lacks_old_create old_provider new_provider v) ≡ true →
          awaits_creates v.status ≡ true
      awaits lacks =
          and_first (awaits_creates v.status) _
          (and_first _ _ (and_second (subject_eq s (Number tn))
          (lacks_old_create old_provider new_provider v) lacks))
  done_kept caller (CommandRequest (NewProviderCreate tn old_provider new_provider due lrn cic)) ok
      v
      found p =
      either keeps st.now all_carriers v p (subject_eq s (Number tn) && lacks_new_create
      old_provider
      new_provider v) (with_new_create (record { lrn = lrn; cic = cic }) st.now v)
      (λ lacks. keeps.new_create (record { lrn = lrn; cic = cic }) st.now all_carriers v
      (awaits lacks)
      p)
    where
      awaits : (subject_eq s (Number tn) && lacks_new_create old_provider new_provider v) ≡ true →
          awaits_creates v.status ≡ true
      awaits lacks =
          and_first (awaits_creates v.status) _
          (and_first _ _ (and_second (subject_eq s (Number tn))
          (lacks_new_create old_provider new_provider v) lacks))
  done_kept caller (CommandRequest (OnVersion id c)) ok v found p =
      either keeps st.now all_carriers v p (v.id == id) (version_after_command (set_now st) caller
      st.now all_carriers c
      v)
      (λ named. change_kept caller id c (accepted_command st caller (OnVersion id c) ok) v
      (subst (λ k. version_with k (record_now st s) ≡ Some v) (equal_number v.id id named) found) p)
  done_kept caller (CommandRequest (Release block)) ok v found p =
      either keeps st.now all_carriers v p (subject_eq s (Block block) && in_force v)
      (next_attempt (set_now st) Delete all_carriers st.now v)
      (λ released. released_kept caller block (accepted_command st caller (Release block) ok) v
      found released p)
  done_kept caller (AcknowledgementRequest id attempt) ok v found p =
      either keeps st.now all_carriers v p (v.id == id) (acknowledged_by (set_now st) caller attempt
      st.now v)
      (λ named. acknowledged_kept keeps st.now all_carriers v p caller attempt
      (ap (is_among caller) carriers_are ∙ by_carrier st caller id attempt ok))
  done_kept caller _ ok v found p = p

  -- The version that a request makes has P.
  pub made_kept : (caller : ℕ) (donor : Option ℕ) (from id : ℕ) (request : Request) →
      refusal st (RequestFrom caller request) ≡ None →
      id_among s from (subjects_made_by request (record_now st)) ≡ Some id
      → P st.now (carrier_added (carrier_named request) all_carriers)
      (made_version (set_now st) id caller st.now all_carriers donor request)
  made_kept caller donor from id request ok made =
      by_cases request (ap is_nonempty carriers_are ∙ made_by_carrier st caller s from id request ok
      made)
      made
    where
      by_cases : (r : Request) → is_nonempty all_carriers ≡ true →
          id_among s from (subjects_made_by r (record_now st)) ≡ Some id →
          P st.now (carrier_added (carrier_named r) all_carriers)
          (made_version (set_now st) id caller
          st.now all_carriers donor r)
      by_cases (CommandRequest (OldProviderCreate tn old_provider new_provider due true)) some
          is_made =
          keeps.made_old st.now all_carriers id old_provider new_provider due some
      by_cases (CommandRequest (OldProviderCreate tn old_provider new_provider due false)) some
          is_made =
          keeps.conflict true st.now all_carriers
          (record (blank_version (set_now st) id old_provider new_provider due st.now) {
            old_at =
                Some st.now;
          }) refl (keeps.made_old st.now all_carriers id old_provider new_provider due some)
      by_cases (CommandRequest (NewProviderCreate tn old_provider new_provider due lrn cic)) some
          is_made =
          keeps.made_new (record { lrn = lrn; cic = cic }) st.now all_carriers id old_provider
          new_provider due some
      by_cases (CommandRequest (Donate block used lrn cic)) some is_made =
          keeps.made_sent (record { lrn = lrn; cic = cic }) true st.now all_carriers id caller
          caller
          st.now some
      by_cases (CommandRequest (Assign block holder lrn cic)) some is_made =
          keeps.made_sent (record { lrn = lrn; cic = cic }) false st.now all_carriers id
          (unwrap_or donor 0) holder st.now some
      by_cases _ some is_made = cc
