-- At most two of the coming minutes change the record of a subject.
use Rattle.std.proofs.Common.{◌≡◌, ℕ, zero, suc, ◌+◌, ◌≤◌, Bool, true, false, not, ◌&&◌, ◌||◌, List, [], ◌∷◌, map, Option, Some, None, refl, ap, sym, ◌∙◌, arith, ◌⊎◌, inl, inr, is_some}
use Rattle.std.specs.Prelude.{◌-◌, ⊤, ◌≢◌, nat_le, if◌then◌else◌}
use Rattle.std.proofs.lemmas.Bool.Decides.{nat_tests}
use Rattle.numbers.specs.Subjects.{Subject, Number, Block}
use Rattle.model.specs.Statuses.{Send}
use Rattle.model.specs.Statuses.{Create, Delete, Modify}
use Rattle.model.specs.declared.words.Side.TheVariants.{OldProvider}
use Rattle.model.specs.Statuses.{Status, Pending, Conflict, CancelPending, Sending, Active, PartialFailure, Failed, DisconnectPending, Old, Canceled}
use Rattle.model.specs.Windows.{AreWindows, has_age, WindowSet}
use Rattle.model.specs.Versions.{Broadcast, Version, Record, in_force, in_force_status, is_open, open_by}
use Rattle.model.specs.Changes.{with_status, status_after, outcome_at_end, changed_at, retired}
use Rattle.model.specs.Sound.{NoneInForce, OneInForce, NoneOpen, InForceIsActive, HaveBlockStatus, block_status, is_block, AreSound}
use Rattle.model.specs.Judge.{is_expired, version_on_expiry, judged_version, judge, judged_for, judged, retained_from}
use Rattle.model.specs.State.{record_now, set_now}
use Rattle.model.specs.Laws.{IsQuiet, AtMostTwoFirings}
use Rattle.numbers.proofs.Small.{true-false}
use Rattle.model.proofs.Minutes.{judge-quiet, judged-quiet, judged-at_end, judged-trans, IsQuiet-before}
use Rattle.model.proofs.Settling.{judge-is_quiet}
use Rattle.model.proofs.Deadlines.{IsLeastBelow, least_below_is}
use Rattle.model.specs.Content.{least_below}
use Rattle.model.proofs.Unique.{judge-sound}
use Rattle.model.proofs.Sound.{replay-sound}
use Rattle.model.proofs.Sets.{present-are}

-- ---- whether some timer has expired

abbrev any_over : ℕ → List Version → Bool
any_over j [] = false
any_over j (v ∷ vs) = is_expired j v v.status || any_over j vs

none_over : (j : ℕ) (vs : List Version) → any_over j vs ≡ false → IsQuiet j vs
none_over j [] e = tt
none_over j (v ∷ vs) e = by_cases (is_expired j v v.status) refl e (λ f. none_over j vs f)
  where
    by_cases : (b : Bool) → is_expired j v v.status ≡ b → (b || any_over j vs) ≡ false
        → (any_over j vs ≡ false → IsQuiet j vs) → IsQuiet j (v ∷ vs)
    by_cases true f g later = cc
    by_cases false f g later = (f, later g)

quiet_over : (j : ℕ) (vs : List Version) → IsQuiet j vs → any_over j vs ≡ false
quiet_over j [] quiet = refl
quiet_over j (v ∷ vs) quiet = ap (λ b. b || any_over j vs) quiet.0 ∙ quiet_over j vs quiet.1

-- ---- a timer expires at some minute, or never

aged : (window since : ℕ) → has_age window since (since + window) ≡ true
aged window since = grind (arith, nat_tests)

come : (release : ℕ) → nat_le release release ≡ true
come release = grind (arith, nat_tests)

pending_ever : (a b : Bool) (retention from windows since : ℕ) →
    ((j : ℕ) → (if a then has_age retention from j else b && has_age windows since j) ≡ false)
    ⊎ ((u : ℕ) × ((if a then has_age retention from u else b && has_age windows since u) ≡ true))
pending_ever true b retention from windows since = inr (from + retention, aged retention from)
pending_ever false true retention from windows since = inr (since + windows, aged windows since)
pending_ever false false retention from windows since = inl (λ j. refl)

ever_over : (v : Version) (status : Status) → ((j : ℕ) → is_expired j v status ≡ false)
    ⊎ ((u : ℕ) × (is_expired u v status ≡ true))
ever_over v Pending =
    pending_ever (is_some v.new_at) (is_some v.old_at) v.held.windows.pending_retention
    (retained_from v.due v.since v.new_at) (v.held.windows.initial_concurrence
    + v.held.windows.final_concurrence) v.since
ever_over v Conflict = inr (
  v.since + v.held.windows.conflict_expiration,
  aged v.held.windows.conflict_expiration v.since,
)
ever_over v (CancelPending by) = inr (
  v.since + (v.held.windows.cancellation_initial + v.held.windows.cancellation_final),
  aged (v.held.windows.cancellation_initial + v.held.windows.cancellation_final) v.since,
)
ever_over v (DisconnectPending release) = inr (release, come release)
ever_over v (Sending action) = inr (
  v.since + v.held.windows.broadcast,
  aged v.held.windows.broadcast v.since,
)
ever_over v _ = inl (λ j. refl)

abbrev IsNever : List Version → Type 0
IsNever vs = (j : ℕ) → any_over j vs ≡ false

ever_any : (vs : List Version) → IsNever vs ⊎ ((u : ℕ) × (any_over u vs ≡ true))
ever_any [] = inl (λ j. refl)
ever_any (v ∷ vs) = by_cases (ever_over v v.status) (ever_any vs)
  where
    by_cases : ((j : ℕ) → is_expired j v v.status ≡ false)
        ⊎ ((u : ℕ) × (is_expired u v v.status ≡ true))
        → IsNever vs ⊎ ((u : ℕ) × (any_over u vs ≡ true)) →
        IsNever (v ∷ vs) ⊎ ((u : ℕ) × (any_over u (v ∷ vs) ≡ true))
    by_cases (inr found) later = inr (found.0, ap (λ b. b || any_over found.0 vs) found.1)
    by_cases (inl never) (inl later) = inl (λ j. ap (λ b. b || any_over j vs) (never j) ∙ later j)
    by_cases (inl never) (inr found) =
        inr (found.0, ap (λ b. b || any_over found.0 vs) (never found.0) ∙ found.1)

-- ---- the first minute with an expired timer

-- Holds if no timer has expired up to b, and one has at the minute after it.
record IsFirst (a : ℕ) (vs : List Version) (b : ℕ) : Type 0 where
  later : a ≤ b
  quiet : IsQuiet b vs
  over : any_over (suc b) vs ≡ true

either_side : (a b : ℕ) → (a ≤ b) ⊎ (suc b ≤ a)
either_side a b = grind arith

first : (a : ℕ) (vs : List Version) → IsQuiet a vs → IsNever vs ⊎ ((b : ℕ) × IsFirst a vs b)
first a vs still = by_cases (ever_any vs)
  where
    since_a : (b : ℕ) → any_over (suc b) vs ≡ true → (a ≤ b) ⊎ (suc b ≤ a) → a ≤ b
    since_a b over (inl before) = before
    since_a b over (inr past) =
        true-false (any_over (suc b) vs) over
        (quiet_over (suc b) vs (IsQuiet-before (suc b) a vs past still))

    least : (u : ℕ) → any_over u vs ≡ true → (o : Option ℕ)
        → IsLeastBelow (λ j. any_over j vs) (suc u) o → (b : ℕ) × IsFirst a vs b
    least u over None is = true-false (any_over u vs) over (is u (omega arith))
    least u over (Some zero) is =
        true-false (any_over zero vs) is.1
        (quiet_over zero vs (IsQuiet-before zero a vs (omega arith) still))
    least u over (Some (suc b)) is = (
      b,
      record {
        later = since_a b is.1 (either_side a b);
        quiet = none_over b vs (is.2 b (omega arith));
        over = is.1;
      },
    )

    by_cases : IsNever vs ⊎ ((u : ℕ) × (any_over u vs ≡ true))
        → IsNever vs ⊎ ((b : ℕ) × IsFirst a vs b)
    by_cases (inl never) = inl never
    by_cases (inr found) =
        inr (least found.0 found.1 (least_below (λ j. any_over j vs) (suc found.0))
        (least_below_is (λ j. any_over j vs) (suc found.0)))

-- ---- how many minutes can still end a status

abbrev to_end : Status → ℕ
to_end Pending = 1
to_end Conflict = 1
to_end (CancelPending by) = 2
to_end (DisconnectPending release) = 2
to_end (Sending action) = 1
to_end _ = 0

abbrev all_to_end : List Version → ℕ
all_to_end [] = 0
all_to_end (v ∷ vs) = to_end v.status + all_to_end vs

two_at_most : (status : Status) → to_end status ≤ 2
two_at_most Pending = omega arith
two_at_most _ = omega arith

-- ---- each minute that ends a status leaves fewer

closed_is_done : (action : Send) (bs : List Broadcast)
    → to_end (status_after action (outcome_at_end bs)) ≡ 0
closed_is_done Create [] = refl
closed_is_done Delete [] = refl
closed_is_done (Modify routing) [] = refl
closed_is_done Create (b ∷ bs) = by_cases b.acknowledged
  where
    by_cases : (cs : List ℕ)
        → to_end (status_after Create (outcome_at_end (record b { acknowledged = cs } ∷ bs))) ≡ 0
    by_cases [] = refl
    by_cases (c ∷ cs) = refl
closed_is_done Delete (b ∷ bs) = by_cases b.acknowledged
  where
    by_cases : (cs : List ℕ)
        → to_end (status_after Delete (outcome_at_end (record b { acknowledged = cs } ∷ bs))) ≡ 0
    by_cases [] = refl
    by_cases (c ∷ cs) = refl
closed_is_done (Modify routing) (b ∷ bs) = by_cases b.acknowledged
  where
    by_cases : (cs : List ℕ)
        → to_end (status_after (Modify routing) (outcome_at_end (record b {
          acknowledged =
              cs;
        } ∷ bs))) ≡ 0
    by_cases [] = refl
    by_cases (c ∷ cs) = refl

ended_fewer : (w : WindowSet) (all_carriers : List ℕ) (j : ℕ) (v : Version) (status : Status)
    → is_expired j v status ≡ true
    → suc (to_end (version_on_expiry w all_carriers j v status).status) ≤ to_end status
ended_fewer w all_carriers j v (Sending action) over =
    let done : to_end (status_after action (outcome_at_end v.broadcasts)) ≡ 0 =
    closed_is_done action v.broadcasts in omega (arith, done)
ended_fewer w all_carriers j v Active over = true-false false over refl
ended_fewer w all_carriers j v PartialFailure over = true-false false over refl
ended_fewer w all_carriers j v Failed over = true-false false over refl
ended_fewer w all_carriers j v Old over = true-false false over refl
ended_fewer w all_carriers j v Canceled over = true-false false over refl
ended_fewer w all_carriers j v (CancelPending OldProvider) over = omega arith
ended_fewer w all_carriers j v _ over = omega arith

judged_at_most : (w : WindowSet) (all_carriers : List ℕ) (j : ℕ) (v : Version)
    → to_end (judged_version w all_carriers j v).status ≤ to_end v.status
unfolding judged_version
judged_at_most w all_carriers j v = by_cases (is_expired j v v.status) refl
  where
    by_cases : (b : Bool) → is_expired j v v.status ≡ b
        → to_end (if b then version_on_expiry w all_carriers j v v.status
        else v).status ≤ to_end v.status
    by_cases true over =
        let less : suc (to_end (version_on_expiry w all_carriers j v v.status).status) ≤ to_end
        v.status = ended_fewer w all_carriers j v v.status over in omega (arith, less)
    by_cases false over = omega arith

judged_fewer : (w : WindowSet) (all_carriers : List ℕ) (j : ℕ) (v : Version)
    → is_expired j v v.status ≡ true → suc (to_end (judged_version w all_carriers j v).status)
    ≤ to_end
    v.status
unfolding judged_version
judged_fewer w all_carriers j v over = rw over (ended_fewer w all_carriers j v v.status over)

retired_at_most : (w : WindowSet) (takes_over : Bool) (minute : ℕ) (v : Version)
    → to_end (retired w takes_over minute v).status ≤ to_end v.status
retired_at_most w takes_over minute v = by_cases (takes_over && in_force v)
  where
    by_cases : (b : Bool) → to_end (if b then with_status w Old minute v else v).status ≤ to_end
        v.status
    by_cases true = omega arith
    by_cases false = omega arith

all_retired_at_most : (w : WindowSet) (takes_over : Bool) (minute : ℕ) (vs : List Version)
    → all_to_end (map (retired w takes_over minute) vs) ≤ all_to_end vs
all_retired_at_most w takes_over minute [] = omega arith
all_retired_at_most w takes_over minute (v ∷ vs) =
    let own = retired_at_most w takes_over minute v in let others =
    all_retired_at_most w takes_over minute vs in omega (arith, own, others)

changed_at_most : (w : WindowSet) (all_carriers : List ℕ) (j : ℕ) (vs : List Version)
    → all_to_end (changed_at w j (judged_version w all_carriers j) vs) ≤ all_to_end vs
changed_at_most w all_carriers j [] = omega arith
changed_at_most w all_carriers j (v ∷ vs) =
    let own = judged_at_most w all_carriers j v in
    let kept = all_retired_at_most w (not (in_force v) && in_force (judged_version w all_carriers j
    v))
    j (changed_at w j (judged_version w all_carriers j) vs) in
    let others = changed_at_most w all_carriers j vs in
    omega (arith, own, kept, others)

changed_fewer : (w : WindowSet) (all_carriers : List ℕ) (j : ℕ) (vs : List Version)
    → any_over j vs ≡ true → suc (all_to_end (changed_at w j (judged_version w all_carriers j) vs))
    ≤ all_to_end vs
changed_fewer w all_carriers j [] over = true-false false over refl
changed_fewer w all_carriers j (v ∷ vs) over =
    let kept = all_retired_at_most w (not (in_force v) && in_force (judged_version w all_carriers j
    v))
    j (changed_at w j (judged_version w all_carriers j) vs) in
    by_cases (is_expired j v v.status) refl over kept (λ some. changed_fewer w all_carriers j vs
    some)
  where
    by_cases : (b : Bool) → is_expired j v v.status ≡ b → (b || any_over j vs) ≡ true →
        all_to_end (map
        (retired w (not (in_force v) && in_force (judged_version w all_carriers j v)) j)
        (changed_at w j (judged_version w all_carriers j) vs)) ≤ all_to_end
        (changed_at w j (judged_version w all_carriers j) vs) →
        (any_over j vs ≡ true
        → suc (all_to_end (changed_at w j (judged_version w all_carriers j) vs))
        ≤ all_to_end vs) →
        suc (to_end (judged_version w all_carriers j v).status + all_to_end
        (map (retired w (not (in_force v) && in_force (judged_version w all_carriers j v)) j)
        (changed_at w j (judged_version w all_carriers j) vs))) ≤ to_end v.status + all_to_end vs
    by_cases true own some kept fewer = let less = judged_fewer w all_carriers j v own in
        let others =
        changed_at_most w all_carriers j vs in omega (arith, less, kept, others)
    by_cases false own some kept fewer = let same = judged_at_most w all_carriers j v in
        let others =
        fewer some in omega (arith, same, kept, others)

judge_fewer : (w : WindowSet) (j : ℕ) (r : Record) → any_over j r.versions ≡ true
    → suc (all_to_end (judge w j r).versions) ≤ all_to_end r.versions
unfolding judge
judge_fewer w j r over = changed_fewer w r.carriers j r.versions over

-- ---- of a subject's versions at most one has a timer, and two minutes are enough for it

-- A version that is neither open nor in force has no timer.
done_status : (s : Subject) (status : Status) → (is_block s ≡ true → block_status status ≡ true)
    → open_by s status ≡ false → in_force_status status ≡ false → to_end status ≡ 0
done_status (Number n) (Sending Create) block closed out = cc
done_status (Number n) _ block closed out = cc
done_status (Block b) (Sending Create) block closed out = cc
done_status (Block b) _ block closed out = let fits = block refl in cc

none_left : (s : Subject) (vs : List Version) → (is_block s ≡ true → HaveBlockStatus vs)
    → NoneOpen s vs → NoneInForce vs → all_to_end vs ≡ 0
none_left s [] block closed out = refl
none_left s (v ∷ vs) block closed out =
    let own = done_status s v.status (λ is. (block is).0) closed.0 out.0 in let others =
    none_left s vs (λ is. (block is).1) closed.1 out.1 in omega (arith, own, others)

active_left : (s : Subject) (vs : List Version) → (is_block s ≡ true → HaveBlockStatus vs)
    → NoneOpen s vs → InForceIsActive vs → all_to_end vs ≡ 0
active_left s [] block closed active = refl
active_left s (v ∷ vs) block closed active =
    let own = by_cases (in_force v) refl in let others =
    active_left s vs (λ is. (block is).1) closed.1 active.1 in omega (arith, own, others)
  where
    by_cases : (b : Bool) → in_force v ≡ b → to_end v.status ≡ 0
    by_cases true e = ap to_end (active.0 e)
    by_cases false e = done_status s v.status (λ is. (block is).0) closed.0 e

one_left : (s : Subject) (vs : List Version) → (is_block s ≡ true → HaveBlockStatus vs)
    → NoneOpen s vs → OneInForce vs → all_to_end vs ≤ 2
one_left s [] block closed one = omega arith
one_left s (v ∷ vs) block closed one =
    by_cases (in_force v) refl (one_left s vs (λ is. (block is).1) closed.1 one.1)
  where
    by_cases : (b : Bool) → in_force v ≡ b → all_to_end vs ≤ 2 → to_end v.status + all_to_end vs ≤ 2
    by_cases true e others_two = let own = two_at_most v.status in let others =
        none_left s vs (λ is. (block is).1) closed.1 (one.0 e) in omega (arith, own, others)
    by_cases false e others = let own = done_status s v.status (λ is. (block is).0) closed.0 e in
        omega (arith, own, others)

two_left : (s : Subject) (vs : List Version) → AreSound s vs → all_to_end vs ≤ 2
two_left s [] sound = omega arith
two_left s (v ∷ vs) sound = by_cases (is_open s v) refl (in_force v) refl
  where
    behind : is_block s ≡ true → HaveBlockStatus vs
    behind is = (sound.3 is).0.1

    by_cases : (b : Bool) → is_open s v ≡ b → (c : Bool) → in_force v ≡ c
        → to_end v.status + all_to_end vs ≤ 2
    by_cases true e c f = let own = two_at_most v.status in let others =
        active_left s vs behind sound.0 (sound.2 e) in omega (arith, own, others)
    by_cases false e true f = let own = two_at_most v.status in let others =
        none_left s vs behind sound.0 (sound.1.0 f) in omega (arith, own, others)
    by_cases false e false f = let own = done_status s v.status (λ is. (sound.3 is).0.0) e f in
        let others = one_left s vs behind sound.0 sound.1.1 in omega (arith, own, others)

-- ---- the minutes that change the record

-- Holds if each minute after a that has property P leaves the record as it is.
abbrev StaysWhere : WindowSet → ℕ → Record → (ℕ → Type 0) → Type 0
StaysWhere w a r P = (m : ℕ) → a ≤ m → P (suc m) → judge w (suc m) (judged w a m r) ≡ judged w a m r

stays-never : (w : WindowSet) (a : ℕ) (r : Record) → IsNever r.versions → (m : ℕ) → a ≤ m
    → judge w (suc m) (judged w a m r) ≡ judged w a m r
stays-never w a r never m after =
    let same : judged w a m r ≡ r = judged-quiet w a m r after (none_over m r.versions (never m)) in
    ap (judge w (suc m)) same
    ∙ judge-quiet w (suc m) r (none_over (suc m) r.versions (never (suc m))) ∙ sym same

-- The minutes before the first with an expired timer leave the record.
stays-before : (w : WindowSet) (a b : ℕ) (r : Record) → IsQuiet b r.versions → (m : ℕ) → a ≤ m
    → suc m ≤ b → judge w (suc m) (judged w a m r) ≡ judged w a m r
stays-before w a b r quiet m after before =
    let same : judged w a m r ≡ r =
    judged-quiet w a m r after (IsQuiet-before m b r.versions (omega (arith, before)) quiet) in
    ap (judge w (suc m)) same ∙ judge-quiet w (suc m) r (IsQuiet-before (suc m) b r.versions before
    quiet) ∙ sym same

-- Only the minute after b changes the record, and the minutes that change what it becomes.
stays-first : (w : WindowSet) (a b : ℕ) (r : Record) (P : ℕ → Type 0) → a ≤ b → IsQuiet b r.versions
    → StaysWhere w (suc b) (judge w (suc b) r) P →
    StaysWhere w a r (λ j. (j ≢ suc b) × P j)
stays-first w a b r P before quiet stays m after other = by_cases (sides m)
  where
    sides : (k : ℕ) → (suc k ≤ b) ⊎ ((k ≡ b) ⊎ (suc b ≤ k))
    sides k = grind arith

    by_cases : (suc m ≤ b) ⊎ ((m ≡ b) ⊎ (suc b ≤ m))
        → judge w (suc m) (judged w a m r) ≡ judged w a m r
    by_cases (inl before_limit) = stays-before w a b r quiet m after before_limit
    by_cases (inr (inl same)) = absurd (other.0 (ap suc same))
    by_cases (inr (inr late)) =
        let passed : judged w a m r ≡ judged w (suc b) m (judge w (suc b) r) =
        sym (judged-trans w a (suc b) m r (omega (arith, before)) late)
        ∙ ap (judged w (suc b) m) (judged-at_end w a b r before quiet) in
        ap (judge w (suc m)) passed ∙ stays m late other.1 ∙ sym passed

module _ (w : WindowSet) (windows : AreWindows w.windows) (s : Subject) where
  -- No minute changes a record with no status left to end.
  stays-done : (a : ℕ) (r : Record) → AreSound s r.versions → IsQuiet a r.versions
      → all_to_end r.versions ≤ 0 → (m : ℕ) → a ≤ m
      → judge w (suc m) (judged w a m r) ≡ judged w a m r
  stays-done a r sound still none = by_cases (first a r.versions still)
    where
      by_cases : IsNever r.versions ⊎ ((b : ℕ) × IsFirst a r.versions b) → (m : ℕ) → a ≤ m
          → judge w (suc m) (judged w a m r) ≡ judged w a m r
      by_cases (inl never) = stays-never w a r never
      by_cases (inr found) = let less = judge_fewer w (suc found.0) r found.1.over in
          absurd (omega (arith, less, none))

  -- At most one minute changes a record with one status left to end.
  stays-once : (a : ℕ) (r : Record) → AreSound s r.versions → IsQuiet a r.versions
      → all_to_end r.versions ≤ 1 → (e : ℕ) × StaysWhere w a r (λ j. j ≢ e)
  stays-once a r sound still one = by_cases (first a r.versions still)
    where
      by_cases : IsNever r.versions ⊎ ((b : ℕ) × IsFirst a r.versions b)
          → (e : ℕ) × StaysWhere w a r (λ j. j ≢ e)
      by_cases (inl never) = (0, λ m after other. stays-never w a r never m after)
      by_cases (inr found) =
          let less = judge_fewer w (suc found.0) r found.1.over in
          let rest = stays-done (suc found.0) (judge w (suc found.0) r)
          (judge-sound s w (suc found.0) r sound) (judge-is_quiet w windows (suc found.0) r)
          (omega (arith, less, one)) in (
            suc found.0,
            λ m after other. stays-first w a found.0 r (λ j. ⊤) found.1.later found.1.quiet
                (λ k late t. rest k late) m after (other, tt),
          )

  -- At most two minutes change a record with two.
  stays-twice : (a : ℕ) (r : Record) → AreSound s r.versions → IsQuiet a r.versions
      → all_to_end r.versions ≤ 2 → (d : ℕ) × (e : ℕ) × StaysWhere w a r (λ j. (j ≢ d) × (j ≢ e))
  stays-twice a r sound still two = by_cases (first a r.versions still)
    where
      by_cases : IsNever r.versions ⊎ ((b : ℕ) × IsFirst a r.versions b) → (d : ℕ) × (e : ℕ)
          × StaysWhere w a r (λ j. (j ≢ d) × (j ≢ e))
      by_cases (inl never) = (0, 0, λ m after others. stays-never w a r never m after)
      by_cases (inr found) =
          let less = judge_fewer w (suc found.0) r found.1.over in
          let rest = stays-once (suc found.0) (judge w (suc found.0) r)
          (judge-sound s w (suc found.0) r sound) (judge-is_quiet w windows (suc found.0) r)
          (omega (arith, less, two)) in (
            suc found.0,
            rest.0,
            stays-first w a found.0 r (λ j. j ≢ rest.0) found.1.later found.1.quiet rest.1,
          )

  -- A record with a timer that has expired already changes at the next minute.
  judged-next : (a : ℕ) (r : Record) → judged w a (suc a) r ≡ judge w (suc a) r
  unfolding judged_for
  judged-next a r =
      ap (λ k. judged_for w a k r) (let e : suc a - a ≡ 1 = omega arith in e)
      ∙ ap (λ k. judge w (suc k) r) (let e : a + 0 ≡ a = omega arith in e)

  stays-next : (a : ℕ) (r : Record) (P : ℕ → Type 0) → StaysWhere w (suc a) (judge w (suc a) r) P
      → StaysWhere w a r (λ j. (j ≢ suc a) × P j)
  stays-next a r P stays m after other = by_cases (sides m after)
    where
      sides : (k : ℕ) → a ≤ k → (k ≡ a) ⊎ (suc a ≤ k)
      sides k past = grind arith

      by_cases : (m ≡ a) ⊎ (suc a ≤ m) → judge w (suc m) (judged w a m r) ≡ judged w a m r
      by_cases (inl same) = absurd (other.0 (ap suc same))
      by_cases (inr late) =
          let passed : judged w a m r ≡ judged w (suc a) m (judge w (suc a) r) =
          sym (judged-trans w a (suc a) m r (omega arith) late)
          ∙ ap (judged w (suc a) m) (judged-next a r) in
          ap (judge w (suc m)) passed ∙ stays m late other.1 ∙ sym passed

  over-next : (a : ℕ) (r : Record) → any_over a r.versions ≡ true
      → any_over (suc a) r.versions ≡ true
  over-next a r over = by_cases (any_over (suc a) r.versions) refl
    where
      by_cases : (b : Bool) → any_over (suc a) r.versions ≡ b → any_over (suc a) r.versions ≡ true
      by_cases true e = e
      by_cases false e =
          true-false (any_over a r.versions) over
          (quiet_over a r.versions (IsQuiet-before a (suc a) r.versions (omega arith)
          (none_over (suc a) r.versions e)))

  -- At most two minutes change a sound record.
  pub stays-sound : (a : ℕ) (r : Record) → AreSound s r.versions → (d : ℕ) × (e : ℕ)
      × StaysWhere w a r (λ j. (j ≢ d) × (j ≢ e))
  stays-sound a r sound = by_cases (any_over a r.versions) refl
    where
      by_cases : (b : Bool) → any_over a r.versions ≡ b → (d : ℕ) × (e : ℕ)
          × StaysWhere w a r (λ j. (j ≢ d) × (j ≢ e))
      by_cases false e =
          stays-twice a r sound (none_over a r.versions e) (two_left s r.versions sound)
      by_cases true e =
          let less = judge_fewer w (suc a) r (over-next a r e) in
          let two = two_left s r.versions sound in
          let rest = stays-once (suc a) (judge w (suc a) r) (judge-sound s w (suc a) r sound)
          (judge-is_quiet w windows (suc a) r) (omega (arith, less, two)) in
          (suc a, rest.0, stays-next a r (λ j. j ≢ rest.0) rest.1)

pub two_firings : AtMostTwoFirings
two_firings st is s =
    let at_most =
    stays-sound (set_now st) (present-are st.windows st.history st.now is.windows is.history) s
    st.now (record_now st s) (replay-sound st.windows s st.history st.now is.history).0 in (
      at_most.0,
      at_most.1,
      λ m after first_other second_other. at_most.2 m after (first_other, second_other),
    )
