-- What a change of each version makes of the selected broadcasts, and what a minute does.
use Rattle.std.proofs.Common.{◌≡◌, ℕ, suc, ◌+◌, Bool, true, false, cond, not, ◌&&◌, ◌||◌, List, [], ◌∷◌, ◌++◌, map, Option, refl, ap, sym, ◌∙◌, subst, ◌⊎◌, inl, inr}
use Rattle.std.specs.Prelude.{⊤, filter, if◌then◌else◌}
use Rattle.std.specs.List.{list_any, AllByRecursion}
use Rattle.numbers.specs.Subjects.{Subject, Number, Block}
use Rattle.numbers.specs.Routings.{Routing}
use Rattle.model.specs.Statuses.{Send}
use Rattle.model.specs.Statuses.{Create, Delete}
use Rattle.model.specs.declared.words.Outcome.{Outcome}
use Rattle.model.specs.declared.words.Outcome.TheVariants.{Open, SomeAcknowledged, NoneAcknowledged}
use Rattle.model.specs.declared.words.Side.TheVariants.{OldProvider, NewProvider}
use Rattle.model.specs.Statuses.{Status, Pending, Conflict, CancelPending, Sending, Failed, DisconnectPending, Canceled, Old}
use Rattle.model.specs.Windows.{Windows, WindowSet}
use Rattle.model.specs.Versions.{Broadcast, Version, Record, is_among, is_withdrawn, is_withdrawn_outcome, in_force, in_force_status, is_open, open_by}
use Rattle.model.specs.Changes.{with_status, next_attempt, action_of, routing_sent, on_newest, outcome_at_end, changed_at, retired}
use Rattle.model.specs.Judge.{is_expired, version_on_expiry, judged_version, judge}
use Rattle.model.specs.History.{Entry, replay, present_set}
use Rattle.model.specs.Machine.{IsHistory}
use Rattle.model.specs.Sound.{NoneOpen, NoneInForce, InForceIsActive, AreSound}
use Rattle.numbers.proofs.Small.{true-false, or_first, or_second}
use Rattle.model.proofs.Lists.{each, each_two}
use Rattle.model.proofs.Begun.{HasBegun, HasBegunAs, begun_kept}
use Rattle.model.proofs.KeptVersions.{versions_kept}
use Rattle.model.proofs.Moves.{is_planned}
use Rattle.model.proofs.Entered.{sound_now}
use Rattle.model.proofs.Copies.{Look, Carrier, Nobody, Unsent, Closed, Placed, wants, is_marked, stands_for, place, own_of, own, placed}
use Rattle.model.proofs.Copies.Followed.{IsThinned, IsNext, thinned_same, thinned_is, thinned_append, thinned_none, next_thinned, next_append}
use Rattle.model.proofs.Copies.Told.{AllWithdrawn, IsToldAs, IsTold, told_kept}
use Rattle.model.proofs.Copies.Reaching.{Reaches, AllReach, reach_kept}
use Rattle.model.proofs.Copies.Served.{is_old, is_served, AreServed, are_served}

-- If a version is neither open nor ever in force, nothing of it was sent, or all is withdrawn.
unserved_all : (s : Subject) (status : Status) (routing : Option Routing) (bs : List Broadcast)
    → is_served status ≡ false → open_by s status ≡ false → IsToldAs status routing bs
    → AllWithdrawn bs
unserved_all s Pending routing bs out closed told = told
unserved_all s Conflict routing bs out closed told = told
unserved_all s (CancelPending by) routing bs out closed told = told
unserved_all s Failed routing bs out closed told = told
unserved_all s Canceled routing bs out closed told = told
unserved_all (Number n) (Sending Create) routing bs out closed told = cc
unserved_all (Block b) (Sending Create) routing bs out closed told = cc
unserved_all s _ routing bs out closed told = cc

none_any : (vs : List Version) → NoneInForce vs → list_any in_force vs ≡ false
none_any [] none = refl
none_any (v ∷ vs) none = ap (λ b. b || list_any in_force vs) none.0 ∙ none_any vs none.1

planned_in_force : (status : Status) → is_planned status ≡ true → in_force_status status ≡ true
planned_in_force (DisconnectPending release) e = refl
planned_in_force _ e = cc

-- Holds if the look's marks stay while a broadcast closes. If it looks at what was not sent to a
-- carrier, that carrier is registered.
abbrev pub Lasts : Look → List ℕ → Type 0
Lasts (Carrier c) all_carriers = ⊤
Lasts Nobody all_carriers = ⊤
Lasts (Unsent c) all_carriers = is_among c all_carriers ≡ true
Lasts Closed all_carriers = ⊥

close_same : (o : Look) (all_carriers : List ℕ) → Lasts o all_carriers
    → (b : Broadcast) (outcome : Outcome)
    → is_marked o (record b { outcome = outcome }) ≡ is_marked o b
close_same (Carrier c) all_carriers lasts b outcome = refl
close_same Nobody all_carriers lasts b outcome = refl
close_same (Unsent c) all_carriers lasts b outcome = refl
close_same Closed all_carriers lasts b outcome = absurd lasts

-- An open broadcast to every carrier that nobody acknowledged is not marked.
open_unmarked : (o : Look) (all_carriers : List ℕ) → Lasts o all_carriers → (b : Broadcast)
    → ((k : ℕ) → is_among k all_carriers ≡ true → is_among k b.recipients ≡ true)
    → b.acknowledged ≡ []
    → is_marked o b ≡ false
open_unmarked (Carrier c) all_carriers lasts b reaches nobody = ap (is_among c) nobody
open_unmarked Nobody all_carriers lasts b reaches nobody = refl
open_unmarked (Unsent c) all_carriers lasts b reaches nobody = ap not (reaches c lasts)
open_unmarked Closed all_carriers lasts b reaches nobody = absurd lasts

-- ---- one version

pub withdrawn_own : (o : Look) (id : ℕ) (bs : List Broadcast) → AllWithdrawn bs
    → own_of o id bs ≡ []
withdrawn_own o id [] all = refl
withdrawn_own o id (b ∷ bs) all =
    ap (λ t. map (place o id) (cond t (b ∷ filter (stands_for o) bs) (filter (stands_for o) bs)))
    (off (wants o b.recipients) (is_withdrawn b) all.0) ∙ withdrawn_own o id bs all.1
  where
    off : (x y : Bool) → y ≡ true → (x && not y) ≡ false
    off true true e = refl
    off false true e = refl
    off x false e = cc

module _ (w : WindowSet) (o : Look) (all_carriers : List ℕ) (lasts : Lasts o all_carriers) where
  -- A send adds one that nobody has acknowledged.
  pub sent_next : (action : Send) (minute : ℕ) (v : Version)
      → IsNext minute (own o v) (own o (next_attempt w action all_carriers minute v))
  sent_next action minute v = by_cases (wants o all_carriers)
    where
      new : Broadcast
      new = record {
        attempt = v.attempt + 1;
        minute = minute;
        action = action_of action;
        routing = routing_sent action v;
        recipients = all_carriers;
        acknowledged = [];
        outcome = Open;
      }

      by_cases : (b : Bool)
          → IsNext minute (own o v)
          (map (place o v.id) (cond (b && true) (new ∷ filter (stands_for o) v.broadcasts)
          (filter (stands_for o) v.broadcasts)))
      by_cases true = inr (
        open_unmarked o all_carriers lasts new (λ k is. is) refl,
        refl,
        thinned_same (own o v),
      )
      by_cases false = next_thinned minute (own o v) (own o v) (thinned_same (own o v))

  -- An open broadcast that closes with an acknowledgement stays as it was.
  closed_newest : (id : ℕ) (b : Broadcast) (rest : List Broadcast) (outcome : Outcome)
      → b.outcome ≡ Open → is_withdrawn_outcome outcome ≡ false →
      own_of o id (record b { outcome = outcome } ∷ rest) ≡ own_of o id (b ∷ rest)
  closed_newest id b rest outcome opened stands =
      ap (λ t. map (place o id) (cond (wants o b.recipients && not t) (record b {
        outcome =
            outcome;
      } ∷ filter (stands_for o) rest) (filter (stands_for o) rest))) (stands
      ∙ sym (ap is_withdrawn_outcome opened))
      ∙ by_cases (wants o b.recipients && not (is_withdrawn b))
    where
      by_cases : (t : Bool)
          → map (place o id) (cond t (record b { outcome = outcome } ∷ filter (stands_for o) rest)
          (filter (stands_for o) rest)) ≡ map (place o id) (cond t (b ∷ filter (stands_for o) rest)
          (filter (stands_for o) rest))
      by_cases true = ap (λ x. (let p : Placed = record {
        id = id;
        attempt = b.attempt;
        minute = b.minute;
        action = b.action;
        routing = b.routing;
        marked = x;
      } in p) ∷ own_of o id rest) (close_same o all_carriers lasts b outcome)
      by_cases false = refl

  pub closed_same : (id : ℕ) (action : Send) (bs : List Broadcast) (outcome : Outcome)
      → HasBegunAs (Sending action) bs → is_withdrawn_outcome outcome ≡ false →
      own_of o id (on_newest (λ b. record b { outcome = outcome }) bs) ≡ own_of o id bs
  closed_same id action bs outcome begun stands =
      ap (λ xs. own_of o id (on_newest (λ b. record b { outcome = outcome }) xs)) begun.2
      ∙ closed_newest id begun.0 begun.1 outcome begun.3 stands ∙ ap (own_of o id) (sym begun.2)

  -- One that closes with none is removed.
  none_thins : (id : ℕ) (b : Broadcast) (rest : List Broadcast) → b.outcome ≡ Open
      → Reaches all_carriers b → b.acknowledged ≡ []
      → IsThinned (own_of o id (b ∷ rest)) (own_of o id (record b {
        outcome =
            NoneAcknowledged;
      } ∷ rest))
  none_thins id b rest opened reaches nobody =
      by_cases (wants o b.recipients) (is_withdrawn b) (ap is_withdrawn_outcome opened)
    where
      taken : (ps : List Placed) → IsThinned (place o id b ∷ ps) ps
      taken [] = (open_unmarked o all_carriers lasts b (reaches opened) nobody, tt)
      taken (p ∷ ps) = inl (
        open_unmarked o all_carriers lasts b (reaches opened) nobody,
        thinned_same (p ∷ ps),
      )

      by_cases : (x y : Bool) → y ≡ false
          → IsThinned (map (place o id) (cond (x && not y) (b ∷ filter (stands_for o) rest)
          (filter (stands_for o) rest)))
          (map (place o id) (cond (x && not true) (record b {
            outcome =
                NoneAcknowledged;
          } ∷ filter (stands_for o) rest) (filter (stands_for o) rest)))
      by_cases true true e = cc
      by_cases true false e = taken (own_of o id rest)
      by_cases false y e = thinned_same (own_of o id rest)

  end_thins : (id : ℕ) (action : Send) (bs : List Broadcast) → HasBegunAs (Sending action) bs
      → AllReach all_carriers bs
      → IsThinned (own_of o id bs)
      (own_of o id (on_newest (λ b. record b { outcome = outcome_at_end bs }) bs))
  end_thins id action bs begun reach =
      subst (λ xs. IsThinned (own_of o id xs)
      (own_of o id (on_newest (λ b. record b { outcome = outcome_at_end xs }) xs))) (sym begun.2)
      (by_cases begun.0.acknowledged refl)
    where
      by_cases : (ks : List ℕ) → begun.0.acknowledged ≡ ks
          → IsThinned (own_of o id (begun.0 ∷ begun.1)) (own_of o id (record begun.0 {
            outcome = outcome_at_end (record begun.0 { acknowledged = ks } ∷ begun.1);
          } ∷ begun.1))
      by_cases [] e =
          none_thins id begun.0 begun.1 begun.3 (subst (AllReach all_carriers) begun.2 reach).0 e
      by_cases (k ∷ ks) e =
          thinned_is _ _ (closed_newest id begun.0 begun.1 SomeAcknowledged begun.3 refl)

  -- A minute sends only a disconnect-pending version.
  judged_sends : (minute : ℕ) (v : Version) → HasBegun v → AllReach all_carriers v.broadcasts →
      IsThinned (own o v) (own o (judged_version w all_carriers minute v))
      ⊎ (IsNext minute (own o v) (own o (judged_version w all_carriers minute v))
      × (is_planned v.status ≡ true))
  unfolding judged_version
  judged_sends minute v begun reach = by_cases (is_expired minute v v.status) v.status refl
    where
      by_cases : (b : Bool) (status : Status) → v.status ≡ status →
          IsThinned (own o v) (own o (if b then version_on_expiry w all_carriers minute v status
          else v))
          ⊎ (IsNext minute (own o v) (own o (if b
          then version_on_expiry w all_carriers minute v status else v))
          × (is_planned v.status ≡ true))
      by_cases false status e = inl (thinned_same (own o v))
      by_cases true Pending e = inl (thinned_same (own o v))
      by_cases true Conflict e = inl (thinned_same (own o v))
      by_cases true (CancelPending OldProvider) e = inl (thinned_same (own o v))
      by_cases true (CancelPending NewProvider) e = inl (thinned_same (own o v))
      by_cases true (DisconnectPending release) e = inr (sent_next Delete minute v, ap is_planned e)
      by_cases true (Sending action) e =
          inl (end_thins v.id action v.broadcasts (subst (λ x. HasBegunAs x v.broadcasts) e begun)
          reach)
      by_cases true _ e = inl (thinned_same (own o v))

module _ (w : WindowSet) (o : Look) where
  -- ---- the versions of a subject, each changed

  pub retired_placed : (b : Bool) (minute : ℕ) (vs : List Version)
      → placed o (map (retired w b minute) vs) ≡ placed o vs
  retired_placed b minute [] = refl
  retired_placed b minute (v ∷ vs) =
      ap (λ ps. ps ++ placed o (map (retired w b minute) vs)) (by_cases (b && in_force v))
      ∙ ap (λ ps. own o v ++ ps) (retired_placed b minute vs)
    where
      by_cases : (t : Bool) → own o (if t then with_status w Old minute v else v) ≡ own o v
      by_cases true = refl
      by_cases false = refl

  -- A change of each version changes its own broadcasts only.
  pub changed_placed : (minute : ℕ) (change : Version → Version) (vs : List Version)
      → placed o (changed_at w minute change vs) ≡ placed o (map change vs)
  changed_placed minute change [] = refl
  changed_placed minute change (v ∷ vs) =
      ap (λ ps. own o (change v) ++ ps) (retired_placed (not (in_force v) && in_force (change v))
      minute (changed_at w minute change vs) ∙ changed_placed minute change vs)

  module _ (minute : ℕ) (change : Version → Version) where
    abbrev pub Thins : Version → Type 0
    Thins v = IsThinned (own o v) (own o (change v))

    -- Holds if only a version that passes the test may be sent.
    abbrev pub SendsOnly : (Version → Bool) → Version → Type 0
    SendsOnly test v = Thins v ⊎ (IsNext minute (own o v) (own o (change v)) × (test v ≡ true))

    first_placed : (v : Version) (vs : List Version)
        → placed o (changed_at w minute change (v ∷ vs)) ≡ own o (change v) ++ placed o
        (changed_at w minute change vs)
    first_placed v vs =
        ap (λ ps. own o (change v) ++ ps) (retired_placed (not (in_force v) && in_force (change v))
        minute (changed_at w minute change vs))

    pub changed_thinned : (vs : List Version) → AllByRecursion Thins vs
        → IsThinned (placed o vs) (placed o (changed_at w minute change vs))
    changed_thinned [] thin = tt
    changed_thinned (v ∷ vs) thin = subst (IsThinned (placed o (v ∷ vs))) (sym (first_placed v vs))
        (thinned_append (own o v) (own o (change v)) (placed o vs)
        (placed o (changed_at w minute change vs)) thin.0 (changed_thinned vs thin.1))

    -- No version is sent.
    pub thins_next : (vs : List Version) → AllByRecursion Thins vs
        → IsNext minute (placed o vs) (placed o (changed_at w minute change vs))
    thins_next vs thin =
        next_thinned minute (placed o vs) (placed o (changed_at w minute change vs))
        (changed_thinned vs thin)

    -- Only the newest version may be sent.
    first_next : (v : Version) (vs : List Version) → IsNext minute (own o v) (own o (change v))
        → AllByRecursion Thins vs
        → IsNext minute (placed o (v ∷ vs)) (placed o (changed_at w minute change (v ∷ vs)))
    first_next v vs next thin = subst (IsNext minute (placed o (v ∷ vs))) (sym (first_placed v vs))
        (next_append minute (own o v) (own o (change v)) (placed o vs)
        (placed o (changed_at w minute change vs)) next (changed_thinned vs thin))

    any_next : (test : Version → Bool) (v : Version) → SendsOnly test v
        → IsNext minute (own o v) (own o (change v))
    any_next test v (inl thin) = next_thinned minute (own o v) (own o (change v)) thin
    any_next test v (inr sends) = sends.0

    -- If none passes the test, none is sent.
    none_sends : (test : Version → Bool) (vs : List Version) → AllByRecursion (SendsOnly test) vs
        → list_any test vs ≡ false → AllByRecursion Thins vs
    none_sends test [] sends none = tt
    none_sends test (v ∷ vs) sends none = (
      by_cases sends.0 (or_first (test v) (list_any test vs) none),
      none_sends test vs sends.1 (or_second (test v) (list_any test vs) none),
    )
      where
        by_cases : SendsOnly test v → test v ≡ false → Thins v
        by_cases (inl thin) e = thin
        by_cases (inr sent_one) e = true-false (test v) sent_one.1 e

    -- The version in force may be sent, and none is open: it has the newest broadcasts.
    pub force_next : (s : Subject) (vs : List Version) → AllByRecursion IsTold vs → AreServed vs
        → NoneOpen s vs → AllByRecursion (SendsOnly in_force) vs →
        IsNext minute (placed o vs) (placed o (changed_at w minute change vs))
    force_next s [] told served closed sends = tt
    force_next s (v ∷ vs) told served closed sends =
        by_cases (list_any in_force vs) refl (force_next s vs told.1 served.1 closed.1 sends.1)
      where
        out : list_any in_force vs ≡ true → (b : Bool) → is_served v.status ≡ b → b ≡ false
        out some true e = true-false (list_any in_force vs) some (none_any vs (served.0 e))
        out some false e = refl

        thin_out : is_served v.status ≡ false → SendsOnly in_force v → Thins v
        thin_out e (inl thin) = thin
        thin_out e (inr sent_one) =
            true-false (in_force v) sent_one.1 (or_first (in_force_status v.status)
            (is_old v.status) e)

        by_cases : (b : Bool) → list_any in_force vs ≡ b
            → IsNext minute (placed o vs) (placed o (changed_at w minute change vs))
            → IsNext minute (placed o (v ∷ vs)) (placed o (changed_at w minute change (v ∷ vs)))
        by_cases false e later =
            first_next v vs (any_next in_force v sends.0) (none_sends in_force vs sends.1 e)
        by_cases true e later =
            let unserved : is_served v.status ≡ false = out e (is_served v.status) refl in
            let none : own o v ≡ [] =
            withdrawn_own o v.id v.broadcasts (unserved_all s v.status v.routing v.broadcasts
            unserved closed.0 told.0) in
            let none_then : own o (change v) ≡ [] =
            thinned_none (own o v) (own o (change v)) none (thin_out unserved sends.0) in
            subst (IsNext minute (placed o (v ∷ vs))) (sym (first_placed v vs))
            (subst (λ ps. IsNext minute (ps ++ placed o vs)
            (own o (change v) ++ placed o (changed_at w minute change vs))) (sym none)
            (subst (λ ps. IsNext minute (placed o vs)
            (ps ++ placed o (changed_at w minute change vs))) (sym none_then) later))

    none_open : (s : Subject) (vs : List Version) → NoneOpen s vs → list_any (is_open s) vs ≡ false
    none_open s [] closed = refl
    none_open s (v ∷ vs) closed = ap (λ b. b || list_any (is_open s) vs) closed.0
        ∙ none_open s vs closed.1

    -- The open version may be sent: it is the newest.
    pub open_next : (s : Subject) (vs : List Version) → AreSound s vs
        → AllByRecursion (SendsOnly (is_open s)) vs
        → IsNext minute (placed o vs) (placed o (changed_at w minute change vs))
    open_next s [] sound sends = tt
    open_next s (v ∷ vs) sound sends =
        first_next v vs (any_next (is_open s) v sends.0) (none_sends (is_open s) vs sends.1
        (none_open s vs sound.0))

    active_rests : (vs : List Version) → InForceIsActive vs
        → AllByRecursion (SendsOnly (λ (v : Version). is_planned v.status)) vs
        → AllByRecursion Thins vs
    active_rests [] active sends = tt
    active_rests (v ∷ vs) active sends = (by_cases sends.0, active_rests vs active.1 sends.1)
      where
        by_cases : SendsOnly (λ (u : Version). is_planned u.status) v → Thins v
        by_cases (inl thin) = thin
        by_cases (inr sent_one) = let no : true ≡ false =
            sym sent_one.1 ∙ ap is_planned (active.0 (planned_in_force v.status sent_one.1)) in cc

    forces : (vs : List Version) → AllByRecursion (SendsOnly (λ (v : Version). is_planned v.status))
        vs → AllByRecursion (SendsOnly in_force) vs
    forces vs sends = each by_cases vs sends
      where
        by_cases : (v : Version) → SendsOnly (λ (u : Version). is_planned u.status) v
            → SendsOnly in_force v
        by_cases v (inl thin) = inl thin
        by_cases v (inr sent_one) = inr (sent_one.0, planned_in_force v.status sent_one.1)

    -- A disconnect-pending version may be sent: no open version is beside it.
    planned_next : (s : Subject) (vs : List Version) → AllByRecursion IsTold vs → AreServed vs
        → AreSound s vs → AllByRecursion (SendsOnly (λ (v : Version). is_planned v.status)) vs →
        IsNext minute (placed o vs) (placed o (changed_at w minute change vs))
    planned_next s [] told served sound sends = tt
    planned_next s (v ∷ vs) told served sound sends = by_cases (is_open s v) refl
      where
        by_cases : (b : Bool) → is_open s v ≡ b
            → IsNext minute (placed o (v ∷ vs)) (placed o (changed_at w minute change (v ∷ vs)))
        by_cases true e =
            first_next v vs (any_next (λ (u : Version). is_planned u.status) v sends.0)
            (active_rests vs (sound.2 e) sends.1)
        by_cases false e = force_next s (v ∷ vs) told served (e, sound.0) (forces (v ∷ vs) sends)

-- A minute makes a list that `IsNext` permits.
pub minute_next : (o : Look) (w : Windows) (s : Subject) (h : List Entry) (m : ℕ) → IsHistory w h m
    → Lasts o (replay w s h m).carriers →
    IsNext (suc m) (placed o (replay w s h m).versions)
    (placed o (judge (present_set w h) (suc m) (replay w s h m)).versions)
unfolding judge
minute_next o w s h m is lasts =
    let r : Record = replay w s h m in
    planned_next (present_set w h) o (suc m) (judged_version (present_set w h) r.carriers (suc m)) s
    r.versions (versions_kept told_kept w s h m is) (are_served w s h m is)
    (sound_now (record { windows = w; history = h; now = m }) is s)
    (each_two (λ v begun reach. judged_sends (present_set w h) o r.carriers lasts (suc m) v begun
    reach) r.versions (versions_kept begun_kept w s h m is) (versions_kept reach_kept w s h m is))
