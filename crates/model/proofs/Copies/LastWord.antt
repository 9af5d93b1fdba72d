-- In every record what is in force is what the latest closed broadcast says, and an open broadcast
-- is newer.
use Rattle.std.proofs.Common.{◌≡◌, ℕ, Bool, true, false, cond, not, ◌&&◌, ◌||◌, List, [], ◌∷◌, ◌++◌, map, Option, Some, None, refl, ap, sym, ◌∙◌, subst, ◌⊎◌, inl, inr}
use Rattle.std.specs.Prelude.{filter, find, option_and_then, if◌then◌else◌}
use Rattle.std.specs.List.{AllByRecursion}
use Rattle.numbers.specs.Subjects.{Subject, Number, Block}
use Rattle.numbers.specs.Routings.{Routing}
use Rattle.model.specs.Statuses.{Create, Delete, Modify}
use Rattle.model.specs.declared.words.Outcome.TheVariants.{Open}
use Rattle.model.specs.Statuses.{Status, Pending, Conflict, CancelPending, Sending, Active, PartialFailure, Failed, DisconnectPending, Old, Canceled}
use Rattle.model.specs.Windows.{Windows}
use Rattle.model.specs.Versions.{Broadcast, Version, in_force, in_force_status, is_open, open_by, is_withdrawn, is_withdrawn_outcome, is_open_outcome}
use Rattle.model.specs.History.{Entry, replay}
use Rattle.model.specs.State.{routing_in_force}
use Rattle.model.specs.Machine.{IsHistory}
use Rattle.model.specs.Sound.{NoneOpen, NoneInForce, AreSound}
use Rattle.model.proofs.Lists.{each}
use Rattle.model.proofs.Entered.{sound_now}
use Rattle.model.proofs.KeptVersions.{versions_kept}
use Rattle.model.proofs.Copies.{Closed, Placed, stands_for, place, own_of, placed, AllMarked, AreMarkedInOrder, held, all_append, each_own, each_placed}
use Rattle.model.proofs.Copies.Served.{is_old, is_served, AreServed, are_served}
use Rattle.model.proofs.Copies.Steps.{withdrawn_own}
use Rattle.model.proofs.Copies.Told.{AllWithdrawn, AllClosed, HeadIs, Says, Opens, IsTold, told_in, told_kept, withdrawn_closed}
use Rattle.model.proofs.Copies.Ended.{IsClosedWhereOld, LastSaysNone, HaveEnded, have_ended}

pub all_in_order : (ps : List Placed) → AllMarked ps → AreMarkedInOrder ps
all_in_order [] all = tt
all_in_order (p ∷ ps) all = (λ is. all.1, all_in_order ps all.1)

closed_marked : (id : ℕ) (bs : List Broadcast) → AllClosed bs → AllMarked (own_of Closed id bs)
closed_marked id bs closed =
    each_own Closed (λ p. p.marked ≡ true) id bs (each (λ b over stands. ap not over) bs closed)

pub all_marked : (vs : List Version) → AllByRecursion (λ (v : Version). AllClosed v.broadcasts) vs
    → AllMarked (placed Closed vs)
all_marked vs closed =
    each_placed Closed (λ p. p.marked ≡ true) vs
    (each (λ v all. each (λ b over stands. ap not over) v.broadcasts all) vs closed)

-- What a version says is held.
says_held : (id : ℕ) (routing : Option Routing) (bs : List Broadcast) (rest : List Placed)
    → Says routing bs → held None (own_of Closed id bs ++ rest) ≡ routing
says_held id routing [] rest says = absurd says.1
says_held id routing (b ∷ bs) rest says =
    by_cases (λ is. says_held id routing bs rest (says.0.1, is)) (is_withdrawn b) says.1
  where
    by_cases : (HeadIs routing bs → held None (own_of Closed id bs ++ rest) ≡ routing) → (x : Bool)
        → ((x ≡ true) × HeadIs routing bs) ⊎ ((x ≡ false) × (b.routing ≡ routing)) →
        held None (map (place Closed id) (cond (true && not x) (b ∷ filter (stands_for Closed) bs)
        (filter (stands_for Closed) bs)) ++ rest) ≡ routing
    by_cases later true (inl is) = later is.1
    by_cases later true (inr is) = cc
    by_cases later false (inl is) = cc
    by_cases later false (inr is) =
        ap (λ t. if not t then b.routing else held None (own_of Closed id bs ++ rest)) says.0.0
        ∙ is.1

-- An open broadcast is selected, and not marked.
open_own : (id : ℕ) (b : Broadcast) (bs : List Broadcast) → b.outcome ≡ Open
    → own_of Closed id (b ∷ bs) ≡ place Closed id b ∷ own_of Closed id bs
open_own id b bs opened =
    ap (λ x. map (place Closed id) (cond (true && not (is_withdrawn_outcome x))
    (b ∷ filter (stands_for Closed) bs) (filter (stands_for Closed) bs))) opened

open_unmarked : (id : ℕ) (b : Broadcast) → b.outcome ≡ Open → (place Closed id b).marked ≡ false
open_unmarked id b opened = ap (λ x. not (is_open_outcome x)) opened

-- Holds if the marked ones are the oldest, and the latest of them has this routing.
abbrev pub Say : Option Routing → List Placed → Type 0
Say routing ps = AreMarkedInOrder ps × (held None ps ≡ routing)

-- An unmarked one may come before.
unmarked_first : (routing : Option Routing) (p : Placed) (ps : List Placed) → p.marked ≡ false
    → Say routing ps → Say routing (p ∷ ps)
unmarked_first routing p ps open_one says = (
  (λ is. let no : true ≡ false = sym is ∙ open_one in cc, says.0),
  ap (λ b. if b then p.routing else held None ps) open_one ∙ says.1,
)

-- A version that says something may come before versions whose broadcasts are all closed.
says_first : (id : ℕ) (routing : Option Routing) (bs : List Broadcast) (rest : List Placed)
    → Says routing bs → AllMarked rest → Say routing (own_of Closed id bs ++ rest)
says_first id routing bs rest says all = (
  all_in_order (own_of Closed id bs ++ rest) (all_append (λ p. p.marked ≡ true)
      (own_of Closed id bs) rest (closed_marked id bs says.0) all),
  says_held id routing bs rest says,
)

abbrev routing_of_first : List Version → Option Routing
routing_of_first vs = option_and_then (λ (v : Version). v.routing) (find in_force vs)

out_of_force : (v : Version) (vs : List Version) → in_force v ≡ false
    → routing_of_first (v ∷ vs) ≡ routing_of_first vs
out_of_force v vs e =
    ap (λ b. option_and_then (λ (u : Version). u.routing) (cond b (Some v) (find in_force vs))) e

now_in_force : (v : Version) (vs : List Version) → in_force v ≡ true
    → routing_of_first (v ∷ vs) ≡ v.routing
now_in_force v vs e =
    ap (λ b. option_and_then (λ (u : Version). u.routing) (cond b (Some v) (find in_force vs))) e

none_routing : (vs : List Version) → NoneInForce vs → routing_of_first vs ≡ None
none_routing [] none = refl
none_routing (v ∷ vs) none = out_of_force v vs none.0 ∙ none_routing vs none.1

module _ (s : Subject) where
  -- A version that is neither in force nor open has no open broadcast.
  ended_closed : (v : Version) → in_force v ≡ false → is_open s v ≡ false → IsTold v
      → IsClosedWhereOld v → AllClosed v.broadcasts
  ended_closed v out closed told old = by_cases s v.status refl out closed
    where
      sends_none : (t : Subject) → v.status ≡ Sending Create → open_by t (Sending Create) ≡ false
          → AllClosed v.broadcasts
      sends_none (Number n) e f = cc
      sends_none (Block b) e f = cc

      by_cases : (t : Subject) (status : Status) → v.status ≡ status
          → in_force_status status ≡ false
          → open_by t status ≡ false → AllClosed v.broadcasts
      by_cases t Pending e f g = withdrawn_closed v.broadcasts (told_in v Pending e told)
      by_cases t Conflict e f g = withdrawn_closed v.broadcasts (told_in v Conflict e told)
      by_cases t (CancelPending by) e f g =
          withdrawn_closed v.broadcasts (told_in v (CancelPending by) e told)
      by_cases t Failed e f g = withdrawn_closed v.broadcasts (told_in v Failed e told)
      by_cases t Canceled e f g = withdrawn_closed v.broadcasts (told_in v Canceled e told)
      by_cases t Old e f g = old (ap is_old e)
      by_cases t (Sending Create) e f g = sends_none t e g
      by_cases t (Sending Delete) e f g = cc
      by_cases t (Sending (Modify routing)) e f g = cc
      by_cases t Active e f g = cc
      by_cases t PartialFailure e f g = cc
      by_cases t (DisconnectPending release) e f g = cc

  behind_closed : (vs : List Version) → NoneInForce vs → NoneOpen s vs → AllByRecursion IsTold vs
      → AllByRecursion IsClosedWhereOld vs
      → AllByRecursion (λ (v : Version). AllClosed v.broadcasts) vs
  behind_closed [] out closed told old = tt
  behind_closed (v ∷ vs) out closed told old = (
    ended_closed v out.0 closed.0 told.0 old.0,
    behind_closed vs out.1 closed.1 told.1 old.1,
  )

  -- If none of the versions is open.
  closed_say : (vs : List Version) → NoneOpen s vs → AreServed vs → AllByRecursion IsTold vs
      → AllByRecursion IsClosedWhereOld vs → LastSaysNone vs
      → Say (routing_of_first vs) (placed Closed vs)
  closed_say [] closed served told old last = (tt, refl)
  closed_say (v ∷ vs) closed served told old last =
      by_cases (λ out. closed_say vs closed.1 served.1 told.1 old.1 (last.1 out)) s v.status refl
      closed.0
    where
      rest_marked : is_served v.status ≡ true → AllMarked (placed Closed vs)
      rest_marked is = all_marked vs (behind_closed vs (served.0 is) closed.1 told.1 old.1)

      forced : in_force v ≡ true → Say v.routing (placed Closed (v ∷ vs))
          → Say (routing_of_first (v ∷ vs)) (placed Closed (v ∷ vs))
      forced e says = subst (λ r. Say r (placed Closed (v ∷ vs))) (sym (now_in_force v vs e)) says

      saying : (status : Status) → v.status ≡ status → in_force_status status ≡ true
          → Says v.routing v.broadcasts → Say (routing_of_first (v ∷ vs)) (placed Closed (v ∷ vs))
      saying status e f says =
          forced (ap in_force_status e ∙ f) (says_first v.id v.routing v.broadcasts
          (placed Closed vs) says (rest_marked (ap (λ t. t || is_old v.status) (ap in_force_status e
          ∙ f))))

      sending : (put : Option Routing) (bs : List Broadcast) → v.broadcasts ≡ bs → in_force v ≡ true
          → Opens put (Says v.routing) bs
          → Say v.routing (own_of Closed v.id bs ++ placed Closed vs)
      sending put [] e f opens = absurd opens
      sending put (b ∷ bs) e f opens =
          subst (λ ps. Say v.routing (ps ++ placed Closed vs)) (sym (open_own v.id b bs opens.0))
          (unmarked_first v.routing (place Closed v.id b) (own_of Closed v.id bs ++ placed Closed
          vs) (open_unmarked v.id b opens.0) (says_first v.id v.routing bs (placed Closed vs)
          opens.2 (rest_marked (ap (λ t. t || is_old v.status) f))))

      -- All broadcasts of the newest version are withdrawn.
      passing : (is_served v.status ≡ false → Say (routing_of_first vs) (placed Closed vs))
          → (status : Status) → v.status ≡ status → is_served status ≡ false
          → in_force_status status ≡ false → AllWithdrawn v.broadcasts
          → Say (routing_of_first (v ∷ vs)) (placed Closed (v ∷ vs))
      passing later status e f g all =
          subst (λ r. Say r (placed Closed (v ∷ vs)))
          (sym (out_of_force v vs (ap in_force_status e ∙ g)))
          (subst (λ ps. Say (routing_of_first vs) (ps ++ placed Closed vs))
          (sym (withdrawn_own Closed v.id v.broadcasts all)) (later (ap is_served e ∙ f)))

      none_sent : (t : Subject) → open_by t (Sending Create) ≡ false
          → Say (routing_of_first (v ∷ vs)) (placed Closed (v ∷ vs))
      none_sent (Number n) e = cc
      none_sent (Block b) e = cc

      by_cases : (is_served v.status ≡ false → Say (routing_of_first vs) (placed Closed vs))
          → (t : Subject) (status : Status) → v.status ≡ status → open_by t v.status ≡ false
          → Say (routing_of_first (v ∷ vs)) (placed Closed (v ∷ vs))
      by_cases later t Pending e f = passing later Pending e refl refl (told_in v Pending e told.0)
      by_cases later t Conflict e f =
          passing later Conflict e refl refl (told_in v Conflict e told.0)
      by_cases later t (CancelPending by) e f =
          passing later (CancelPending by) e refl refl (told_in v (CancelPending by) e told.0)
      by_cases later t Failed e f = passing later Failed e refl refl (told_in v Failed e told.0)
      by_cases later t Canceled e f =
          passing later Canceled e refl refl (told_in v Canceled e told.0)
      by_cases later t (Sending Create) e f = none_sent t (sym (ap (open_by t) e) ∙ f)
      by_cases later t (Sending Delete) e f =
          forced (ap in_force_status e) (sending None v.broadcasts refl (ap in_force_status e)
          (told_in v (Sending Delete) e told.0))
      by_cases later t (Sending (Modify routing)) e f =
          forced (ap in_force_status e) (sending (Some routing) v.broadcasts refl
          (ap in_force_status e) (told_in v (Sending (Modify routing)) e told.0))
      by_cases later t Active e f = saying Active e refl (told_in v Active e told.0)
      by_cases later t PartialFailure e f =
          saying PartialFailure e refl (told_in v PartialFailure e told.0)
      by_cases later t (DisconnectPending release) e f =
          saying (DisconnectPending release) e refl (told_in v (DisconnectPending release) e told.0)
      by_cases later t Old e f =
          subst (λ r. Say r (placed Closed (v ∷ vs))) (sym (out_of_force v vs (ap in_force_status e)
          ∙ none_routing vs (served.0 (ap is_served e))))
          (says_first v.id None v.broadcasts (placed Closed vs) (last.0 (ap is_old e))
          (rest_marked (ap is_served e)))

  -- The newest version may be open.
  all_say : (vs : List Version) → AreSound s vs → AreServed vs → AllByRecursion IsTold vs
      → HaveEnded vs → Say (routing_of_first vs) (placed Closed vs)
  all_say [] sound served told ended = (tt, refl)
  all_say (v ∷ vs) sound served told ended = by (is_open s v) refl
    where
      behind : is_served v.status ≡ false → Say (routing_of_first vs) (placed Closed vs)
      behind out = closed_say vs sound.0 served.1 told.1 ended.0.1 (ended.1.1 out)

      passing : (status : Status) → v.status ≡ status → is_served status ≡ false
          → in_force_status status ≡ false → AllWithdrawn v.broadcasts
          → Say (routing_of_first (v ∷ vs)) (placed Closed (v ∷ vs))
      passing status e f g all =
          subst (λ r. Say r (placed Closed (v ∷ vs)))
          (sym (out_of_force v vs (ap in_force_status e ∙ g)))
          (subst (λ ps. Say (routing_of_first vs) (ps ++ placed Closed vs))
          (sym (withdrawn_own Closed v.id v.broadcasts all)) (behind (ap is_served e ∙ f)))

      sending : (bs : List Broadcast) → is_served v.status ≡ false → Opens v.routing AllWithdrawn bs
          → Say (routing_of_first vs) (own_of Closed v.id bs ++ placed Closed vs)
      sending [] out opens = absurd opens
      sending (b ∷ bs) out opens =
          subst (λ ps. Say (routing_of_first vs) (ps ++ placed Closed vs))
          (sym (open_own v.id b bs opens.0 ∙ ap (λ ps. place Closed v.id b ∷ ps)
          (withdrawn_own Closed v.id bs opens.2)))
          (unmarked_first (routing_of_first vs) (place Closed v.id b) (placed Closed vs)
          (open_unmarked v.id b opens.0) (behind out))

      opened : (t : Subject) (status : Status) → v.status ≡ status → open_by t status ≡ true
          → Say (routing_of_first (v ∷ vs)) (placed Closed (v ∷ vs))
      opened (Number n) Pending e f = passing Pending e refl refl (told_in v Pending e told.0)
      opened (Number n) Conflict e f = passing Conflict e refl refl (told_in v Conflict e told.0)
      opened (Number n) (CancelPending by) e f =
          passing (CancelPending by) e refl refl (told_in v (CancelPending by) e told.0)
      opened (Number n) Failed e f = passing Failed e refl refl (told_in v Failed e told.0)
      opened t (Sending Create) e f =
          subst (λ r. Say r (placed Closed (v ∷ vs)))
          (sym (out_of_force v vs (ap in_force_status e))) (sending v.broadcasts (ap is_served e)
          (told_in v (Sending Create) e told.0))
      opened (Number n) _ e f = cc
      opened (Block b) _ e f = cc

      by : (b : Bool) → is_open s v ≡ b → Say (routing_of_first (v ∷ vs)) (placed Closed (v ∷ vs))
      by true e = opened s v.status refl e
      by false e = closed_say (v ∷ vs) (e, sound.0) served told ended.0 ended.1

-- This holds in every record.
pub force_says : (w : Windows) (s : Subject) (h : List Entry) (m : ℕ) → IsHistory w h m
    → Say (routing_in_force (replay w s h m)) (placed Closed (replay w s h m).versions)
force_says w s h m is =
    all_say s (replay w s h m).versions (sound_now (record { windows = w; history = h; now = m }) is
    s) (are_served w s h m is) (versions_kept told_kept w s h m is) (have_ended w s h m is)
