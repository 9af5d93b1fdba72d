-- The order of a subject's selected broadcasts: from the newest on ids descend, then attempts, and
-- minutes as well.
use Rattle.std.proofs.Common.{◌≡◌, ℕ, suc, ◌≤◌, ◌<◌, Bool, true, false, cond, not, ◌&&◌, ◌||◌, List, [], ◌∷◌, ◌++◌, map, Option, Some, None, refl, sym, ◌∙◌, subst, arith, ◌⊎◌, inl, inr}
use Rattle.std.specs.Prelude.{⊤, ◌==◌, nat_lt, filter}
use Rattle.std.specs.List.{AllByRecursion}
use Rattle.std.proofs.lemmas.Bool.Decides.{nat_tests}
use Rattle.numbers.specs.Subjects.{Subject}
use Rattle.model.specs.Windows.{Windows, WindowSet}
use Rattle.model.specs.Versions.{Broadcast, Version, in_force, is_among, is_withdrawn}
use Rattle.model.specs.Changes.{changed_at, retired}
use Rattle.model.specs.Judge.{judge, judged_version}
use Rattle.model.specs.History.{Entry, effect, replay, subjects_made_by, subjects_made, made_version, with_made, version_after_request, next_after, id_among, donor_of, assigned_block, subject_of_id, present_set}
use Rattle.model.specs.State.{is_before}
use Rattle.model.specs.Machine.{IsHistory}
use Rattle.model.proofs.Lists.{each, each_two}
use Rattle.model.proofs.Ids.{AreGiven, not_given, id_among-from, retired-id}
use Rattle.model.proofs.Sound.{judged_version-id, version_after_request-id, made_version-id}
use Rattle.model.proofs.Entered.{given_now}
use Rattle.model.proofs.Tended.{AreBelow, AreApart, IsTended, tended_kept}
use Rattle.model.proofs.Kept.{record_after, kept}
use Rattle.model.proofs.KeptVersions.{versions_kept}
use Rattle.model.proofs.Copies.{Look, Carrier, Nobody, Placed, stands_for, place, own_of, own, placed, download_of, AreInOrder, all_append, each_own, each_placed}
use Rattle.model.proofs.Copies.Followed.{IsThinned, IsNext, thinned_each}
use Rattle.model.proofs.Copies.Dated.{dated_kept}
use Rattle.numbers.proofs.Small.{number_equal, is_less}

-- ---- the ids of a record

abbrev pub AllBelow : ℕ → List Version → Type 0
AllBelow id vs = AllByRecursion (λ (v : Version). v.id < id) vs

-- Holds if each version has an id above those of the older ones.
abbrev pub AreFalling : List Version → Type 0
AreFalling [] = ⊤
AreFalling (v ∷ vs) = AllBelow v.id vs × AreFalling vs

module _ (f : Version → Version) (same : (v : Version) → (f v).id ≡ v.id) where
  below_each : (id : ℕ) (vs : List Version) → AllBelow id vs → AllBelow id (map f vs)
  below_each id [] below = tt
  below_each id (v ∷ vs) below =
      (subst (λ k. k < id) (sym (same v)) below.0, below_each id vs below.1)

  falling_each : (vs : List Version) → AreFalling vs → AreFalling (map f vs)
  falling_each [] are = tt
  falling_each (v ∷ vs) are = (
    subst (λ k. AllBelow k (map f vs)) (sym (same v)) (below_each v.id vs are.0),
    falling_each vs are.1,
  )

module _ (w : WindowSet) (minute : ℕ) (change : Version → Version) (same : (v : Version)
    → (change v).id ≡ v.id) where
  below_changed : (id : ℕ) (vs : List Version) → AllBelow id vs
      → AllBelow id (changed_at w minute change vs)
  below_changed id [] below = tt
  below_changed id (v ∷ vs) below = (
    subst (λ k. k < id) (sym (same v)) below.0,
    below_each (retired w (not (in_force v) && in_force (change v)) minute)
        (retired-id w (not (in_force v) && in_force (change v)) minute) id
        (changed_at w minute change vs) (below_changed id vs below.1),
  )

  falling_changed : (vs : List Version) → AreFalling vs → AreFalling (changed_at w minute change vs)
  falling_changed [] are = tt
  falling_changed (v ∷ vs) are =
      let f : Version → Version = retired w (not (in_force v) && in_force (change v)) minute in
      let keeps : (u : Version) → (f u).id ≡ u.id =
      retired-id w (not (in_force v) && in_force (change v)) minute in (
        subst (λ k. AllBelow k (map f (changed_at w minute change vs))) (sym (same v))
            (below_each f keeps v.id (changed_at w minute change vs) (below_changed v.id vs are.0)),
        falling_each f keeps (changed_at w minute change vs) (falling_changed vs are.1),
      )

-- An id that was given is below the next.
given_below : (made : List Subject) (s : Subject) (id : ℕ) → next_after made ≤ id
    → (vs : List Version) → AreGiven made s vs → AllBelow id vs
given_below made s id past [] given = tt
given_below made s id past (v ∷ vs) given =
    (by_cases (nat_lt v.id id) refl, given_below made s id past vs given.2)
  where
    by_cases : (b : Bool) → nat_lt v.id id ≡ b → v.id < id
    by_cases true e = grind (arith, nat_tests)
    by_cases false e =
        let over : id ≤ v.id = grind (arith, nat_tests) in
        let none : subject_of_id v.id 1 made ≡ None = not_given v.id 1 made (omega arith) in
        let both : None ≡ Some s = sym none ∙ given.0 in cc

module _ (w : Windows) (s : Subject) where
  falling_minute : (h : List Entry) (m : ℕ) → IsHistory w h m → AreFalling (replay w s h m).versions
      → AreFalling (judge (present_set w h) (suc m) (replay w s h m)).versions
  unfolding judge
  falling_minute h m is are =
      falling_changed (present_set w h) (suc m) (judged_version (present_set w h)
      (replay w s h m).carriers (suc m)) (judged_version-id (present_set w h)
      (replay w s h m).carriers (suc m)) (replay w s h m).versions are

  falling_entry : (h : List Entry) (e : Entry) → IsHistory w (e ∷ h) e.minute
      → AreFalling (replay w s h e.minute).versions → AreFalling (record_after w s h e).versions
  unfolding effect
  falling_entry h e is are =
      by_cases (id_among s (next_after (subjects_made w h))
      (subjects_made_by e.request (λ t. replay w t h e.minute))) refl
    where
      change : Version → Version
      change = version_after_request (present_set w h) s e.caller e.minute
          (replay w s h e.minute).carriers
          e.request

      same : (v : Version)
          → (version_after_request (present_set w h) s e.caller e.minute
          (replay w s h e.minute).carriers
          e.request v).id ≡ v.id
      same = version_after_request-id (present_set w h) s e.caller e.minute
          (replay w s h e.minute).carriers
          e.request

      by_cases : (o : Option ℕ)
          → id_among s (next_after (subjects_made w h))
          (subjects_made_by e.request (λ t. replay w t h e.minute)) ≡ o
          →
          AreFalling (with_made o (λ id. made_version (present_set w h) id e.caller e.minute
          (replay w s h e.minute).carriers (donor_of (assigned_block e.request) h) e.request)
          (changed_at (present_set w h) e.minute change (replay w s h e.minute).versions))
      by_cases None f =
          falling_changed (present_set w h) e.minute change same (replay w s h e.minute).versions
          are
      by_cases (Some id) f = (
        subst (λ k. AllBelow k (changed_at (present_set w h) e.minute change
            (replay w s h e.minute).versions))
            (sym (made_version-id (present_set w h) id e.caller e.minute
            (replay w s h e.minute).carriers (donor_of (assigned_block e.request) h) e.request))
            (below_changed (present_set w h) e.minute change same id
            (replay w s h e.minute).versions
            (given_below (subjects_made w h) s id (id_among-from s (next_after (subjects_made w h))
            id
            (subjects_made_by e.request (λ t. replay w t h e.minute)) f)
            (replay w s h e.minute).versions
            (given_now (record { windows = w; history = h; now = e.minute }) is.3 s))),
        falling_changed (present_set w h) e.minute change same (replay w s h e.minute).versions are,
      )

  -- Every record of every history.
  are_falling : (h : List Entry) (m : ℕ) → IsHistory w h m → AreFalling (replay w s h m).versions
  are_falling = kept w s (λ h m r. AreFalling r.versions) (record {
    first = λ m. tt;
    minute = falling_minute;
    entry = falling_entry;
  })

-- ---- ids and attempts of the selected broadcasts

abbrev pub IsLower : Placed → Placed → Type 0
IsLower p q = (q.id < p.id) ⊎ ((q.id ≡ p.id) × (q.attempt < p.attempt))

abbrev pub AreLower : List Placed → Type 0
AreLower [] = ⊤
AreLower (p ∷ ps) = AllByRecursion (IsLower p) ps × AreLower ps

module _ (o : Look) where
  -- Those of an older version are lower.
  lower_versions : (p : Placed) (vs : List Version) → AllBelow p.id vs
      → AllByRecursion (IsLower p) (placed o vs)
  lower_versions p vs below =
      each_placed o (IsLower p) vs (each (λ v under. all_carriers v under v.broadcasts) vs below)
    where
      all_carriers : (v : Version) → v.id < p.id → (bs : List Broadcast)
          → AllByRecursion (λ b. stands_for o b ≡ true → IsLower p (place o v.id b)) bs
      all_carriers v under [] = tt
      all_carriers v under (b ∷ bs) = (λ stands. inl under, all_carriers v under bs)

  -- The older ones of the same version are lower.
  lower_same : (id : ℕ) (b : Broadcast) (bs : List Broadcast) → AreBelow b.attempt bs
      → AllByRecursion (λ x. stands_for o x ≡ true → IsLower (place o id b) (place o id x)) bs
  lower_same id b [] below = tt
  lower_same id b (x ∷ xs) below = (λ stands. inr (refl, below.0), lower_same id b xs below.1)

  lower_own : (id : ℕ) (bs : List Broadcast) (vs : List Version) → AreApart bs → AllBelow id vs
      → AreLower (placed o vs) → AreLower (own_of o id bs ++ placed o vs)
  lower_own id [] vs apart below rest = rest
  lower_own id (b ∷ bs) vs apart below rest =
      by_cases (stands_for o b) (lower_own id bs vs apart.1 below rest)
    where
      by_cases : (t : Bool) → AreLower (own_of o id bs ++ placed o vs)
          → AreLower (map (place o id) (cond t (b ∷ filter (stands_for o) bs)
          (filter (stands_for o) bs)) ++ placed o vs)
      by_cases true later = (
        all_append (IsLower (place o id b)) (own_of o id bs) (placed o vs)
            (each_own o (IsLower (place o id b)) id bs (lower_same id b bs apart.0))
            (lower_versions (place o id b) vs below),
        later,
      )
      by_cases false later = later

  are_lower : (all_carriers : List ℕ) (vs : List Version) → AreFalling vs
      → AllByRecursion (IsTended all_carriers) vs → AreLower (placed o vs)
  are_lower all_carriers [] falling tended = tt
  are_lower all_carriers (v ∷ vs) falling tended =
      lower_own v.id v.broadcasts vs tended.0.apart falling.0 (are_lower all_carriers vs falling.1
      tended.1)

  -- This holds in every record.
  pub placed_lower : (w : Windows) (h : List Entry) (m : ℕ) → IsHistory w h m → (s : Subject)
      → AreLower (placed o (replay w s h m).versions)
  placed_lower w h m is s =
      are_lower (replay w s h m).carriers (replay w s h m).versions (are_falling w s h m is)
      (versions_kept tended_kept w s h m is)

-- ---- minutes

abbrev pub AllUpTo : ℕ → List Placed → Type 0
AllUpTo m ps = AllByRecursion (λ (p : Placed). p.minute ≤ m) ps

-- Holds if no minute is above one of a newer broadcast.
abbrev pub MinutesFall : List Placed → Type 0
MinutesFall [] = ⊤
MinutesFall (p ∷ ps) = AllUpTo p.minute ps × MinutesFall ps

thinned_fall : (ps qs : List Placed) → IsThinned ps qs → MinutesFall ps → MinutesFall qs
thinned_fall ps [] thin fall = tt
thinned_fall [] (q ∷ qs) thin fall = absurd thin
thinned_fall (p ∷ ps) (q ∷ qs) (inl thin) fall = thinned_fall ps (q ∷ qs) thin.1 fall.1
thinned_fall (p ∷ ps) (q ∷ qs) (inr thin) fall = (
  subst (λ (x : Placed). AllUpTo x.minute qs) (sym thin.0) (thinned_each (λ x. x.minute ≤ p.minute)
      ps qs thin.1 fall.0),
  thinned_fall ps qs thin.1 fall.1,
)

-- A broadcast that is added is the latest.
pub next_fall : (m : ℕ) (ps qs : List Placed) → IsNext m ps qs → AllUpTo m ps → MinutesFall ps
    → MinutesFall qs
next_fall m ps [] next up fall = tt
next_fall m ps (q ∷ qs) (inl thin) up fall = thinned_fall ps (q ∷ qs) thin fall
next_fall m ps (q ∷ qs) (inr new) up fall = (
  subst (λ k. AllUpTo k qs) (sym new.1) (thinned_each (λ x. x.minute ≤ m) ps qs new.2 up),
  thinned_fall ps qs new.2 fall,
)

-- The selected broadcasts were sent up to now.
pub placed_up : (o : Look) (w : Windows) (s : Subject) (h : List Entry) (now m : ℕ)
    → IsHistory w h now → now ≤ m → AllUpTo m (placed o (replay w s h now).versions)
placed_up o w s h now m is up = each_placed o (λ p. p.minute ≤ m) (replay w s h now).versions
    (each (λ v all. each (λ b by stands. let before : b.minute ≤ now = by in
    omega arith) v.broadcasts all) (replay w s h now).versions (versions_kept dated_kept w s h now
    is))

-- ---- of the broadcasts selected for anybody, those selected for one carrier

-- Holds if the second list is the first without some members.
abbrev IsWithin : List Placed → List Placed → Type 0
IsWithin ps [] = ⊤
IsWithin [] (q ∷ qs) = ⊥
IsWithin (p ∷ ps) (q ∷ qs) = ((q.minute ≡ p.minute) × IsWithin ps qs) ⊎ IsWithin ps (q ∷ qs)

up_within : (m : ℕ) (ps qs : List Placed) → IsWithin ps qs → AllUpTo m ps → AllUpTo m qs
up_within m ps [] within all = tt
up_within m [] (q ∷ qs) within all = absurd within
up_within m (p ∷ ps) (q ∷ qs) (inl within) all = (
  subst (λ k. k ≤ m) (sym within.0) all.0,
  up_within m ps qs within.1 all.1,
)
up_within m (p ∷ ps) (q ∷ qs) (inr within) all = up_within m ps (q ∷ qs) within all.1

fall_within : (ps qs : List Placed) → IsWithin ps qs → MinutesFall ps → MinutesFall qs
fall_within ps [] within fall = tt
fall_within [] (q ∷ qs) within fall = absurd within
fall_within (p ∷ ps) (q ∷ qs) (inl within) fall = (
  subst (λ k. AllUpTo k qs) (sym within.0) (up_within p.minute ps qs within.1 fall.0),
  fall_within ps qs within.1 fall.1,
)
fall_within (p ∷ ps) (q ∷ qs) (inr within) fall = fall_within ps (q ∷ qs) within fall.1

within_append : (ps qs xs ys : List Placed) → IsWithin ps qs → IsWithin xs ys
    → IsWithin (ps ++ xs) (qs ++ ys)
within_append [] [] xs ys one two = two
within_append (p ∷ ps) [] xs [] one two = tt
within_append (p ∷ ps) [] xs (y ∷ ys) one two = inr (within_append ps [] xs (y ∷ ys) tt two)
within_append [] (q ∷ qs) xs ys one two = absurd one
within_append (p ∷ ps) (q ∷ qs) xs ys (inl one) two =
    inl (one.0, within_append ps qs xs ys one.1 two)
within_append (p ∷ ps) (q ∷ qs) xs ys (inr one) two = inr (within_append ps (q ∷ qs) xs ys one two)

own_within : (c id : ℕ) (bs : List Broadcast)
    → IsWithin (own_of Nobody id bs) (own_of (Carrier c) id bs)
own_within c id [] = tt
own_within c id (b ∷ bs) = by_cases (is_among c b.recipients) (is_withdrawn b) (own_within c id bs)
  where
    more : (p : Placed) (ps qs : List Placed) → IsWithin ps qs → IsWithin (p ∷ ps) qs
    more p ps [] within = tt
    more p ps (q ∷ qs) within = inr within

    by_cases : (x y : Bool) → IsWithin (own_of Nobody id bs) (own_of (Carrier c) id bs) →
        IsWithin (map (place Nobody id) (cond (true && not y) (b ∷ filter (stands_for Nobody) bs)
        (filter (stands_for Nobody) bs)))
        (map (place (Carrier c) id) (cond (x && not y) (b ∷ filter (stands_for (Carrier c)) bs)
        (filter (stands_for (Carrier c)) bs)))
    by_cases true false within = inl (refl, within)
    by_cases true true within = within
    by_cases false false within =
        more (place Nobody id b) (own_of Nobody id bs) (own_of (Carrier c) id bs) within
    by_cases false true within = within

placed_within : (c : ℕ) (vs : List Version) → IsWithin (placed Nobody vs) (placed (Carrier c) vs)
placed_within c [] = tt
placed_within c (v ∷ vs) = within_append (own Nobody v) (own (Carrier c) v) (placed Nobody vs)
    (placed (Carrier c) vs) (own_within c v.id v.broadcasts) (placed_within c vs)

pub fall_for : (c : ℕ) (vs : List Version) → MinutesFall (placed Nobody vs)
    → MinutesFall (placed (Carrier c) vs)
fall_for c vs fall = fall_within (placed Nobody vs) (placed (Carrier c) vs) (placed_within c vs)
    fall

-- ---- the order of downloads

before_is : (s : Subject) (p q : Placed) → q.minute ≤ p.minute → IsLower p q
    → is_before (download_of s q) (download_of s p) ≡ true
before_is s p q up lower = by_cases (nat_lt q.minute p.minute) refl lower
  where
    tail : (nat_lt q.minute p.minute) ≡ false → (q.minute == p.minute) ≡ true
    tail e = grind (arith, nat_tests)

    second : (x y z : Bool) → y ≡ true → z ≡ true → (x || (y && z)) ≡ true
    second true y z e f = refl
    second false true z e f = f
    second false false z e f = cc

    first : (x y : Bool) → x ≡ true → (x || y) ≡ true
    first true y e = refl
    first false y e = cc

    by_cases : (b : Bool) → nat_lt q.minute p.minute ≡ b → IsLower p q →
        (nat_lt q.minute p.minute
        || ((q.minute == p.minute)
        && (nat_lt q.id p.id || ((q.id == p.id) && nat_lt q.attempt p.attempt)))) ≡ true
    by_cases true e is = first (nat_lt q.minute p.minute) _ e
    by_cases false e (inl is) = second (nat_lt q.minute p.minute) (q.minute == p.minute) _ (tail e)
        (first (nat_lt q.id p.id) _ (is_less q.id p.id is))
    by_cases false e (inr is) = second (nat_lt q.minute p.minute) (q.minute == p.minute) _ (tail e)
        (second (nat_lt q.id p.id) (q.id == p.id) _ (number_equal q.id p.id is.0)
        (is_less q.attempt p.attempt is.1))

pub in_order : (s : Subject) (ps : List Placed) → MinutesFall ps → AreLower ps → AreInOrder s ps
in_order s [] fall lower = tt
in_order s (p ∷ ps) fall lower = (
  each_two (λ q up under. before_is s p q up under) ps fall.0 lower.0,
  in_order s ps fall.1 lower.1,
)
