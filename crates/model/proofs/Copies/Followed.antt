-- What a minute or an entry may do to the broadcasts of a carrier keeps its copy.
use Rattle.std.proofs.Common.{◌≡◌, ℕ, suc, Bool, true, false, List, [], ◌∷◌, ◌++◌, map, Option, Some, None, refl, ap, sym, ◌∙◌, subst, ◌⊎◌, inl, inr}
use Rattle.std.specs.Prelude.{⊤, flat_map, if◌then◌else◌}
use Rattle.std.specs.List.{AllByRecursion}
use Rattle.numbers.specs.Subjects.{Subject}
use Rattle.numbers.specs.Routings.{Routing}
use Rattle.model.specs.Windows.{Windows}
use Rattle.model.specs.Versions.{Record}
use Rattle.model.specs.Judge.{judge}
use Rattle.model.specs.History.{Entry, replay, present_set}
use Rattle.model.specs.State.{SubjectVersion, Download, registers, starting_row, copy_of, downloads_acknowledged, first_of, routing_in_force}
use Rattle.model.specs.Machine.{IsHistory}
use Rattle.numbers.proofs.Small.{true-false}
use Rattle.model.proofs.Kept.{record_after, kept}
use Rattle.model.proofs.Copies.{Carrier, Placed, placed, AllMarked, NoneMarked, AreMarkedInOrder, held}

-- ---- what may become of the list

-- Holds if some unmarked ones are removed.
abbrev pub IsThinned : List Placed → List Placed → Type 0
IsThinned [] [] = ⊤
IsThinned [] (q ∷ qs) = ⊥
IsThinned (p ∷ ps) [] = (p.marked ≡ false) × IsThinned ps []
IsThinned (p ∷ ps) (q ∷ qs) = ((p.marked ≡ false) × IsThinned ps (q ∷ qs))
    ⊎ ((q ≡ p) × IsThinned ps qs)

-- Holds if some unmarked ones are removed, and perhaps one of this minute is added as the newest,
-- unmarked.
abbrev pub IsNext : ℕ → List Placed → List Placed → Type 0
IsNext m ps [] = IsThinned ps []
IsNext m ps (q ∷ qs) = IsThinned ps (q ∷ qs) ⊎ ((q.marked ≡ false) × (q.minute ≡ m)
    × IsThinned ps qs)

-- Holds if one with this routing is marked now, after all before it.
abbrev pub IsMarkedNow : Option Routing → List Placed → List Placed → Type 0
IsMarkedNow routing [] qs = ⊥
IsMarkedNow routing (p ∷ ps) [] = ⊥
IsMarkedNow routing (p ∷ ps) (q ∷ qs) =
    ((p.marked ≡ false) × (q.marked ≡ true) × (q.routing ≡ routing) × (qs ≡ ps) × AllMarked ps)
    ⊎ ((q ≡ p) × IsMarkedNow routing ps qs)

-- ---- removal

pub thinned_same : (ps : List Placed) → IsThinned ps ps
thinned_same [] = tt
thinned_same (p ∷ ps) = inr (refl, thinned_same ps)

pub thinned_is : (ps qs : List Placed) → qs ≡ ps → IsThinned ps qs
thinned_is ps qs e = subst (λ xs. IsThinned ps xs) (sym e) (thinned_same ps)

pub thinned_append : (ps qs xs ys : List Placed) → IsThinned ps qs → IsThinned xs ys
    → IsThinned (ps ++ xs) (qs ++ ys)
thinned_append [] [] xs ys one two = two
thinned_append [] (q ∷ qs) xs ys one two = absurd one
thinned_append (p ∷ ps) [] xs [] one two = (one.0, thinned_append ps [] xs [] one.1 two)
thinned_append (p ∷ ps) [] xs (y ∷ ys) one two =
    inl (one.0, thinned_append ps [] xs (y ∷ ys) one.1 two)
thinned_append (p ∷ ps) (q ∷ qs) xs ys (inl one) two =
    inl (one.0, thinned_append ps (q ∷ qs) xs ys one.1 two)
thinned_append (p ∷ ps) (q ∷ qs) xs ys (inr one) two =
    inr (one.0, thinned_append ps qs xs ys one.1 two)

pub next_thinned : (m : ℕ) (ps qs : List Placed) → IsThinned ps qs → IsNext m ps qs
next_thinned m ps [] thin = thin
next_thinned m ps (q ∷ qs) thin = inl thin

pub next_append : (m : ℕ) (ps qs xs ys : List Placed) → IsNext m ps qs → IsThinned xs ys
    → IsNext m (ps ++ xs) (qs ++ ys)
next_append m ps [] xs ys next thin =
    next_thinned m (ps ++ xs) ys (thinned_append ps [] xs ys next thin)
next_append m ps (q ∷ qs) xs ys (inl one) thin = inl (thinned_append ps (q ∷ qs) xs ys one thin)
next_append m ps (q ∷ qs) xs ys (inr new) thin =
    inr (new.0, new.1, thinned_append ps qs xs ys new.2 thin)

pub thinned_none : (ps qs : List Placed) → ps ≡ [] → IsThinned ps qs → qs ≡ []
thinned_none [] [] e thin = refl
thinned_none [] (q ∷ qs) e thin = absurd thin
thinned_none (p ∷ ps) qs e thin = cc

-- What holds of each still does.
pub thinned_each : (P : Placed → Type 0) (ps qs : List Placed) → IsThinned ps qs
    → AllByRecursion P ps → AllByRecursion P qs
thinned_each P ps [] thin all = tt
thinned_each P [] (q ∷ qs) thin all = absurd thin
thinned_each P (p ∷ ps) (q ∷ qs) (inl thin) all = thinned_each P ps (q ∷ qs) thin.1 all.1
thinned_each P (p ∷ ps) (q ∷ qs) (inr thin) all =
    (subst P (sym thin.0) all.0, thinned_each P ps qs thin.1 all.1)

-- ---- what stays

thinned_in_order : (ps qs : List Placed) → IsThinned ps qs → AreMarkedInOrder ps
    → AreMarkedInOrder qs
thinned_in_order ps [] thin are = tt
thinned_in_order [] (q ∷ qs) thin are = absurd thin
thinned_in_order (p ∷ ps) (q ∷ qs) (inl thin) are = thinned_in_order ps (q ∷ qs) thin.1 are.1
thinned_in_order (p ∷ ps) (q ∷ qs) (inr thin) are = (
  λ is. thinned_each (λ x. x.marked ≡ true) ps qs thin.1
      (are.0 (sym (ap (λ (x : Placed). x.marked) thin.0) ∙ is)),
  thinned_in_order ps qs thin.1 are.1,
)

thinned_held : (row : Option Routing) (ps qs : List Placed) → IsThinned ps qs
    → held row ps ≡ held row qs
thinned_held row [] [] thin = refl
thinned_held row [] (q ∷ qs) thin = absurd thin
thinned_held row (p ∷ ps) [] thin = ap (λ b. if b then p.routing else held row ps) thin.0
    ∙ thinned_held row ps [] thin.1
thinned_held row (p ∷ ps) (q ∷ qs) (inl thin) =
    ap (λ b. if b then p.routing else held row ps) thin.0 ∙ thinned_held row ps (q ∷ qs) thin.1
thinned_held row (p ∷ ps) (q ∷ qs) (inr thin) =
    ap (λ r. if p.marked then p.routing else r) (thinned_held row ps qs thin.1)
    ∙ ap (λ (x : Placed). if x.marked then x.routing else held row qs) (sym thin.0)

pub next_in_order : (m : ℕ) (ps qs : List Placed) → IsNext m ps qs → AreMarkedInOrder ps
    → AreMarkedInOrder qs
next_in_order m ps [] next are = tt
next_in_order m ps (q ∷ qs) (inl thin) are = thinned_in_order ps (q ∷ qs) thin are
next_in_order m ps (q ∷ qs) (inr new) are =
    (λ is. true-false q.marked is new.0, thinned_in_order ps qs new.2 are)

pub next_held : (m : ℕ) (row : Option Routing) (ps qs : List Placed) → IsNext m ps qs
    → held row ps ≡ held row qs
next_held m row ps [] next = thinned_held row ps [] next
next_held m row ps (q ∷ qs) (inl thin) = thinned_held row ps (q ∷ qs) thin
next_held m row ps (q ∷ qs) (inr new) = thinned_held row ps qs new.2 ∙ ap (λ b. if b then q.routing
    else held row qs) (sym new.0)

-- One that is marked now was not marked before.
all_not : (routing : Option Routing) (ps qs : List Placed) → IsMarkedNow routing ps qs
    → AllMarked ps → ⊥
all_not routing [] qs now all = now
all_not routing (p ∷ ps) [] now all = now
all_not routing (p ∷ ps) (q ∷ qs) (inl now) all = true-false p.marked all.0 now.0
all_not routing (p ∷ ps) (q ∷ qs) (inr later) all = all_not routing ps qs later.1 all.1

answered_in_order : (routing : Option Routing) (ps qs : List Placed) → IsMarkedNow routing ps qs
    → AreMarkedInOrder ps → AreMarkedInOrder qs
answered_in_order routing [] qs now are = absurd now
answered_in_order routing (p ∷ ps) [] now are = absurd now
answered_in_order routing (p ∷ ps) (q ∷ qs) (inl now) are = (
  λ is. subst AllMarked (sym now.3) now.4,
  subst AreMarkedInOrder (sym now.3) are.1,
)
answered_in_order routing (p ∷ ps) (q ∷ qs) (inr later) are = (
  λ is. absurd (all_not routing ps qs later.1 (are.0 (sym (ap (λ (x : Placed). x.marked) later.0)
      ∙ is))),
  answered_in_order routing ps qs later.1 are.1,
)

answered_held : (routing row : Option Routing) (ps qs : List Placed) → IsMarkedNow routing ps qs
    → AreMarkedInOrder ps → held row qs ≡ routing
answered_held routing row [] qs now are = absurd now
answered_held routing row (p ∷ ps) [] now are = absurd now
answered_held routing row (p ∷ ps) (q ∷ qs) (inl now) are =
    ap (λ b. if b then q.routing else held row qs) now.1 ∙ now.2
answered_held routing row (p ∷ ps) (q ∷ qs) (inr later) are =
    by_cases p.marked refl (answered_held routing row ps qs later.1 are.1)
  where
    by_cases : (b : Bool) → p.marked ≡ b → held row qs ≡ routing
        → (if q.marked then q.routing else held row qs) ≡ routing
    by_cases true e rest = absurd (all_not routing ps qs later.1 (are.0 e))
    by_cases false e rest =
        ap (λ b. if b then q.routing else held row qs) (ap (λ (x : Placed). x.marked) later.0 ∙ e)
        ∙ rest

none_held : (row : Option Routing) (ps : List Placed) → NoneMarked ps → held row ps ≡ row
none_held row [] none = refl
none_held row (p ∷ ps) none = ap (λ b. if b then p.routing else held row ps) none.0
    ∙ none_held row ps none.1

none_in_order : (ps : List Placed) → NoneMarked ps → AreMarkedInOrder ps
none_in_order [] none = tt
none_in_order (p ∷ ps) none = (λ is. true-false p.marked is none.0, none_in_order ps none.1)

-- ---- every history

-- The first download of s that the entry acknowledges for the carrier.
abbrev pub acknowledged_now : Windows → ℕ → Subject → List Entry → Entry → Option Download
acknowledged_now w c s h e =
    first_of (flat_map (downloads_acknowledged c e.caller e.request)
    (map (λ v. let x : SubjectVersion = record { subject = s; version = v } in
    x) (replay w s h e.minute).versions))

-- What has to be shown of minutes and entries, for the carrier and the subject.
pub record FollowsCopies (w : Windows) (c : ℕ) (s : Subject) : Type 0 where
  pub minute : (h : List Entry) (m : ℕ) → IsHistory w h m
      → IsNext (suc m) (placed (Carrier c) (replay w s h m).versions)
      (placed (Carrier c) (judge (present_set w h) (suc m) (replay w s h m)).versions)
  pub starts : (h : List Entry) (e : Entry) → IsHistory w (e ∷ h) e.minute
      → registers c e.request ≡ true
      → NoneMarked (placed (Carrier c) (record_after w s h e).versions)
  pub passes : (h : List Entry) (e : Entry) → IsHistory w (e ∷ h) e.minute
      → registers c e.request ≡ false → acknowledged_now w c s h e ≡ None →
      IsNext e.minute (placed (Carrier c) (replay w s h e.minute).versions)
      (placed (Carrier c) (record_after w s h e).versions)
  pub answers : (h : List Entry) (e : Entry) (d : Download) → IsHistory w (e ∷ h) e.minute
      → registers c e.request ≡ false → acknowledged_now w c s h e ≡ Some d →
      IsMarkedNow d.routing (placed (Carrier c) (replay w s h e.minute).versions)
      (placed (Carrier c) (record_after w s h e).versions)

-- Holds if downloads are acknowledged in order, and the copy is the last of them.
pub record IsFollowed (w : Windows) (c : ℕ) (s : Subject) (h : List Entry) (m : ℕ)
    (r : Record) : Type 0 where
  pub marked : AreMarkedInOrder (placed (Carrier c) r.versions)
  pub copy : copy_of w c s h ≡ held (starting_row w c s h) (placed (Carrier c) r.versions)

module _ (w : Windows) (c : ℕ) (s : Subject) (follows : FollowsCopies w c s) where
  after_minute : (h : List Entry) (m : ℕ) → IsHistory w h m → IsFollowed w c s h m (replay w s h m)
      → IsFollowed w c s h (suc m) (judge (present_set w h) (suc m) (replay w s h m))
  after_minute h m is before = record {
    marked = next_in_order (suc m) (placed (Carrier c) (replay w s h m).versions)
        (placed (Carrier c) (judge (present_set w h) (suc m) (replay w s h m)).versions)
        (follows.minute h m is) before.marked;
    copy = before.copy ∙ next_held (suc m) (starting_row w c s h)
        (placed (Carrier c) (replay w s h m).versions)
        (placed (Carrier c) (judge (present_set w h) (suc m) (replay w s h m)).versions)
        (follows.minute h m is);
  }

  abbrev olds : List Entry → Entry → List Placed
  olds h e = placed (Carrier c) (replay w s h e.minute).versions

  abbrev news : List Entry → Entry → List Placed
  news h e = placed (Carrier c) (record_after w s h e).versions

  abbrev copied : List Entry → Option Download → Option Routing
  copied h o = elim o [ Some d ↦ d.routing | None ↦ copy_of w c s h ]

  after_entry : (h : List Entry) (e : Entry) → IsHistory w (e ∷ h) e.minute
      → IsFollowed w c s h e.minute (replay w s h e.minute)
      → IsFollowed w c s (e ∷ h) e.minute (record_after w s h e)
  unfolding copy_of
  after_entry h e is before = by_cases (registers c e.request) refl (acknowledged_now w c s h e)
      refl
    where
      by_cases : (b : Bool) → registers c e.request ≡ b → (o : Option Download)
          → acknowledged_now w c s h e ≡ o
          → IsFollowed w c s (e ∷ h) e.minute (record_after w s h e)
      by_cases true f o g =
          let none : NoneMarked (news h e) = follows.starts h e is f in
          record {
            marked = none_in_order (news h e) none;
            copy = ap (λ b. if b then routing_in_force (replay w s h e.minute)
                else copied h (acknowledged_now w c s h e)) f
                ∙ sym (ap (λ b. if b then routing_in_force (replay w s h e.minute)
                else starting_row w c s h) f)
                ∙ sym (none_held (starting_row w c s (e ∷ h)) (news h e) none);
          }
      by_cases false f None g =
          let next : IsNext e.minute (olds h e) (news h e) = follows.passes h e is f g in
          record {
            marked = next_in_order e.minute (olds h e) (news h e) next before.marked;
            copy = ap (λ b. if b then routing_in_force (replay w s h e.minute)
                else copied h (acknowledged_now w c s h e)) f
                ∙ ap (copied h) g ∙ before.copy ∙ next_held e.minute (starting_row w c s h)
                (olds h e) (news h e) next
                ∙ ap (λ row. held row (news h e))
                (sym (ap (λ b. if b then routing_in_force (replay w s h e.minute)
                else starting_row w c s h) f));
          }
      by_cases false f (Some d) g =
          let now : IsMarkedNow d.routing (olds h e) (news h e) = follows.answers h e d is f g in
          record {
            marked = answered_in_order d.routing (olds h e) (news h e) now before.marked;
            copy = ap (λ b. if b then routing_in_force (replay w s h e.minute)
                else copied h (acknowledged_now w c s h e)) f
                ∙ ap (copied h) g ∙ sym (answered_held d.routing (starting_row w c s (e ∷ h))
                (olds h e) (news h e) now before.marked);
          }

  pub followed : (h : List Entry) (m : ℕ) → IsHistory w h m → IsFollowed w c s h m (replay w s h m)
  unfolding copy_of
  followed = kept w s (IsFollowed w c s) (record {
    first = λ m. record { marked = tt; copy = refl };
    minute = after_minute;
    entry = after_entry;
  })
