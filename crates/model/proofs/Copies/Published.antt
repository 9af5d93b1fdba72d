-- If no download about a subject is pending for a carrier, the latest broadcast that it
-- acknowledged is what was last published to it.
use Rattle.std.proofs.Common.{◌≡◌, ℕ, Bool, true, false, cond, not, ◌&&◌, ◌||◌, List, [], ◌∷◌, ◌++◌, map, Option, Some, None, refl, ap, sym, ◌∙◌, arith}
use Rattle.std.specs.Prelude.{◌==◌, nat_lt, filter, flat_map, if◌then◌else◌}
use Rattle.std.specs.List.{list_any, AllByRecursion}
use Rattle.std.proofs.lemmas.Bool.Decides.{nat_tests}
use Rattle.numbers.specs.Subjects.{Subject, subject_eq}
use Rattle.numbers.specs.Routings.{Routing}
use Rattle.model.specs.Versions.{Broadcast, Version, is_among, is_withdrawn, waiters, unacknowledged}
use Rattle.model.specs.State.{State, SubjectVersion, Download, record_now, download, downloads_of, is_before, inserted, sorted, last, starting_row, published, queue}
use Rattle.model.specs.Machine.{HasHistory}
use Rattle.model.specs.Laws.{NothingIsPending}
use Rattle.numbers.proofs.Small.{equal_number, greater_differs, false_second}
use Rattle.model.proofs.Entered.{subject_eq-refl}
use Rattle.model.proofs.Lists.{each, each_there, each-among, each_mapped}
use Rattle.model.proofs.Copies.{Carrier, Placed, stands_for, place, own, placed, download_of, AreInOrder, AllMarked, held, each_placed}
use Rattle.model.proofs.Copies.Queue.{sorted-from, unqueued}

-- ---- what was sent to the carrier and is not pending is acknowledged

pub among_filter : (c : ℕ) (test : ℕ → Bool) (cs : List ℕ)
    → is_among c (filter test cs) ≡ (test c && is_among c cs)
among_filter c test [] = none (test c)
  where
    none : (b : Bool) → false ≡ (b && false)
    none true = refl
    none false = refl
among_filter c test (d ∷ ds) = by_cases (test d) (d == c) refl refl (among_filter c test ds)
  where
    both : (x : Bool) → (x && true) ≡ x
    both true = refl
    both false = refl

    drop : (x y : Bool) → x ≡ false → (x && y) ≡ (x && true)
    drop true y e = cc
    drop false y e = refl

    by_cases : (a b : Bool) → test d ≡ a → (d == c) ≡ b
        → is_among c (filter test ds) ≡ (test c && is_among c ds) →
        is_among c (cond a (d ∷ filter test ds) (filter test ds)) ≡ (test c && (b || is_among c ds))
    by_cases true true e f later = ap (λ b. b || is_among c (filter test ds)) f
        ∙ sym (both (test c) ∙ (ap test (sym (equal_number d c f)) ∙ e))
    by_cases true false e f later = ap (λ b. b || is_among c (filter test ds)) f ∙ later
    by_cases false true e f later =
        later ∙ drop (test c) (is_among c ds) (ap test (sym (equal_number d c f)) ∙ e)
    by_cases false false e f later = later

-- A selected broadcast is pending for its recipient until that acknowledges it.
pub waits_or_not : (c : ℕ) (b : Broadcast) → stands_for (Carrier c) b ≡ true
    → is_among c (waiters b) ≡ not (is_among c b.acknowledged)
waits_or_not c b stands = by_cases (is_among c b.recipients) (is_withdrawn b) refl refl stands
  where
    out : (x : Bool) → (not x && true) ≡ not x
    out true = refl
    out false = refl

    by_cases : (x y : Bool) → is_among c b.recipients ≡ x → is_withdrawn b ≡ y → (x && not y) ≡ true
        → is_among c (waiters b) ≡ not (is_among c b.acknowledged)
    by_cases true false e f both = ap (λ k. is_among c (if k then [] else unacknowledged b)) f
        ∙ among_filter c (λ k. not (is_among k b.acknowledged)) b.recipients
        ∙ ap (λ k. not (is_among c b.acknowledged) && k) e ∙ out (is_among c b.acknowledged)
    by_cases true true e f both = cc
    by_cases false y e f both = cc

acknowledged_else : (c : ℕ) (b : Broadcast) → stands_for (Carrier c) b ≡ true
    → is_among c (waiters b) ≡ false → is_among c b.acknowledged ≡ true
acknowledged_else c b stands idle =
    by_cases (is_among c b.acknowledged) (sym (waits_or_not c b stands) ∙ idle)
  where
    by_cases : (x : Bool) → not x ≡ false → x ≡ true
    by_cases true e = refl
    by_cases false e = cc

module _ (st : State) (is : HasHistory st) (c : ℕ) (s : Subject) where
  -- If no download in the queue passes a test, whatever passes it is acknowledged.
  pub answered_else : (test : Download → Bool) → list_any test (queue st c) ≡ false →
      AllByRecursion (λ p. test (download_of s p) ≡ true
      → p.marked ≡ true) (placed (Carrier c) (record_now st s).versions)
  answered_else test none = each_placed (Carrier c) (λ p. test (download_of s p) ≡ true
      → p.marked ≡ true) (record_now st s).versions
      (each_there (λ (v : Version). AllByRecursion (λ b. stands_for (Carrier c) b ≡ true
      → test (download_of s (place (Carrier c) v.id b)) ≡ true → is_among c b.acknowledged ≡ true)
      v.broadcasts) (record_now st s).versions
      (λ v there. each_there (λ b. stands_for (Carrier c) b ≡ true
      → test (download_of s (place (Carrier c) v.id b)) ≡ true → is_among c b.acknowledged ≡ true)
      v.broadcasts
      (λ b sent stands passes. acknowledged_else c b stands (unqueued st is s c test none v b there
      sent passes))))

  pub all_answered : NothingIsPending st c s
      → AllMarked (placed (Carrier c) (record_now st s).versions)
  all_answered idle =
      each (λ p done. done (subject_eq-refl s)) (placed (Carrier c) (record_now st s).versions)
      (answered_else (λ d. subject_eq d.subject s) idle)

-- ---- the last download

none_last : (d : Download) (ds : List Download) → AllByRecursion (λ e. is_before d e ≡ false) ds
    → last (inserted d ds) ≡ Some d
none_last d [] none = refl
none_last d (e ∷ es) none = by_cases (is_before d e) none.0 (none_last d es none.1)
  where
    by_cases : (b : Bool) → b ≡ false → last (inserted d es) ≡ Some d
        → last (if b then d ∷ e ∷ es else e ∷ inserted d es) ≡ Some d
    by_cases true f later = cc
    by_cases false f later = rw later

nat_apart : (a b : ℕ) → nat_lt a b ≡ true → nat_lt b a ≡ false
nat_apart a b e = grind (arith, nat_tests)

nat_same_lt : (a b : ℕ) → (a == b) ≡ true → nat_lt b a ≡ false
nat_same_lt a b e = grind (arith, nat_tests)

-- Of two downloads, only one is before the other.
not_before : (d e : Download) → is_before e d ≡ true → is_before d e ≡ false
not_before d e is = by_cases (nat_lt e.minute d.minute) (e.minute == d.minute) (nat_lt e.id d.id)
    (e.id == d.id) (nat_lt e.attempt d.attempt) refl refl refl refl refl is
  where
    neither : (p q r : Bool) → p ≡ false → q ≡ false → (p || (q && r)) ≡ false
    neither true q r e1 f = cc
    neither false true r e1 f = cc
    neither false false r e1 f = refl

    inner : (p q r : Bool) → p ≡ false → r ≡ false → (p || (q && r)) ≡ false
    inner true q r e1 f = cc
    inner false q r e1 f = false_second q r f

    by_cases : (p q r t u : Bool) → nat_lt e.minute d.minute ≡ p → (e.minute == d.minute) ≡ q
        → nat_lt e.id d.id ≡ r → (e.id == d.id) ≡ t → nat_lt e.attempt d.attempt ≡ u
        → (p || (q && (r || (t && u)))) ≡ true →
        is_before d e ≡ false
    by_cases true q r t u e1 e2 e3 e4 e5 f =
        neither (nat_lt d.minute e.minute) (d.minute == e.minute) _ (nat_apart e.minute d.minute e1)
        (greater_differs e.minute d.minute e1)
    by_cases false true true t u e1 e2 e3 e4 e5 f =
        inner (nat_lt d.minute e.minute) (d.minute == e.minute) _ (nat_same_lt e.minute d.minute e2)
        (neither (nat_lt d.id e.id) (d.id == e.id) _ (nat_apart e.id d.id e3)
        (greater_differs e.id d.id e3))
    by_cases false true false true true e1 e2 e3 e4 e5 f =
        inner (nat_lt d.minute e.minute) (d.minute == e.minute) _ (nat_same_lt e.minute d.minute e2)
        (inner (nat_lt d.id e.id) (d.id == e.id) _ (nat_same_lt e.id d.id e4)
        (nat_apart e.attempt d.attempt e5))
    by_cases false true false true false e1 e2 e3 e4 e5 f = cc
    by_cases false true false false u e1 e2 e3 e4 e5 f = cc
    by_cases false false r t u e1 e2 e3 e4 e5 f = cc

-- What is published is the first of the list.
last_placed : (s : Subject) (p : Placed) (ps : List Placed) → AreInOrder s (p ∷ ps)
    → last (sorted (map (download_of s) (p ∷ ps))) ≡ Some (download_of s p)
last_placed s p ps order =
    none_last (download_of s p) (sorted (map (download_of s) ps))
    (each_there (λ e. is_before (download_of s p) e ≡ false) (sorted (map (download_of s) ps))
    (λ e there. each-among (λ x. is_before (download_of s p) x ≡ false) (map (download_of s) ps) e
    (each_mapped (download_of s) (λ x. is_before (download_of s p) x ≡ false) ps
    (each (λ q before. not_before (download_of s p) (download_of s q) before) ps order.0))
    (sorted-from (map (download_of s) ps) e there)))

pub map_append : {A B : Type 0} (f : A → B) (xs ys : List A)
    → map f (xs ++ ys) ≡ map f xs ++ map f ys
map_append f [] ys = refl
map_append f (x ∷ xs) ys = ap (λ zs. f x ∷ zs) (map_append f xs ys)

own_downloads : (c : ℕ) (s : Subject) (v : Version) (bs : List Broadcast)
    → map (download_of s) (map (place (Carrier c) v.id) bs)
    ≡ map (download (record { subject = s; version = v })) bs
own_downloads c s v [] = refl
own_downloads c s v (b ∷ bs) =
    ap (λ ds. download (record { subject = s; version = v }) b ∷ ds) (own_downloads c s v bs)

sent_to : (c : ℕ) (s : Subject) (vs : List Version) →
    flat_map (downloads_of (stands_for (Carrier c))) (map (λ v. let e : SubjectVersion =
    record { subject = s; version = v } in e) vs) ≡ map (download_of s) (placed (Carrier c) vs)
sent_to c s [] = refl
sent_to c s (v ∷ vs) =
    ap (λ ds. ds ++ flat_map (downloads_of (stands_for (Carrier c)))
    (map (λ u. let e : SubjectVersion = record { subject = s; version = u } in e) vs))
    (sym (own_downloads c s v (filter (stands_for (Carrier c)) v.broadcasts)))
    ∙ ap (λ ds. map (download_of s) (own (Carrier c) v) ++ ds) (sent_to c s vs)
    ∙ sym (map_append (download_of s) (own (Carrier c) v) (placed (Carrier c) vs))

-- ---- what is published is what is held

abbrev or_row : Option Download → Option Routing → Option Routing
or_row o row = elim o [ Some d ↦ d.routing | None ↦ row ]

pub held_is_published : (st : State) (c : ℕ) (s : Subject)
    → AreInOrder s (placed (Carrier c) (record_now st s).versions)
    → AllMarked (placed (Carrier c) (record_now st s).versions) →
    held (starting_row st.windows c s st.history) (placed (Carrier c) (record_now st s).versions)
    ≡ published st c s
unfolding published
held_is_published st c s ordered marked =
    same (placed (Carrier c) (record_now st s).versions) ordered marked
    ∙ ap (λ ds. or_row (last (sorted ds)) (starting_row st.windows c s st.history))
    (sym (sent_to c s (record_now st s).versions))
  where
    row : Option Routing
    row = starting_row st.windows c s st.history

    same : (ps : List Placed) → AreInOrder s ps → AllMarked ps
        → held row ps ≡ or_row (last (sorted (map (download_of s) ps))) row
    same [] order all = refl
    same (p ∷ ps) order all = ap (λ b. if b then p.routing else held row ps) all.0
        ∙ ap (λ o. or_row o row) (sym (last_placed s p ps order))
