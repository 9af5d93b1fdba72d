-- Parameters inserted one by one are in order.
use Rattle.std.proofs.Common.{◌≡◌, ℕ, zero, suc, ◌+◌, ◌<◌, Bool, true, false, cond, List, [], ◌∷◌, ◌++◌, length, get_or, append-nil, refl, subst, arith}
use Rattle.std.specs.List.Sorted.{IsPermutation, IsSortedBy}
use Rattle.std.proofs.lemmas.List.Sorted.{IsPermutation-refl, IsPermutation-cons, IsPermutation-trans, IsPermutation-middle, IsPermutation-append_left, ranks_by}
use Rattle.std.proofs.lemmas.Cmp.{nat_list_cmp_total}
use Rattle.telnp.specs.Answer.{goes_before, placed, all_placed, in_order, order_key, kept, added}
use Rattle.telnp.specs.Laws.{IsInOrder, AnswersAreInOrder}

placed_permutes : (p : List ℕ) (xs : List (List ℕ)) → IsPermutation (p ∷ xs) (placed p xs)
placed_permutes p [] = IsPermutation-refl (p ∷ [])
placed_permutes p (q ∷ more) = at_test (goes_before p q) (placed_permutes p more)
  where
    at_test : (b : Bool) → IsPermutation (p ∷ more) (placed p more)
        → IsPermutation (p ∷ q ∷ more) (cond b (p ∷ q ∷ more) (q ∷ placed p more))
    at_test true h = IsPermutation-refl (p ∷ q ∷ more)
    at_test false h = IsPermutation-trans (p ∷ q ∷ more) (q ∷ p ∷ more) (q ∷ placed p more)
        (IsPermutation-middle (p ∷ []) q more) (IsPermutation-cons q (p ∷ more) (placed p more) h)

-- Holds if the first of the list, if there is one, does not go before the other.
abbrev Follows : List ℕ → List (List ℕ) → Type 0
Follows x [] = Unit {0}
Follows x (y ∷ more) = goes_before y x ≡ false

abbrev Rises : List (List ℕ) → Type 0
Rises [] = Unit {0}
Rises (x ∷ more) = Follows x more × Rises more

asymmetric : (a b : List ℕ) → goes_before a b ≡ true → goes_before b a ≡ false
asymmetric a b h = (ranks_by nat_list_cmp_total order_key).one_way a b h

follows_placed : (x p : List ℕ) (more : List (List ℕ)) → goes_before p x ≡ false → Follows x more
    → Follows x (placed p more)
follows_placed x p [] h f = h
follows_placed x p (y ∷ more) h f = at_test (goes_before p y)
  where
    at_test : (b : Bool) → Follows x (cond b (p ∷ y ∷ more) (y ∷ placed p more))
    at_test true = h
    at_test false = f

placed_rises : (p : List ℕ) (xs : List (List ℕ)) → Rises xs → Rises (placed p xs)
placed_rises p [] h = (tt, tt)
placed_rises p (q ∷ more) h = at_test (goes_before p q) refl h (placed_rises p more h.1)
  where
    at_test : (b : Bool) → goes_before p q ≡ b → Rises (q ∷ more) → Rises (placed p more)
        → Rises (cond b (p ∷ q ∷ more) (q ∷ placed p more))
    at_test true e h k = (asymmetric p q e, h)
    at_test false e h k = (follows_placed q p more e h.0, k)

rises_sorted : (xs : List (List ℕ)) → Rises xs → IsSortedBy goes_before xs
rises_sorted [] h = λ k d low high. absurd (omega arith)
rises_sorted (x ∷ []) h = λ k d low high. absurd (omega arith)
rises_sorted (x ∷ y ∷ more) h = λ k d low high. at_place k d high (rises_sorted (y ∷ more) h.1)
  where
    at_place : (k : ℕ) (d : List ℕ) → k + 1 < suc (suc (length more))
        → IsSortedBy goes_before (y ∷ more)
        → goes_before (get_or (x ∷ y ∷ more) (k + 1) d) (get_or (x ∷ y ∷ more) k d) ≡ false
    at_place zero d high sorted = h.0
    at_place (suc k) d high sorted =
        let e : suc k + 1 ≡ suc (k + 1) = omega arith in
        let same : get_or (y ∷ more) (k + 1) d ≡ get_or (x ∷ y ∷ more) (suc k + 1) d = rw e refl in
        subst (λ t. goes_before t (get_or (y ∷ more) k d) ≡ false) same
        (sorted k d (omega arith) (omega arith))

all_placed_permutes : (done parts : List (List ℕ))
    → IsPermutation (done ++ parts) (all_placed done parts)
all_placed_permutes done [] = rw (append-nil done) (IsPermutation-refl done)
all_placed_permutes done (p ∷ parts) =
    let to_front = IsPermutation-middle done p parts in
    let put = IsPermutation-append_left parts (p ∷ done) (placed p done) (placed_permutes p done) in
    IsPermutation-trans (done ++ p ∷ parts) (p ∷ (done ++ parts)) (all_placed (placed p done) parts)
    to_front
    (IsPermutation-trans (p ∷ (done ++ parts)) (placed p done ++ parts)
    (all_placed (placed p done) parts) put (all_placed_permutes (placed p done) parts))

all_placed_rises : (done parts : List (List ℕ)) → Rises done → Rises (all_placed done parts)
all_placed_rises done [] h = h
all_placed_rises done (p ∷ parts) h = all_placed_rises (placed p done) parts (placed_rises p done h)

placed_in_order : (parts : List (List ℕ)) → IsInOrder parts (in_order parts)
placed_in_order parts = record {
  same = all_placed_permutes [] parts;
  sorted = rises_sorted (in_order parts) (all_placed_rises [] parts tt);
}

pub answers_in_order : AnswersAreInOrder
answers_in_order parameters routing = placed_in_order (kept parameters ++ added parameters routing)
