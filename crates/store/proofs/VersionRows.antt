-- Look-ups and changes of rows that lie at the places of their ids.
use Rattle.std.proofs.Common.{◌≡◌, ◌≢◌, ◌<◌, ◌+◌, ℕ, zero, suc, Bool, true, false, List, [], ◌∷◌, length, Option, Some, None, refl, ap, sym, ◌∙◌, arith, cond}
use Rattle.std.specs.Prelude.{◌==◌, get_or, slice_set}
use Rattle.std.specs.Ordering.{eq_by_cmp, nat_cmp}
use Rattle.std.specs.Cmp.{nat_cmp_total}
use Rattle.std.specs.FinMap.{FinMap, empty, get-empty, get, same_map, nat_cmp-IsAntisymmetric}
use Rattle.std.proofs.lemmas.Bool.Decides.{nat_tests}
use Rattle.std.proofs.lemmas.List.{get_or-set_same, get_or-set_other}
use Rattle.store.specs.Maps.{set}
use Rattle.store.specs.VersionRows.{rows_from}
use Rattle.store.proofs.Maps.{get-set}

tie : (k n : ℕ) → eq_by_cmp nat_cmp k n ≡ (k == n)
tie k n = grind (arith, nat_tests)

module _ {X : Type 0} where
  row-from : (n : ℕ) (os : List (Option X)) (q : ℕ)
      → get (rows_from n os) (n + q) ≡ get_or os q None
  unfolding rows_from
  row-from n [] q = get-empty nat_cmp (n + q)
  row-from n (o ∷ os) zero =
      get-set nat_cmp_total nat_cmp-IsAntisymmetric (rows_from (suc n) os) n o (n + zero)
      ∙ ap (λ b. cond b o (get (rows_from (suc n) os) (n + zero))) (here n)
    where
      here : (k : ℕ) → eq_by_cmp nat_cmp k (k + 0) ≡ true
      here k = grind (arith, nat_tests)
  row-from n (o ∷ os) (suc q) =
      get-set nat_cmp_total nat_cmp-IsAntisymmetric (rows_from (suc n) os) n o (n + suc q)
      ∙ ap (λ b. cond b o (get (rows_from (suc n) os) (n + suc q))) (there n q)
      ∙ ap (get (rows_from (suc n) os)) (moved n q)
      ∙ row-from (suc n) os q
    where
      there : (k p : ℕ) → eq_by_cmp nat_cmp k (k + suc p) ≡ false
      there k p = grind (arith, nat_tests)

      moved : (k p : ℕ) → k + suc p ≡ suc k + p
      moved k p = omega arith

  pub row-at : (os : List (Option X)) (k : ℕ) → get (rows_from 0 os) k ≡ get_or os k None
  row-at os k = ap (get (rows_from 0 os)) (sym (same k)) ∙ row-from 0 os k
    where
      same : (n : ℕ) → 0 + n ≡ n
      same n = omega arith

  -- Setting one row.
  row-set : (old new : List (Option X)) (k : ℕ) (w : Option X)
      → ((q : ℕ) → get_or new q None ≡ cond (k == q) w (get_or old q None))
      → rows_from 0 new ≡ set (rows_from 0 old) k w
  row-set old new k w is =
      same_map nat_cmp_total nat_cmp-IsAntisymmetric (rows_from 0 new) (set (rows_from 0 old) k w)
      (λ q. row-at new q ∙ is q
      ∙ (λ i. cond (sym (tie k q) i) w (sym (row-at old q) i))
      ∙ sym (get-set nat_cmp_total nat_cmp-IsAntisymmetric (rows_from 0 old) k w q))

  -- Places without rows change nothing.
  pub row-same : (old new : List (Option X)) → ((q : ℕ) → get_or new q None ≡ get_or old q None)
      → rows_from 0 new ≡ rows_from 0 old
  row-same old new is =
      same_map nat_cmp_total nat_cmp-IsAntisymmetric (rows_from 0 new) (rows_from 0 old)
      (λ q. row-at new q ∙ is q ∙ sym (row-at old q))

  -- One row written at its place.
  place-written : (os : List (Option X)) (k : ℕ) (w : Option X) → k < length os → (q : ℕ)
      → get_or (slice_set os k w) q None ≡ cond (k == q) w (get_or os q None)
  place-written os k w inside q = by_cases (k == q) refl
    where
      by_cases : (b : Bool) → (k == q) ≡ b
          → get_or (slice_set os k w) q None ≡ cond b w (get_or os q None)
      by_cases true e =
          let same : k ≡ q = grind (arith, nat_tests, e) in
          ap (λ j. get_or (slice_set os k w) j None) (sym same) ∙ get_or-set_same os k w None inside
      by_cases false e =
          let other : q ≢ k = grind (arith, nat_tests, e) in
          get_or-set_other os k q w None other

  pub row-written : (os : List (Option X)) (k : ℕ) (w : Option X) → k < length os
      → rows_from 0 (slice_set os k w) ≡ set (rows_from 0 os) k w
  row-written os k w inside = row-set os (slice_set os k w) k w (place-written os k w inside)

-- An empty map has no row.
pub no_row : {X : Type 0} (m : FinMap nat_cmp X) → m ≡ empty → (k : ℕ) (v : X) → get m k ≡ Some v
    → ⊥
no_row m none k v e =
    let no : None ≡ Some v = sym (get-empty nat_cmp k) ∙ ap (λ x. get x k) (sym none) ∙ e in
    cc
