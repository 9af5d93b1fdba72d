-- Look-ups in a map with its values changed by those of another map.
use Rattle.std.proofs.Common.{◌≡◌, ℕ, Bool, true, false, cond, List, [], ◌∷◌, map, Option, Some, None, refl, ap, sym, ◌∙◌}
use Rattle.std.specs.Prelude.{option_map}
use Rattle.std.specs.Ordering.{nat_cmp, eq_by_cmp}
use Rattle.std.specs.Cmp.{nat_cmp_total}
use Rattle.std.specs.FinMap.{FinMap, get, insert, remove, entries, find, get-entries, get-from_entries, get-insert, get-remove, same_map, nat_cmp-IsAntisymmetric}
use Rattle.sql_rows.specs.Over.{over}
use Rattle.sql_rows.proofs.Orders.{same_number}

module _ {X Y : Type 0} (change : Option Y → X → X) where
  found : (more : FinMap nat_cmp Y) (es : List (ℕ × X)) (k : ℕ)
      → find nat_cmp k (map (λ (e : ℕ × X). (e.0, change (get more e.0) e.1)) es)
      ≡ option_map (change (get more k)) (find nat_cmp k es)
  found more [] k = refl
  found more (e ∷ es) k = by_cases (eq_by_cmp nat_cmp k e.0) refl (found more es k)
    where
      by_cases : (b : Bool) → eq_by_cmp nat_cmp k e.0 ≡ b
          → find nat_cmp k (map (λ (x : ℕ × X). (x.0, change (get more x.0) x.1)) es)
          ≡ option_map (change (get more k)) (find nat_cmp k es) →
          cond b (Some (change (get more e.0) e.1))
          (find nat_cmp k (map (λ (x : ℕ × X). (x.0, change (get more x.0) x.1)) es))
          ≡ option_map (change (get more k)) (cond b (Some e.1) (find nat_cmp k es))
      by_cases true same later =
          ap (λ j. Some (change (get more j) e.1)) (sym (same_number k e.0 same))
      by_cases false same later = later

  pub get-over : (bare : FinMap nat_cmp X) (more : FinMap nat_cmp Y) (k : ℕ)
      → get (over change bare more) k ≡ option_map (change (get more k)) (get bare k)
  get-over bare more k =
      get-from_entries nat_cmp_total (map (λ (e : ℕ × X). (e.0, change (get more e.0) e.1))
      (entries bare)) k ∙ found more (entries bare) k ∙ ap (option_map (change (get more k)))
      (sym (get-entries bare k))

  -- Inserting into both maps inserts into the combined map.
  pub over-put : (bare : FinMap nat_cmp X) (more next : FinMap nat_cmp Y) (k : ℕ) (x : X)
      → ((j : ℕ) → eq_by_cmp nat_cmp j k ≡ false → get next j ≡ get more j) →
      over change (insert bare k x) next ≡ insert (over change bare more) k (change (get next k) x)
  over-put bare more next k x others =
      same_map nat_cmp_total nat_cmp-IsAntisymmetric _ _ (λ j. get-over (insert bare k x) next j
      ∙ ap (option_map (change (get next j))) (get-insert nat_cmp_total bare k x j)
      ∙ at j (eq_by_cmp nat_cmp j k) refl ∙ sym (get-insert nat_cmp_total (over change bare more) k
      (change (get next k) x) j))
    where
      at : (j : ℕ) (b : Bool) → eq_by_cmp nat_cmp j k ≡ b
          → option_map (change (get next j)) (cond (eq_by_cmp nat_cmp j k) (Some x) (get bare j))
          ≡ cond (eq_by_cmp nat_cmp j k) (Some (change (get next k) x))
          (get (over change bare more) j)
      at j true e = ap (λ b. option_map (change (get next j)) (cond b (Some x) (get bare j))) e
          ∙ ap (λ i. Some (change (get next i) x)) (same_number j k e)
          ∙ sym (ap (λ b. cond b (Some (change (get next k) x)) (get (over change bare more) j)) e)
      at j false e = ap (λ b. option_map (change (get next j)) (cond b (Some x) (get bare j))) e
          ∙ ap (λ o. option_map (change o) (get bare j)) (others j e) ∙ sym (get-over bare more j)
          ∙ sym (ap (λ b. cond b (Some (change (get next k) x)) (get (over change bare more) j)) e)

  -- Removing from both maps removes from the combined map.
  pub over-remove : (bare : FinMap nat_cmp X) (more next : FinMap nat_cmp Y) (k : ℕ)
      → ((j : ℕ) → eq_by_cmp nat_cmp j k ≡ false → get next j ≡ get more j) →
      over change (remove bare k) next ≡ remove (over change bare more) k
  over-remove bare more next k others =
      same_map nat_cmp_total nat_cmp-IsAntisymmetric _ _ (λ j. get-over (remove bare k) next j
      ∙ ap (option_map (change (get next j))) (get-remove nat_cmp_total bare k j)
      ∙ at j (eq_by_cmp nat_cmp j k) refl ∙ sym (get-remove nat_cmp_total (over change bare more) k
      j))
    where
      at : (j : ℕ) (b : Bool) → eq_by_cmp nat_cmp j k ≡ b
          → option_map (change (get next j)) (cond (eq_by_cmp nat_cmp j k) None (get bare j))
          ≡ cond (eq_by_cmp nat_cmp j k) None (get (over change bare more) j)
      at j true e = ap (λ b. option_map (change (get next j)) (cond b None (get bare j))) e
          ∙ sym (ap (λ b. cond b None (get (over change bare more) j)) e)
      at j false e = ap (λ b. option_map (change (get next j)) (cond b None (get bare j))) e
          ∙ ap (λ o. option_map (change o) (get bare j)) (others j e) ∙ sym (get-over bare more j)
          ∙ sym (ap (λ b. cond b None (get (over change bare more) j)) e)
