-- What a map has at a key after one row is written.
use Rattle.std.proofs.Common.{◌≡◌, ◌∙◌, Bool, true, false, if◌then◌else◌, Option, Some, ap, refl, sym, inl, inr}
use Rattle.std.specs.Prelude.{◌≢◌, ◌⊎◌, ◌==◌}
use Rattle.numbers.proofs.Small.{and_both, equal_number, same_number, some_is, true_both}
use Rattle.model.specs.Content.{broadcast_key, wait_key}
use Rattle.settle.specs.Changes.{same_broadcast, same_wait}

-- Holds if the test finds equal keys.
pub record IsSame {K : Type 0} (same : K → K → Bool) : Type 0 where
  pub itself : (a : K) → same a a ≡ true
  pub right : (a b : K) → same a b ≡ true → a ≡ b

pub same_numbers : IsSame ◌==◌
same_numbers = record { itself = same_number; right = equal_number }

pub same_broadcasts : IsSame same_broadcast
same_broadcasts = record {
  itself = λ a. true_both (a.id == a.id) (a.attempt == a.attempt) (same_number a.id)
      (same_number a.attempt);
  right = λ a b e.
      let both = and_both (a.id == b.id) (a.attempt == b.attempt) e in
      λ i. broadcast_key (equal_number a.id b.id both.0 i)
      (equal_number a.attempt b.attempt both.1 i);
}

pub same_waits : IsSame same_wait
same_waits = record {
  itself = λ a. true_both _ _ (true_both _ _ (true_both _ _ (same_number a.carrier)
      (same_number a.minute)) (same_number a.id)) (same_number a.attempt);
  right = λ a b e.
      let last = and_both _ (a.attempt == b.attempt) e in
      let third = and_both _ (a.id == b.id) last.0 in
      let first = and_both (a.carrier == b.carrier) (a.minute == b.minute) third.0 in
      λ i. wait_key (equal_number a.carrier b.carrier first.0 i)
      (equal_number a.minute b.minute first.1 i) (equal_number a.id b.id third.1 i)
      (equal_number a.attempt b.attempt last.1 i);
}

module _ {K V : Type 0} {same : K → K → Bool} (is : IsSame same) where
  abbrev at_key : K → V → K → Option V → Option V
  at_key j u k before = if same j k then Some u else before

  pub put_here : (j : K) (u : V) (before now : Option V) → now ≡ at_key j u j before
      → now ≡ Some u
  put_here j u before now e = e ∙ ap (λ b. if b then Some u else before) (is.itself j)

  pub put_kept : (j : K) (u : V) (k : K) (v : V) (before now : Option V)
      → now ≡ at_key j u k before → k ≢ j → before ≡ Some v → now ≡ Some v
  put_kept j u k v before now e differ h = by_cases (same j k) refl
    where
      by_cases : (b : Bool) → same j k ≡ b → now ≡ Some v
      by_cases true is_same = absurd (differ (sym (is.right j k is_same)))
      by_cases false other = e ∙ ap (λ b. if b then Some u else before) other ∙ h

  pub put_only : (j : K) (u : V) (k : K) (v : V) (before now : Option V)
      → now ≡ at_key j u k before → now ≡ Some v → (before ≡ Some v) ⊎ ((j ≡ k) × (u ≡ v))
  put_only j u k v before now e h = by_cases (same j k) refl
    where
      by_cases : (b : Bool) → same j k ≡ b → (before ≡ Some v) ⊎ ((j ≡ k) × (u ≡ v))
      by_cases true is_same = inr (
        is.right j k is_same,
        some_is u v (sym (e ∙ ap (λ b. if b then Some u else before) is_same) ∙ h),
      )
      by_cases false other =
          inl (sym (e ∙ ap (λ b. if b then Some u else before) other) ∙ h)

  -- Writing a row again changes nothing.
  pub put_again : (at : K → Option V) (j : K) (u : V) → at j ≡ Some u → (k : K) (now : Option V)
      → now ≡ at_key j u k (at k) → now ≡ at k
  put_again at j u there k now e = by_cases (same j k) refl
    where
      by_cases : (b : Bool) → same j k ≡ b → now ≡ at k
      by_cases true is_same =
          e ∙ ap (λ b. if b then Some u else at k) is_same ∙ sym there
          ∙ ap at (is.right j k is_same)
      by_cases false other = e ∙ ap (λ b. if b then Some u else at k) other
