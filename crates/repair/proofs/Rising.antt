-- No two of ascending rows are at one place.
use Rattle.std.proofs.Common.{◌≡◌, ◌∙◌, ◌<◌, ◌+◌, ◌-◌, ℕ, zero, suc, List, length, get_or, Ordering, Less, Equal, ap, arith, sym, subst}
use Rattle.std.specs.Prelude.{◌≢◌}
use Rattle.std.specs.Ordering.{nat_cmp}
use Rattle.std.specs.Cmp.Lexicographic.{slice_cmp}
use Rattle.std.proofs.lemmas.Cmp.{nat_list_cmp_total, tied_itself}
use Rattle.repair.specs.Entries.{Entry, place}
use Rattle.repair.specs.Order.{AreAscending}

abbrev pub is_before : Entry → Entry → Ordering
is_before a b = slice_cmp nat_cmp (place a) (place b)

apart : (a b : Entry) → is_before a b ≡ Less → place a ≢ place b
apart a b less same =
    let equal : is_before a b ≡ Equal =
    ap (slice_cmp nat_cmp (place a)) (sym same) ∙ tied_itself nat_list_cmp_total (place a) in
    cc

module _ (es : List Entry) (rise : AreAscending es) (d : Entry) where
  later : (gap k : ℕ) → k + gap + 1 < length es
      → is_before (get_or es k d) (get_or es (k + gap + 1) d) ≡ Less
  later zero k within =
      subst (λ n. is_before (get_or es k d) (get_or es n d) ≡ Less)
      (let e : k + 1 ≡ k + 0 + 1 = omega arith in e) (rise k d (omega (arith, within)))
  later (suc gap) k within =
      nat_list_cmp_total.trans (place (get_or es k d)) (place (get_or es (k + gap + 1) d))
      (place (get_or es (k + suc gap + 1) d)) (later gap k (omega arith))
      (subst (λ n. is_before (get_or es (k + gap + 1) d) (get_or es n d) ≡ Less)
      (let e : k + gap + 1 + 1 ≡ k + suc gap + 1 = omega arith in e)
      (rise (k + gap + 1) d (omega arith)))

  pub differs : (k i : ℕ) → k < i → i < length es → place (get_or es k d) ≢ place (get_or es i d)
  differs k i less within =
      let sum : k + (i - k - 1) + 1 ≡ i = omega arith in
      apart (get_or es k d) (get_or es i d)
      (subst (λ n. is_before (get_or es k d) (get_or es n d) ≡ Less) sum
      (later (i - k - 1) k (omega arith)))
