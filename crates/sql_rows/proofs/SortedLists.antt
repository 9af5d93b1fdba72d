-- Ascending lists with the same members are equal; a finite map's entries are such a list.
use Rattle.std.proofs.Common.{◌≡◌, List, [], ◌∷◌, Bool, true, false, cond, Some, inl, inr, refl, sym, ap, ◌∙◌, true≢false, Less, Equal, Greater}
use Rattle.std.specs.Prelude.{◌⊎◌}
use Rattle.std.specs.declared.cmp.Ordering.{Ordering}
use Rattle.std.specs.Ordering.{eq_by_cmp, is_eq, is_lt, ordering_reverse}
use Rattle.std.specs.Cmp.{IsTotalOrder, tied_itself}
use Rattle.std.specs.List.{AllByRecursion}
use Rattle.std.specs.List.Sorted.{IsStrictlySortedBy}
use Rattle.std.specs.FinMap.{FinMap, get, entries, entries_sorted, get-entries, find, is_sorted, IsAntisymmetric}
use Rattle.std.specs.FinMap.Entries.{below_all}
use Rattle.sqlite_rules.specs.Lists.{Has}
use Rattle.sqlite_rules.proofs.ListLemmas.{all_has}
use Rattle.numbers.proofs.Small.{tied}
use Rattle.numbers.proofs.Small.{truth, and_both}

module _ {X : Type 0} (c : X → X → Ordering) (never : (x y : X) → c x y ≡ Less → c y x ≡ Less
    → ⊥) where
  head_of : (x : X) (xs : List X) → IsStrictlySortedBy c (x ∷ xs) → (y : X) → Has xs y
      → c x y ≡ Less
  unfolding IsStrictlySortedBy
  head_of x xs up y at = all_has (λ y. c x y ≡ Less) xs y up.0 at

  tail_of : (x : X) (xs : List X) → IsStrictlySortedBy c (x ∷ xs) → IsStrictlySortedBy c xs
  unfolding IsStrictlySortedBy
  tail_of x xs up = up.1

  pub same_sorted : (xs ys : List X) → IsStrictlySortedBy c xs → IsStrictlySortedBy c ys
      → ((x : X) → Has xs x → Has ys x) → ((x : X) → Has ys x → Has xs x) → xs ≡ ys
  same_sorted [] [] up high there back = refl
  same_sorted [] (y ∷ ys) up high there back = absurd (back y (inl refl))
  same_sorted (x ∷ xs) [] up high there back = absurd (there x (inl refl))
  same_sorted (x ∷ xs) (y ∷ ys) up high there back =
      by_cases (λ one two. same_sorted xs ys (tail_of x xs up) (tail_of y ys high) one two)
      (there x (inl refl)) (back y (inl refl))
    where
      later : (zs : List X) (r h : X) → (r ≡ h) ⊎ Has zs r → (r ≡ h → ⊥) → Has zs r
      later zs r h (inl f) apart = absurd (apart f)
      later zs r h (inr is) apart = is

      not_head : (h : X) (zs : List X) → IsStrictlySortedBy c (h ∷ zs) → (r : X) → Has zs r → r ≡ h
          → ⊥
      not_head h zs rise r is f = let less : c h h ≡ Less =
          ap (c h) (sym f) ∙ head_of h zs rise r is in never h h less less

      same_head : (((r : X) → Has xs r → Has ys r) → ((r : X) → Has ys r → Has xs r) → xs ≡ ys)
          → x ≡ y → x ∷ xs ≡ y ∷ ys
      same_head rest e =
          ap (λ h. h ∷ xs) e ∙ ap (λ zs. y ∷ zs) (rest
          (λ r is. later ys r y (there r (inr is)) (λ f. not_head x xs up r is (f ∙ sym e)))
          (λ r is. later xs r x (back r (inr is)) (λ f. not_head y ys high r is (f ∙ e))))

      by_cases : (((r : X) → Has xs r → Has ys r) → ((r : X) → Has ys r → Has xs r) → xs ≡ ys)
          → (x ≡ y) ⊎ Has ys x → (y ≡ x) ⊎ Has xs y → x ∷ xs ≡ y ∷ ys
      by_cases rest (inl e) other = same_head rest e
      by_cases rest (inr is) (inl e) = same_head rest (sym e)
      by_cases rest (inr is) (inr also) =
          absurd (never x y (head_of x xs up y also) (head_of y ys high x is))

less_of : (o : Ordering) → is_lt o ≡ true → o ≡ Less
less_of Less e = refl
less_of Equal e = absurd (true≢false (sym e))
less_of Greater e = absurd (true≢false (sym e))

greater_not : (o : Ordering) → o ≡ Less → ordering_reverse o ≡ Less → ⊥
greater_not Less e f = let no : Greater ≡ Less = f in absurd cc
greater_not Equal e f = let no : Equal ≡ Less = e in absurd cc
greater_not Greater e f = let no : Greater ≡ Less = e in absurd cc

module _ {K V : Type 0} {R : K → K → Ordering} (o : IsTotalOrder R)
    (exact : IsAntisymmetric R) where
  abbrev pub by_key : K × V → K × V → Ordering
  by_key a b = R a.0 b.0

  pub never_both : (a b : K × V) → by_key a b ≡ Less → by_key b a ≡ Less → ⊥
  never_both a b up down = greater_not (R a.0 b.0) up (sym (o.antisymm b.0 a.0) ∙ down)

  above : (k : K) (es : List (K × V)) → below_all R k es ≡ true
      → AllByRecursion (λ e. R k e.0 ≡ Less) es
  above k [] h = tt
  above k (e ∷ es) h = let both = and_both (is_lt (R k e.0)) (below_all R k es) h in
      (less_of _ both.0, above k es both.1)

  sorted : (es : List (K × V)) → is_sorted R es ≡ true → IsStrictlySortedBy by_key es
  unfolding IsStrictlySortedBy
  sorted [] h = tt
  sorted (e ∷ es) h = let both = and_both (below_all R e.0 es) (is_sorted R es) h in
      (above e.0 es both.0, sorted es both.1)

  pub entries_rise : (m : FinMap R V) → IsStrictlySortedBy by_key (entries m)
  entries_rise m = sorted (entries m) (truth _ (entries_sorted m))

  find_has : (k : K) (v : V) (es : List (K × V)) → find R k es ≡ Some v → Has es (k, v)
  find_has k v [] h = absurd cc
  find_has k v (e ∷ es) h = by_cases (eq_by_cmp R k e.0) refl h (λ f. find_has k v es f)
    where
      by_cases : (b : Bool) → eq_by_cmp R k e.0 ≡ b → cond b (Some e.1) (find R k es) ≡ Some v
          → (find R k es ≡ Some v → Has es (k, v)) → Has (e ∷ es) (k, v)
      by_cases true t h more =
          let key : k ≡ e.0 = exact k e.0 (tied (R k e.0) t) in
          let value : e.1 ≡ v = cc in
          inl (ap (λ x. (x, v)) key ∙ ap (λ x. (e.0, x)) (sym value))
      by_cases false t h more = inr (more h)

  pub entry_has : (m : FinMap R V) (k : K) (v : V) → get m k ≡ Some v → Has (entries m) (k, v)
  entry_has m k v h = find_has k v (entries m) (sym (get-entries m k) ∙ h)

  has_find : (k : K) (v : V) (es : List (K × V)) → IsStrictlySortedBy by_key es → Has es (k, v)
      → find R k es ≡ Some v
  has_find k v [] up at = absurd at
  has_find k v (e ∷ es) up (inl same) =
      let key : eq_by_cmp R k e.0 ≡ true = ap (λ (f : K × V). eq_by_cmp R k f.0) (sym same)
      ∙ ap is_eq (tied_itself o k) in
      rw key (ap (λ (f : K × V). Some f.1) (sym same))
  has_find k v (e ∷ es) up (inr at) =
      let less : R e.0 k ≡ Less = head_of by_key never_both e es up (k, v) at in
      let key : eq_by_cmp R k e.0 ≡ false =
      ap is_eq (o.antisymm k e.0 ∙ ap ordering_reverse less) in
      rw key (has_find k v es (tail_of by_key never_both e es up) at)

  pub has_entry : (m : FinMap R V) (k : K) (v : V) → Has (entries m) (k, v) → get m k ≡ Some v
  has_entry m k v at = get-entries m k ∙ has_find k v (entries m) (entries_rise m) at
