-- Lists that ascend by a number of each member, which no other member has.
use Rattle.std.proofs.Common.{◌≡◌, ℕ, ◌<◌, inl, inr, List, [], ◌∷◌, map, refl, ap, sym, ◌∙◌, subst, arith}
use Rattle.std.specs.Prelude.{⊤, ◌⊎◌}
use Rattle.std.specs.declared.cmp.Ordering.TheVariants.{Less}
use Rattle.std.specs.List.{AllByRecursion}
use Rattle.std.specs.List.Sorted.{IsStrictlySortedBy}
use Rattle.std.specs.Ordering.{nat_cmp, on}
use Rattle.std.proofs.lemmas.Bool.Decides.{nat_tests}
use Rattle.model.proofs.Lists.{Among}

module _ {A : Type 0} (key : A → ℕ) where
  abbrev pub AreAbove : ℕ → List A → Type 0
  AreAbove k [] = ⊤
  AreAbove k (r ∷ rs) = (k < key r) × AreAbove k rs

  abbrev pub Rise : List A → Type 0
  Rise [] = ⊤
  Rise (r ∷ rs) = AreAbove (key r) rs × Rise rs

  pub above_each : (k : ℕ) (rs : List A) (r : A) → AreAbove k rs → Among r rs → k < key r
  above_each k [] r above is = absurd is
  above_each k (q ∷ qs) r above (inl is) = subst (λ (x : A). k < key x) (sym is) above.0
  above_each k (q ∷ qs) r above (inr is) = above_each k qs r above.1 is

  pub all_above : (k : ℕ) (rs : List A) → ((r : A) → Among r rs → k < key r) → AreAbove k rs
  all_above k [] each = tt
  all_above k (r ∷ rs) each = (each r (inl refl), all_above k rs (λ q is. each q (inr is)))

  -- Two ascending lists with the same members are equal.
  pub same_rising : (xs ys : List A) → Rise xs → Rise ys → ((r : A) → Among r xs → Among r ys)
      → ((r : A) → Among r ys → Among r xs) → xs ≡ ys
  same_rising [] [] rise sises there back = refl
  same_rising [] (y ∷ ys) rise sises there back = absurd (back y (inl refl))
  same_rising (x ∷ xs) [] rise sises there back = absurd (there x (inl refl))
  same_rising (x ∷ xs) (y ∷ ys) rise sises there back =
      by_cases (λ one two. same_rising xs ys rise.1 sises.1 one two) (there x (inl refl))
      (back y (inl refl))
    where
      below : (h : A) (zs : List A) (r : A) → AreAbove (key h) zs → Among r zs → r ≡ h → ⊥
      below h zs r above is f = let lt : key h < key r = above_each (key h) zs r above is in
          let same : key r ≡ key h = ap key f in absurd (omega (arith, lt, same))

      tail_of : (zs : List A) (r h : A) → (r ≡ h) ⊎ Among r zs → (r ≡ h → ⊥) → Among r zs
      tail_of zs r h (inl f) never = absurd (never f)
      tail_of zs r h (inr is) never = is

      same_head : (((r : A) → Among r xs → Among r ys) → ((r : A) → Among r ys → Among r xs)
          → xs ≡ ys) → x ≡ y → x ∷ xs ≡ y ∷ ys
      same_head rest e =
          ap (λ h. h ∷ xs) e ∙ ap (λ zs. y ∷ zs) (rest
          (λ r is. tail_of ys r y (there r (inr is)) (λ f. below x xs r rise.0 is (f ∙ sym e)))
          (λ r is. tail_of xs r x (back r (inr is)) (λ f. below y ys r sises.0 is (f ∙ e))))

      by_cases : (((r : A) → Among r xs → Among r ys) → ((r : A) → Among r ys → Among r xs)
          → xs ≡ ys)
          → (x ≡ y) ⊎ Among x ys → (y ≡ x) ⊎ Among y xs → x ∷ xs ≡ y ∷ ys
      by_cases rest (inl e) other = same_head rest e
      by_cases rest (inr is) (inl e) = same_head rest (sym e)
      by_cases rest (inr is) (inr also) =
          let one : key y < key x = above_each (key y) ys x sises.0 is in
          let two : key x < key y = above_each (key x) xs y rise.0 also in
          absurd (omega (arith, one, two))

  less-of : (a b : ℕ) → nat_cmp a b ≡ Less → a < b
  less-of a b e = grind (arith, nat_tests)

  -- A list sorted by the number ascends by it.
  pub sorted-rise : (xs : List A) → IsStrictlySortedBy (on key nat_cmp) xs → Rise xs
  unfolding IsStrictlySortedBy
  sorted-rise [] sorted = tt
  sorted-rise (x ∷ xs) sorted = (above xs sorted.0, sorted-rise xs sorted.1)
    where
      above : (ys : List A) → AllByRecursion (λ y. nat_cmp (key x) (key y) ≡ Less) ys
          → AreAbove (key x) ys
      above [] all = tt
      above (y ∷ ys) all = (less-of (key x) (key y) all.0, above ys all.1)

-- A list ascends by a number of what its members are mapped to once they are mapped.
pub mapped-rise : {A B : Type 0} (key : B → ℕ) (f : A → B) (xs : List A) → Rise (λ a. key (f a)) xs
    → Rise key (map f xs)
mapped-rise key f [] rise = tt
mapped-rise {A} key f (x ∷ xs) rise = (above xs rise.0, mapped-rise key f xs rise.1)
  where
    above : (ys : List A) → AreAbove (λ a. key (f a)) (key (f x)) ys
        → AreAbove key (key (f x)) (map f ys)
    above [] all = tt
    above (y ∷ ys) all = (all.0, above ys all.1)
