-- Members of a list that was mapped and filtered.
use Rattle.std.proofs.Common.{◌≡◌, refl, List, [], ◌∷◌, Option, Some, None, inl, inr, ap, subst, sym, ◌∙◌}
use Rattle.std.specs.List.{cons_option, filter_map}
use Rattle.sqlite_rules.specs.Lists.{Has}

module _ {X Y : Type 0} (h : X → Option Y) where
  pub has_filter_mapped : (xs : List X) (x : X) (y : Y) → Has xs x → h x ≡ Some y
      → Has (filter_map h xs) y
  has_filter_mapped [] x y at is = absurd at
  has_filter_mapped (z ∷ zs) x y (inl same) is =
      subst (λ o. Has (cons_option o (filter_map h zs)) y) (sym (ap h (sym same) ∙ is)) (inl refl)
  has_filter_mapped (z ∷ zs) x y (inr at) is = later (h z) (has_filter_mapped zs x y at is)
    where
      later : (o : Option Y) → Has (filter_map h zs) y → Has (cons_option o (filter_map h zs)) y
      later None at = at
      later (Some w) at = inr at

  pub from_filter_mapped : (xs : List X) (y : Y) → Has (filter_map h xs) y → (x : X) × Has xs x
      × (h x ≡ Some y)
  from_filter_mapped [] y at = absurd at
  from_filter_mapped (z ∷ zs) y at = by_cases (h z) refl at (from_filter_mapped zs y)
    where
      by_cases : (o : Option Y) → h z ≡ o → Has (cons_option o (filter_map h zs)) y
          → (Has (filter_map h zs) y → (x : X) × Has zs x × (h x ≡ Some y))
          → (x : X) × Has (z ∷ zs) x × (h x ≡ Some y)
      by_cases None is at more = let x = more at in (x.0, inr x.1, x.2)
      by_cases (Some w) is (inl same) more = (z, inl refl, is ∙ ap Some (sym same))
      by_cases (Some w) is (inr at) more = let x = more at in (x.0, inr x.1, x.2)
