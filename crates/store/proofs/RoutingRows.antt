-- The routings of rows that are written and looked up.
use Rattle.std.proofs.Common.{◌≡◌, ◌≢◌, ◌<◌, ℕ, Bool, true, false, List, length, Option, Some, None, refl, ap, sym, ◌∙◌, subst, arith}
use Rattle.std.specs.Prelude.{◌==◌, IsSomeAnd, get_or, slice_set}
use Rattle.std.proofs.lemmas.Bool.Decides.{nat_tests}
use Rattle.std.proofs.lemmas.List.{get_or-set_same, get_or-set_other}
use Rattle.std.specs.Option.{unwrap_or}
use Rattle.numbers.specs.Routings.{Routing}
use Rattle.model.specs.Content.{VersionRow}
use Rattle.store.specs.PackedRows.{routing_at}
use Rattle.store.specs.Ranks.{subject_at}
use Rattle.store.specs.RoutingRows.{AreRoutings, IsRoutingOf, no_routing}
use Rattle.store.specs.ShortNumbers.{short_of}
use Rattle.store.specs.declared.keys.Rank.{Rank}
use Rattle.store.specs.declared.versions.PackedRouting.{PackedRouting}

-- What holds of a row and a routing, holds of those that are the same.
moved : (o p : Option VersionRow) (a b : PackedRouting) → o ≡ p → a ≡ b → IsRoutingOf o a
    → IsRoutingOf p b
moved o p a b rows routings is =
    subst (λ r. IsRoutingOf r b) rows (subst (λ q. IsRoutingOf o q) routings is)

module _ (rows : List (Option VersionRow)) (routings : List PackedRouting) (k : ℕ)
    (row : Option VersionRow) (are : AreRoutings rows routings) (inside : k < length rows) where
  -- A row and its routing are written.
  pub routing-written : (packed : PackedRouting) → IsRoutingOf row packed → k < length routings
      → AreRoutings (slice_set rows k row) (slice_set routings k packed)
  routing-written packed is there q = by_cases (k == q) refl
    where
      by_cases : (b : Bool) → (k == q) ≡ b → IsRoutingOf (get_or (slice_set rows k row) q None)
          (get_or (slice_set routings k packed) q no_routing)
      by_cases true e =
          let same : k ≡ q = grind (arith, nat_tests, e) in
          subst (λ j. IsRoutingOf (get_or (slice_set rows k row) j None)
          (get_or (slice_set routings k packed) j no_routing)) same
          (moved row _ packed _ (sym (get_or-set_same rows k row None inside))
          (sym (get_or-set_same routings k packed no_routing there)) is)
      by_cases false e =
          let other : q ≢ k = grind (arith, nat_tests, e) in
          moved _ _ _ _ (sym (get_or-set_other rows k q row None other))
          (sym (get_or-set_other routings k q packed no_routing other)) (are q)

-- The row of a routing that says it is in force has it.
pub routing-held : (o : Option VersionRow) (packed : PackedRouting) (rank : Rank)
    (routing : Option Routing) → IsRoutingOf o packed → packed.is_in_force ≡ true
    → packed.rank.number ≡ rank.number → routing ≡ routing_at (short_of packed.routing)
    → IsSomeAnd o (λ row. (row.holds ≡ Some (subject_at rank)) × (row.routing ≡ routing))
routing-held None packed rank routing is held same at =
    let no : None ≡ Some (Some (subject_at packed.rank)) = (is held).0 in cc
routing-held (Some row) packed rank routing is held same at = (
  ap (λ o. unwrap_or o None) (is held).0
      ∙ ap (λ n. Some (subject_at (record { number = n }))) same,
  ap (λ o. unwrap_or o None) (is held).1 ∙ sym at,
)
