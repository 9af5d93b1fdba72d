-- The answer of a query of one table with a test.
use Rattle.std.proofs.Common.{◌≡◌, ℕ, List, [], ◌∷◌, ◌++◌, filter, map, Bool, true, false, cond, refl, sym, ap, subst, ◌∙◌}
use Rattle.std.specs.List.{flat_map}
use Rattle.std.specs.List.Sorted.{IsPermutation}
use Rattle.std.proofs.lemmas.List.Sorted.{IsPermutation-map}
use Rattle.sqlite.specs.Order.{Row}
use Rattle.sqlite.specs.Tree.{Trees}
use Rattle.sqlite.specs.Term.{Term, eval_all}
use Rattle.sqlite.specs.Query.{IsAnswer, output, Output}
use Rattle.sql_rows.specs.Statements.{plain_query}
pub use Rattle.sql_rows.specs.Written.{passes}

pub picked : {X Y : Type 0} (p : X → Bool) (f : X → Y) (xs : List X)
    → flat_map (λ x. cond (p x) (f x ∷ []) []) xs ≡ map f (filter p xs)
picked p f [] = refl
picked p f (x ∷ xs) = by_cases (p x) (picked p f xs)
  where
    by_cases : (b : Bool) → flat_map (λ x. cond (p x) (f x ∷ []) []) xs ≡ map f (filter p xs)
        → cond b (f x ∷ []) [] ++ flat_map (λ x. cond (p x) (f x ∷ []) []) xs
        ≡ map f (cond b (x ∷ filter p xs) (filter p xs))
    by_cases true more = ap (λ l. f x ∷ l) more
    by_cases false more = more

pub map_twice : {X Y Z : Type 0} (g : Y → Z) (f : X → Y) (xs : List X)
    → map g (map f xs) ≡ map (λ x. g (f x)) xs
map_twice g f [] = refl
map_twice g f (x ∷ xs) = ap (λ l. g (f x) ∷ l) (map_twice g f xs)

module _ (tree : ℕ) (test shown : List Term) (db : Trees) (params : Row) where
  pub plain_answer : (rows : List Row) → IsAnswer (plain_query tree test shown) db params rows
      → IsPermutation (map (λ r. eval_all shown (params ∷ r ∷ []))
      (filter (passes test params) (db tree))) rows
  plain_answer rows a =
      let q = plain_query tree test shown in
      let staged : a.staged ≡ map (λ r. params ∷ r ∷ []) (filter (passes test params) (db tree)) =
      a.grouped ∙ picked (passes test params) (λ r. params ∷ r ∷ []) (db tree) in
      let kept : a.kept ≡ map (λ r. output q (params ∷ r ∷ []))
      (filter (passes test params) (db tree)) = a.distinct ∙ ap (map (output q)) staged
      ∙ map_twice (output q) (λ r. params ∷ r ∷ []) _ in
      let shows : map (λ (o : Output). o.1) a.kept ≡ map (λ r. eval_all shown (params ∷ r ∷ []))
      (filter (passes test params) (db tree)) =
      ap (map (λ (o : Output). o.1)) kept ∙ map_twice (λ (o : Output). o.1) _ _ in
      subst (λ l. IsPermutation l rows) shows
      (subst (IsPermutation (map (λ (o : Output). o.1) a.kept)) (sym a.shown)
      (IsPermutation-map (λ (o : Output). o.1) _ _ a.same))
