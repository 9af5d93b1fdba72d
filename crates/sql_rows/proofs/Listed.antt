-- The items of a query's answer, and the rows of its table.
use Rattle.std.proofs.Common.{◌≡◌, List, [], ◌∷◌, map, filter, Bool, true, Option, Some, inl, inr, refl, sym, ap, ◌∙◌}
use Rattle.std.specs.List.Sorted.{IsPermutation}
use Rattle.std.proofs.lemmas.List.Sorted.{IsPermutation-sym}
use Rattle.sqlite.specs.Order.{Row}
use Rattle.sqlite_rules.specs.Lists.{Has}
use Rattle.sqlite_rules.proofs.ListLemmas.{has_filtered, has_kept}
use Rattle.sql_rows.specs.Found.{AreRead}
use Rattle.sql_rows.proofs.DueLemmas.{has_permuted}
use Rattle.sql_rows.proofs.RowLemmas.{same_first, same_rest}
use Rattle.numbers.proofs.Small.{some_is}

-- Holds if the items are the rows of the table that pass the test, as they read.
pub record Lists {T X : Type 0} (seen : T → X) (entry : Row → Option X) (p : Row
    → Bool) (rows : List Row) (items : List T) : Type 0 where
  pub only : (x : T) → Has items x → (r : Row) × Has rows r × (p r ≡ true)
      × (entry r ≡ Some (seen x))
  pub each : (r : Row) (e : X) → Has rows r → p r ≡ true → entry r ≡ Some e → (x : T) × Has items x
      × (seen x ≡ e)

pub has_mapped : {A B : Type 0} (f : A → B) (xs : List A) (x : A) → Has xs x → Has (map f xs) (f x)
has_mapped f [] x at = at
has_mapped f (y ∷ ys) x (inl same) = inl (ap f same)
has_mapped f (y ∷ ys) x (inr at) = inr (has_mapped f ys x at)

pub from_mapped : {A B : Type 0} (f : A → B) (xs : List A) (y : B) → Has (map f xs) y
    → (x : A) × Has xs x × (y ≡ f x)
from_mapped f [] y at = absurd at
from_mapped f (x ∷ xs) y (inl same) = (x, inl refl, same)
from_mapped f (x ∷ xs) y (inr at) = let more = from_mapped f xs y at in (more.0, inr more.1, more.2)

module _ {T X : Type 0} (seen : T → X) (read : Row → Option X) where
  -- Each item was read from a row.
  pub read_from : (rows : List Row) (items : List T) → AreRead read rows (map seen items) → (x : T)
      → Has items x → (f : Row) × Has rows f × (read f ≡ Some (seen x))
  read_from [] [] e x at = absurd at
  read_from [] (y ∷ ys) e x at = absurd cc
  read_from (f ∷ fs) [] e x at = absurd at
  read_from (f ∷ fs) (y ∷ ys) e x (inl same) =
      (f, inl refl, same_first e ∙ ap (λ z. Some (seen z)) (sym same))
  read_from (f ∷ fs) (y ∷ ys) e x (inr at) = let more = read_from fs ys (same_rest e) x at in
      (more.0, inr more.1, more.2)

  -- Each row that reads has its item.
  pub read_as : (rows : List Row) (items : List T) → AreRead read rows (map seen items)
      → (f : Row) (e : X) → Has rows f → read f ≡ Some e → (x : T) × Has items x × (seen x ≡ e)
  read_as [] items are f e at is = absurd at
  read_as (g ∷ gs) [] are f e at is = absurd cc
  read_as (g ∷ gs) (y ∷ ys) are f e (inl same) is = (
    y,
    inl refl,
    some_is (seen y) e (sym (same_first are) ∙ ap read (sym same) ∙ is),
  )
  read_as (g ∷ gs) (y ∷ ys) are f e (inr at) is = let more =
      read_as gs ys (same_rest are) f e at is in (more.0, inr more.1, more.2)

  pub listed : (shown : Row → Row) (p : Row → Bool) (rows found : List Row) (items : List T)
      → IsPermutation (map shown (filter p rows)) found → AreRead read found (map seen items)
      → Lists seen (λ r. read (shown r)) p rows items
  listed shown p rows found items same are = record {
    only = λ x at.
        let f = read_from found items are x at in
        let m = from_mapped shown (filter p rows) f.0
        (has_permuted found (map shown (filter p rows)) f.0
        (IsPermutation-sym (map shown (filter p rows)) found same) f.1) in
        let r = has_filtered p rows m.0 m.1 in
        (m.0, r.0, r.1, ap read (sym m.2) ∙ f.2);
    each = λ r e at passes is. read_as found items are (shown r) e
        (has_permuted (map shown (filter p rows)) found (shown r) same
        (has_mapped shown (filter p rows) r (has_kept p rows r at passes))) is;
  }
