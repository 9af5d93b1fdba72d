-- The map of rows that lie at the places of their ids.
use Rattle.std.specs.Prelude.{ℕ, suc, List, [], ◌∷◌, Option}
use Rattle.std.specs.Ordering.{nat_cmp}
use Rattle.std.specs.FinMap.{FinMap, empty}
use Rattle.model.specs.Content.{VersionRow}
use Rattle.store.specs.Maps.{set}
use Rattle.store.specs.declared.versions.Versions.{Versions}

-- The rows at these places by their ids. The first place is that of the id `n`.
unfoldable pub rows_from : {X : Type 0} → ℕ → List (Option X) → FinMap nat_cmp X
rows_from n [] = empty
rows_from n (o ∷ os) = set (rows_from (suc n) os) n o

abbrev pub rows_of : Versions → FinMap nat_cmp VersionRow
rows_of v = rows_from 0 v.rows.items
