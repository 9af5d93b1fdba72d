-- A map with its values changed by those of another map, key by key.
use Rattle.std.specs.Prelude.{ℕ, map, Option}
use Rattle.std.specs.Ordering.{nat_cmp}
use Rattle.std.specs.FinMap.{FinMap, get, entries, from_entries}

abbrev pub over : {X Y : Type 0} → (Option Y → X → X) → FinMap nat_cmp X → FinMap nat_cmp Y
    → FinMap nat_cmp X
over {X} change bare more =
    from_entries (map (λ (e : ℕ × X). (e.0, change (get more e.0) e.1)) (entries bare))
