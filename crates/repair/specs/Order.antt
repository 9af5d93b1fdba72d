-- The order of rows.
use Rattle.std.specs.Prelude.{◌≡◌, ℕ, ◌<◌, ◌+◌, List, length, slice_index_or}
use Rattle.std.specs.Ordering.{nat_cmp}
use Rattle.std.specs.Cmp.Lexicographic.{slice_cmp}
use Rattle.std.specs.declared.cmp.Ordering.TheVariants.{Less}
use Rattle.repair.specs.Entries.{Entry, place}

-- Holds if each row is before the next one, by table and then by key.
abbrev pub AreAscending : List Entry → Type 0
AreAscending es = (k : ℕ) (d : Entry) → k + 1 < length es
    → slice_cmp nat_cmp (place (slice_index_or es k d)) (place (slice_index_or es (k + 1) d)) ≡ Less
