use Rattle.std.proofs.Common.{◌≡◌, ℕ, ◌+◌, ◌<◌, ◌-◌, length, slice_index_or, Less}
use Rattle.std.specs.Ordering.{nat_cmp}
use Rattle.numbers.specs.Abstraction.{key_of}
use Rattle.delivery.specs.declared.mirror.RoutedRow.{RoutedRow}
use Rattle.sql_store.proofs.routed.rise.Given as goal

-- Each row so far has a lower subject than the next.
abbrev pub invariant-loop-at : goal.invariant-loop-at
invariant-loop-at l = (0 < l.at) × ((k : ℕ) (d : RoutedRow) → k + 1 < l.at
    → nat_cmp (key_of (slice_index_or l.rows k d).subject)
    (key_of (slice_index_or l.rows (k + 1) d).subject) ≡ Less)

abbrev pub decreases-loop-at : goal.decreases-loop-at
decreases-loop-at l = length l.rows - l.at
