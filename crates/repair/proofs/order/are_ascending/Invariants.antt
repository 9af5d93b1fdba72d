use Rattle.std.proofs.Common.{ℕ, ◌≡◌, ◌+◌, ◌<◌, ◌≤◌, get_or, length}
use Rattle.std.specs.declared.cmp.Ordering.TheVariants.{Less}
use Rattle.repair.specs.Entries.{Entry}
use Rattle.repair.specs.Contents.{entries_of}
use Rattle.repair.proofs.Rising.{is_before}
use Rattle.repair.proofs.order.are_ascending.Given as goal

abbrev pub invariant-loop-i : goal.invariant-loop-i
invariant-loop-i l = record {
  first : 1 ≤ l.i;
  rise : (k : ℕ) (d : Entry) → k + 1 < l.i → k + 1 < length l.rows
      → is_before (get_or (entries_of l.rows) k d) (get_or (entries_of l.rows) (k + 1) d) ≡ Less;
}
