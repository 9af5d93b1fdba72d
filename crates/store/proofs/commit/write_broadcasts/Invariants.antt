use Rattle.std.proofs.Common.{◌≤◌, ◌+◌, drop, length}
use Rattle.std.specs.FinMap.{FinMap}
use Rattle.std.specs.HashMap.{spare}
use Rattle.model.specs.Content.{BroadcastRow, broadcast_cmp}
use Rattle.store.specs.BroadcastRows.{broadcasts_of, AreBroadcastsPut}
use Rattle.store.proofs.commit.write_broadcasts.Given as goal

-- Writing the rest writes all of them, and there is room for the rest.
abbrev pub invariant-loop-key : goal.invariant-loop-key
invariant-loop-key l = record {
  written : (last : FinMap broadcast_cmp BroadcastRow)
      → AreBroadcastsPut (drop l.key-index l.broadcasts) (broadcasts_of l.table) last
      → AreBroadcastsPut l.broadcasts (broadcasts_of l.initial.table) last;
  room : length l.broadcasts ≤ spare l.table + l.key-index;
}
