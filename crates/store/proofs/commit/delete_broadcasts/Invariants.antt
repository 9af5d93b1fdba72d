use Rattle.std.proofs.Common.{drop}
use Rattle.std.specs.FinMap.{FinMap}
use Rattle.model.specs.Content.{BroadcastRow, broadcast_cmp}
use Rattle.store.specs.BroadcastRows.{broadcasts_of, AreBroadcastsDeleted}
use Rattle.store.proofs.commit.delete_broadcasts.Given as goal

-- Deleting the rest deletes all of them.
abbrev pub invariant-loop-key : goal.invariant-loop-key
invariant-loop-key l = (last : FinMap broadcast_cmp BroadcastRow)
    → AreBroadcastsDeleted (drop l.key-index l.keys) (broadcasts_of l.table) last
    → AreBroadcastsDeleted l.keys (broadcasts_of l.initial.table) last
