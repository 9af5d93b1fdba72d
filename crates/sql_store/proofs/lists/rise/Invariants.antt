use Rattle.std.proofs.Common.{◌≡◌, ℕ, ◌+◌, ◌<◌, ◌-◌, length, slice_index_or, Less}
use Rattle.delivery.specs.declared.broadcast.Broadcast.{Broadcast}
use Rattle.model.specs.Content.{broadcast_cmp}
use Rattle.settle.specs.Abstraction.{broadcast_key_of}
use Rattle.settle.specs.declared.rows.BroadcastKey.{BroadcastKey}
use Rattle.sql_store.proofs.lists.rise.Given as goal

-- Each broadcast so far has a lower key than the next.
abbrev pub invariant-loop-at : goal.invariant-loop-at
invariant-loop-at l = (0 < l.at) × ((k : ℕ) (d : BroadcastKey × Broadcast) → k + 1 < l.at
    → broadcast_cmp (broadcast_key_of (slice_index_or l.broadcasts k d).0)
    (broadcast_key_of (slice_index_or l.broadcasts (k + 1) d).0) ≡ Less)

abbrev pub decreases-loop-at : goal.decreases-loop-at
decreases-loop-at l = length l.broadcasts - l.at
