use Rattle.std.proofs.Common.{take}
use Rattle.store.proofs.QueueOrder.{AreSorted}
use Rattle.store.proofs.queue_order.QueueOrder.sort.Given as goal

-- The recent keys so far are in their places.
abbrev pub invariant-loop-key : goal.invariant-loop-key
invariant-loop-key l =
    AreSorted l.fn.self.sorted l.self.1.0 (take l.key-index l.fn.self.recent.items)
