use Rattle.std.proofs.Common.{◌≡◌, ◌≤◌, ◌++◌, map, length}
use Rattle.std.specs.List.{filter_map}
use Rattle.store.specs.BroadcastRows.{broadcasts_of}
use Rattle.store.specs.QueueRows.{sent_of, pending_at}
use Rattle.store.proofs.waits.Waits.front_from.Given as goal

abbrev pub invariant-loop-key : goal.invariant-loop-key
invariant-loop-key l =
    (map sent_of l.found.items
    ++ filter_map (λ e. pending_at l.fn.self (broadcasts_of l.broadcasts) l.carrier.number e.0)
    l.key-iterator
    ≡ filter_map (λ e. pending_at l.fn.self (broadcasts_of l.broadcasts) l.carrier.number e.0)
    l.initial.key-iterator)
    × (length l.found.items ≤ l.many)
