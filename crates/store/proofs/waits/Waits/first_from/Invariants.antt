use Rattle.std.specs.List.Sorted.{IsStrictlySortedBy}
use Rattle.std.specs.Map.{keys_of}
use Rattle.std.specs.Ordering.{on}
use Rattle.store.specs.QueueRows.{queue_key_of}
use Rattle.store.specs.WaitRows.{download_cmp}
use Rattle.store.proofs.QueueListed.{HasAll}
use Rattle.store.proofs.waits.Waits.first_from.Given as goal

abbrev pub invariant-loop-key : goal.invariant-loop-key
invariant-loop-key l = HasAll l.fn.self l.carrier.number l.key-iterator
    × IsStrictlySortedBy (on queue_key_of download_cmp) (keys_of l.key-iterator)
