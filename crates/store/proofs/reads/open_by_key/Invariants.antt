use Rattle.std.proofs.Common.{◌≡◌, None}
use Rattle.model.specs.Content.{BroadcastKey}
use Rattle.settle.specs.Changes.{put_rows, same_broadcast}
use Rattle.store.proofs.OpenListed.{listed_so_far, open_rows, rows_in}
use Rattle.store.proofs.reads.open_by_key.Given as goal

abbrev pub invariant-loop-id : goal.invariant-loop-id
invariant-loop-id l = (k : BroadcastKey) → listed_so_far l.id-iterator l.ordered k
    ≡ put_rows same_broadcast (open_rows (rows_in l.broadcasts.entries)) k None
