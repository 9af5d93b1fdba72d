-- The rows of broadcasts by their keys.
use Rattle.std.specs.Prelude.{◌≡◌, ◌==◌, ◌&&◌, ◌+◌, ◌*◌, ◌%◌, ◌^◌, ℕ, Bool, true, false, List, map, Option, Some, None, cond, option_map}
use Rattle.std.specs.Ordering.{on}
use Rattle.std.specs.BTreeMap as tree
use Rattle.std.specs.BTreeMap.{BTreeMap}
use Rattle.std.specs.HashMap.{HashMap}
use Rattle.std.specs.FinMap.{FinMap, from_entries, get}
use Rattle.model.specs.Content.{BroadcastKey, BroadcastRow, broadcast_cmp}
use Rattle.delivery.specs.declared.broadcast.Broadcast.{Broadcast}
use Rattle.settle.specs.Abstraction.{broadcast_key_of, broadcast_row_of}
use Rattle.settle.specs.Changes.{delete_rows, put_rows, same_broadcast}
use Rattle.settle.specs.declared.rows.BroadcastKey.{BroadcastKey as BroadcastKeyImpl}
use Rattle.store.specs.Maps.{seen_entries}
use Rattle.store.specs.PackedRows.{subject_in, routing_at}
use Rattle.store.specs.ShortNumbers.{short_of}
use Rattle.store.specs.declared.keys.BroadcastId.{BroadcastId}
use Rattle.store.specs.declared.packed_broadcast.PackedBroadcast.{PackedBroadcast}
use Rattle.store.specs.declared.packed_broadcast.Progress.{Progress}
use Rattle.store.specs.declared.packed_broadcast.Progress.TheVariants.{Unanswered, Answered, ClosedUnanswered, ClosedAnswered}

abbrev pub broadcast_id_of : BroadcastId → BroadcastKey
broadcast_id_of k = record { id = k.id; attempt = k.attempt }

-- One number of a broadcast, to be hashed.
abbrev pub mixed : (id attempt : ℕ) → ℕ
mixed id attempt = (id + (attempt * 2 ^ 40) % 2 ^ 64) % 2 ^ 64

-- Whether two keys of the code are the same.
abbrev pub same_id : BroadcastId → BroadcastId → Bool
same_id a b = (a.id == b.id) && (a.attempt == b.attempt)

-- Whether a broadcast with this progress is open.
abbrev pub is_open_in : Progress → Bool
is_open_in Unanswered = true
is_open_in Answered = true
is_open_in ClosedUnanswered = false
is_open_in ClosedAnswered = false

-- Whether some recipient has acknowledged a broadcast with this progress.
abbrev pub is_acknowledged_in : Progress → Bool
is_acknowledged_in Unanswered = false
is_acknowledged_in Answered = true
is_acknowledged_in ClosedUnanswered = false
is_acknowledged_in ClosedAnswered = true

-- The row that is packed.
abbrev pub packed_row_of : PackedBroadcast → BroadcastRow
packed_row_of p = record {
  minute = short_of p.minute.number;
  subject = subject_in p.block.number p.line;
  action = p.action;
  routing = routing_at (short_of p.routing);
  is_open = is_open_in p.progress;
  any = is_acknowledged_in p.progress;
}

abbrev pub broadcasts_of : {S : Type 0} → HashMap BroadcastId PackedBroadcast S
    → FinMap broadcast_cmp BroadcastRow
broadcasts_of m =
    from_entries {R = broadcast_cmp} (seen_entries broadcast_id_of packed_row_of m.entries)

-- ---- rows written and deleted

-- Holds if these rows are written in order.
abbrev pub AreBroadcastsPut : List (BroadcastKeyImpl × Broadcast)
    → FinMap broadcast_cmp BroadcastRow → FinMap broadcast_cmp BroadcastRow → Type 0
AreBroadcastsPut rows old new = (k : BroadcastKey)
    → get new k ≡ put_rows same_broadcast (seen_entries broadcast_key_of broadcast_row_of rows) k
    (get old k)

abbrev pub AreBroadcastsDeleted : List BroadcastKeyImpl → FinMap broadcast_cmp BroadcastRow
    → FinMap broadcast_cmp BroadcastRow → Type 0
AreBroadcastsDeleted keys old new = (k : BroadcastKey)
    → get new k ≡ delete_rows same_broadcast (map broadcast_key_of keys) k (get old k)

-- ---- open broadcasts

-- The row, if it is that of an open broadcast.
abbrev pub if_open : Option BroadcastRow → Option BroadcastRow
if_open None = None
if_open (Some row) = cond row.is_open (Some row) None

-- Holds if the ordered map has the open broadcasts only.
abbrev pub AreOpenByKey : FinMap broadcast_cmp BroadcastRow → BTreeMap BroadcastKeyImpl Broadcast
    → Type 0
AreOpenByKey broadcasts found = (k : BroadcastKeyImpl)
    → option_map broadcast_row_of (tree.get (on broadcast_key_of broadcast_cmp) found k)
    ≡ if_open (get broadcasts (broadcast_key_of k))
