-- The list of open broadcasts.
use Rattle.std.proofs.Common.{◌≡◌, ℕ, ◌+◌, ◌<◌, ◌≤◌, length, List, [], ◌∷◌, true, slice_index_or, Less, refl, arith}
use Rattle.std.proofs.lemmas.Cmp.{on_total}
use Rattle.std.specs.List.Sorted.{IsPermutation, IsStrictlySortedBy}
use Rattle.std.proofs.lemmas.List.Sorted.{IsPermutation-sym}
use Rattle.std.proofs.lemmas.Map.Keys.{sorted_from_all_adjacent}
use Rattle.delivery.specs.declared.broadcast.Broadcast.{Broadcast}
use Rattle.model.specs.Content.{Content, broadcast_cmp}
use Rattle.settle.specs.Reads.{AreOpenBroadcasts}
use Rattle.settle.specs.Abstraction.{broadcast_key_of}
use Rattle.settle.specs.declared.rows.BroadcastKey.{BroadcastKey}
use Rattle.sql_rows.proofs.DueLemmas.{has_permuted}
use Rattle.model.proofs.KeyOrders.{broadcast_exact, broadcast_total}
use Rattle.sql_rows.proofs.Picked.{Picks}
use Rattle.sql_rows.proofs.QueriesListed.{broadcast_seen}
use Rattle.sql_store.proofs.ListLemmas.{entries_are}

abbrev pub Rises : List (BroadcastKey × Broadcast) → Type 0
Rises = IsStrictlySortedBy (λ a b. broadcast_cmp (broadcast_key_of a.0) (broadcast_key_of b.0))

pub pairs_rise : (ps : List (BroadcastKey × Broadcast)) (n : ℕ) → length ps ≤ n
    → ((k : ℕ) (d : BroadcastKey × Broadcast) → k + 1 < n
    → broadcast_cmp (broadcast_key_of (slice_index_or ps k d).0)
    (broadcast_key_of (slice_index_or ps (k + 1) d).0) ≡ Less) → Rises ps
unfolding IsStrictlySortedBy
pairs_rise [] n whole each = tt
pairs_rise (p ∷ ps) n whole each =
    sorted_from_all_adjacent (on_total (λ (p : BroadcastKey × Broadcast). broadcast_key_of p.0)
    broadcast_total) (p ∷ ps) p (λ k inside. each k p (omega (arith, inside, whole)))

pub broadcasts_are : (c : Content) (found items : List (BroadcastKey × Broadcast))
    → Picks broadcast_seen c.broadcasts (λ k v. v.is_open ≡ true) found
    → IsPermutation found items → Rises items → AreOpenBroadcasts c items
broadcasts_are c found items picks same rises =
    entries_are broadcast_total broadcast_exact broadcast_seen c.broadcasts
    (λ k v. v.is_open ≡ true) (λ e. e.1.is_open) (λ k v. (λ h. h, λ h. h)) found items picks rises
    (λ x at. has_permuted items found x (IsPermutation-sym found items same) at)
    (λ x at. (x, has_permuted found items x same at, refl))
