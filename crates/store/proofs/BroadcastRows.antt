-- Changes of the hash map of broadcasts are those of its finite map.
use Rattle.std.proofs.Common.{◌≡◌, Bool, true, false, cond, Option, refl, ap, sym, ◌∙◌}
use Rattle.std.specs.Prelude.{option_map, if◌then◌else◌}
use Rattle.std.specs.Ordering.{on}
use Rattle.std.specs.Map.{lookup}
use Rattle.std.specs.BTreeMap.{is_at}
use Rattle.std.specs.HashMap as hash
use Rattle.std.specs.HashMap.{HashMap}
use Rattle.std.specs.FinMap.{get, same_map}
use Rattle.model.specs.Content.{BroadcastKey, broadcast_cmp}
use Rattle.model.proofs.KeyOrders.{broadcast_total, broadcast_exact}
use Rattle.settle.specs.Changes.{same_broadcast}
use Rattle.store.specs.BroadcastRows.{broadcast_id_of, packed_row_of, same_id, broadcasts_of}
use Rattle.store.specs.declared.keys.BroadcastId.{BroadcastId}
use Rattle.store.specs.declared.packed_broadcast.PackedBroadcast.{PackedBroadcast}
use Rattle.store.proofs.Changed.{broadcast_tied}
use Rattle.store.proofs.Maps.{get-seen}

abbrev id_at : BroadcastKey → BroadcastId
id_at k = record { id = k.id; attempt = k.attempt }

same-at : (a b : BroadcastId) → same_id a b ≡ is_at (on broadcast_id_of broadcast_cmp a) b
same-at a b = sym (broadcast_tied (broadcast_id_of a) (broadcast_id_of b))

module _ {S : Type 0} where
  pub get-broadcast : (m : HashMap BroadcastId PackedBroadcast S) (q : BroadcastId)
      → get (broadcasts_of m) (broadcast_id_of q)
      ≡ option_map packed_row_of (hash.get same_id m q)
  get-broadcast m q =
      get-seen broadcast_id_of packed_row_of broadcast_total broadcast_exact m.entries q
      ∙ (λ i. option_map packed_row_of (lookup (λ n. sym (same-at q n) i) m.entries))

  -- Hash maps with the same look-ups have the same finite map.
  pub same-broadcasts : (m n : HashMap BroadcastId PackedBroadcast S)
      → ((q : BroadcastId) → hash.get same_id n q ≡ hash.get same_id m q)
      → broadcasts_of n ≡ broadcasts_of m
  same-broadcasts m n same =
      same_map broadcast_total broadcast_exact (broadcasts_of n) (broadcasts_of m)
      (λ k. get-broadcast n (id_at k) ∙ ap (option_map packed_row_of) (same (id_at k))
      ∙ sym (get-broadcast m (id_at k)))

  -- A row that is written, or deleted for `None`, in the hash map is so in the finite map.
  pub broadcast-set : (m n : HashMap BroadcastId PackedBroadcast S) (key : BroadcastId)
      (own : BroadcastKey) (w : Option PackedBroadcast) → broadcast_id_of key ≡ own
      → ((q : BroadcastId) → hash.get same_id n q ≡ cond (same_id key q) w (hash.get same_id m q))
      → (k : BroadcastKey) → get (broadcasts_of n) k
      ≡ (if same_broadcast own k then option_map packed_row_of w else get (broadcasts_of m) k)
  broadcast-set m n key own w same is k =
      get-broadcast n (id_at k) ∙ ap (option_map packed_row_of) (is (id_at k))
      ∙ mapped (same_id key (id_at k)) (hash.get same_id m (id_at k))
      ∙ (λ i. cond (same_broadcast (same i) k) (option_map packed_row_of w)
      (sym (get-broadcast m (id_at k)) i))
    where
      mapped : (b : Bool) (was : Option PackedBroadcast) → option_map packed_row_of (cond b w was)
          ≡ cond b (option_map packed_row_of w) (option_map packed_row_of was)
      mapped true was = refl
      mapped false was = refl
