use Rattle.std.proofs.Common.{◌≡◌, ◌≤◌, ◌+◌, ◌-◌, ℕ, None, length, slice_index_or}
use Rattle.std.specs.Vec.{vec_len}
use Rattle.store.proofs.versions.add_places.Given as goal

abbrev pub invariant-loop-rows : goal.invariant-loop-rows
invariant-loop-rows l = ((k : ℕ) → slice_index_or l.rows.items k None
    ≡ slice_index_or l.initial.rows.items k None)
    × (length l.initial.rows.items ≤ length l.rows.items)

abbrev pub decreases-loop-rows : goal.decreases-loop-rows
decreases-loop-rows l = l.id + 1 - vec_len l.rows
