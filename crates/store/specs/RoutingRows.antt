-- The routings of the versions in force, each at the place of its version's id.
use Rattle.std.specs.Prelude.{◌≡◌, ℕ, true, false, List, Option, Some, None, option_map, slice_index_or}
use Rattle.model.specs.Content.{VersionRow}
use Rattle.store.specs.PackedRows.{routing_at}
use Rattle.store.specs.Ranks.{subject_at}
use Rattle.store.specs.ShortNumbers.{short_of}
use Rattle.store.specs.declared.versions.PackedRouting.{PackedRouting}

-- The packed routing of a version that is not in force.
abbrev pub no_routing : PackedRouting
no_routing = record {
  rank = record { number = 0 };
  routing = record { low = 0; middle = 0; high = 0 };
  is_in_force = false;
}

-- Holds if this is the routing of the row, and the place of its subject, or says that it is not in
-- force.
abbrev pub IsRoutingOf : Option VersionRow → PackedRouting → Type 0
IsRoutingOf row packed = packed.is_in_force ≡ true
    → (option_map (λ (r : VersionRow). r.holds) row ≡ Some (Some (subject_at packed.rank)))
    × (option_map (λ (r : VersionRow). r.routing) row
    ≡ Some (routing_at (short_of packed.routing)))

-- Holds if each of the routings is that of the row at its place.
abbrev pub AreRoutings : List (Option VersionRow) → List PackedRouting → Type 0
AreRoutings rows routings = (k : ℕ)
    → IsRoutingOf (slice_index_or rows k None) (slice_index_or routings k no_routing)
