use Rattle.std.proofs.Common.{◌≡◌, map, take}
use Rattle.std.specs.List.{filter_map}
use Rattle.settle.specs.declared.rows.NumberedRow.{NumberedRow}
use Rattle.sql_store.specs.Routed.{routed_in, routed_model}
use Rattle.sql_store.proofs.routed.routed_rows.Given as goal

-- All routed versions passed are in the list.
abbrev pub invariant-loop-version : goal.invariant-loop-version
invariant-loop-version l =
    map routed_model l.rows.items ≡ filter_map (λ (v : NumberedRow). routed_in v.row)
    (take l.version-index l.found)
