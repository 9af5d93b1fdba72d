use Rattle.std.proofs.Common.{◌≡◌, map, take}
use Rattle.std.specs.List.{filter_map}
use Rattle.settle.specs.declared.rows.NumberedRow.{NumberedRow}
use Rattle.sql_store.specs.Blocks.{number_by, number_of_tn}
use Rattle.sql_store.proofs.blocks.numbers_of.Given as goal

-- The numbers of the versions passed are in the list.
abbrev pub invariant-loop-version : goal.invariant-loop-version
invariant-loop-version l =
    map number_of_tn l.tns.items ≡ filter_map (λ (v : NumberedRow). number_by l.role v.row)
    (take l.version-index l.found)
