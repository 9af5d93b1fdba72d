use Rattle.std.proofs.Common.{◌≡◌, map, take}
use Rattle.sql_store.specs.Blocks.{number_in_use}
use Rattle.sql_store.proofs.blocks.in_use.Given as goal

-- The numbers passed are in the list.
abbrev pub invariant-loop-tn : goal.invariant-loop-tn
invariant-loop-tn l =
    l.numbers.items ≡ map (number_in_use l.in_force l.opened) (take l.tn-index l.tns)
