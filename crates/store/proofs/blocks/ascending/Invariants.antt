use Rattle.std.proofs.Common.{◌≡◌, ◌++◌, map}
use Rattle.store.specs.BlockRows.{number_in_use}
use Rattle.store.proofs.blocks.ascending.Given as goal

abbrev pub invariant-loop-tn : goal.invariant-loop-tn
invariant-loop-tn l =
    l.found.items ++ map number_in_use l.tn-iterator ≡ map number_in_use l.numbers.entries
