use Rattle.std.proofs.Common.{◌≡◌, ◌++◌, map, drop}
use Rattle.numbers.specs.declared.ported.Subject.TheVariants.{Number as NumberImpl}
use Rattle.version.specs.declared.in_use.NumberInUse.{NumberInUse}
use Rattle.settle.proofs.settling.with_block.Given as goal

abbrev pub invariant-loop-number : goal.invariant-loop-number
invariant-loop-number l =
    l.subjects.items ++ map (λ (n : NumberInUse). NumberImpl n.tn) (drop l.number-index l.numbers)
    ≡ map (λ (n : NumberInUse). NumberImpl n.tn) l.numbers
