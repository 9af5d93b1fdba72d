use Rattle.std.proofs.Common.{◌≡◌, map, take}
use Rattle.numbers.specs.Digits.{number_in}
use Rattle.numbers.specs.declared.tn.Tn.{Tn}
use Rattle.model.specs.History.{rising}
use Rattle.pool.specs.Donations.{lines_of}
use Rattle.pool.proofs.donation.Donation.used_numbers.Given as goal

-- The set has the numbers of the lines passed.
abbrev pub invariant-loop-line : goal.invariant-loop-line
invariant-loop-line l = map (λ (t : Tn). t.number) l.used.keys ≡ map (number_in l.self.block.number)
    (rising (lines_of (take l.line-index l.self.used.now)))
