use Rattle.std.proofs.Common.{◌≡◌, ◌≤◌, ◌++◌, length, drop}
use Rattle.numbers.specs.Texts.{digits_of}
use Rattle.numbers.proofs.digits.last_digits.Given as goal

-- The digits of what is left, followed by those written, are the number's.
abbrev pub invariant-fours : goal.invariant-fours
invariant-fours g l =
    (l.place ≤ g.row.N) × (length l.digits ≡ g.row.N)
    × (digits_of l.place l.left ++ drop l.place l.digits ≡ digits_of g.row.N l.fn.number)

abbrev pub decreases-fours : goal.decreases-fours
decreases-fours g l = l.place

abbrev pub invariant-pairs : goal.invariant-pairs
invariant-pairs g l =
    (l.place ≤ g.row.N) × (length l.digits ≡ g.row.N)
    × (digits_of l.place l.left ++ drop l.place l.digits ≡ digits_of g.row.N l.fn.number)

abbrev pub decreases-pairs : goal.decreases-pairs
decreases-pairs g l = l.place
