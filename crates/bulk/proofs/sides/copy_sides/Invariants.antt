use Rattle.std.proofs.Common.{◌≡◌, drop}
use Rattle.numbers.specs.declared.ported.Subject.{Subject}
use Rattle.bulk.specs.Sides.{no_sides, sides_at}
use Rattle.bulk.proofs.Sided.{Taken, with_copied}
use Rattle.bulk.proofs.sides.copy_sides.Given as goal

-- Adding the entries left to the sides so far gives what adding all entries to no sides gives.
abbrev pub invariant-loop-entry : goal.invariant-loop-entry
invariant-loop-entry g l = record {
  added : (s : Subject) → with_copied (drop l.entry-index l.entries) s (sides_at l.all s)
      ≡ with_copied l.entries s no_sides;
  taken : Taken l.entries (drop l.entry-index l.entries) l.all;
}
