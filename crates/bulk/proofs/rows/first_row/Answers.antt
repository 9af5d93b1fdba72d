use Rattle.std.proofs.Common.{inl, refl}
use Rattle.bulk.proofs.rows.first_row.Goals as goal

pub returns-then-branch-clause-first : goal.returns-then-branch-clause-first
returns-then-branch-clause-first g c = rw c.if-branch.true at c.in_ok-next_row.ensures.takes

pub returns-else-branch-clause-none : goal.returns-else-branch-clause-none
returns-else-branch-clause-none g c =
    inl (refl, rw c.if-branch.false at c.in_ok-next_row.ensures.takes)
