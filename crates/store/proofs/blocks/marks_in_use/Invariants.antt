use Rattle.std.proofs.Common.{◌≡◌, drop}
use Rattle.std.specs.FinMap.{empty}
use Rattle.store.specs.BlockRows.{only_in_force, marked, marks_of}
use Rattle.store.specs.VersionRows.{rows_of}
use Rattle.store.specs.Tables.{content_of}
use Rattle.store.proofs.BlockListed.{AreMarkedBefore}
use Rattle.store.proofs.blocks.marks_in_use.Given as goal

-- Marking the numbers of the keys that are left gives the marks of all keys.
abbrev pub invariant-loop-key : goal.invariant-loop-key
invariant-loop-key l =
    marked only_in_force (λ row. row.holds) l.block.number (rows_of l.tables.versions)
    l.key-iterator
    (marks_of l.numbers)
    ≡ marked only_in_force (λ row. row.holds) l.block.number (rows_of l.tables.versions)
    l.initial.key-iterator
    empty

-- The open numbers whose lines are not left are marked.
abbrev pub invariant-loop-line : goal.invariant-loop-line
invariant-loop-line l =
    AreMarkedBefore (content_of l.tables) l.block.number (marks_of l.initial.numbers)
    (marks_of l.numbers) (drop l.line-index l.line-items)
