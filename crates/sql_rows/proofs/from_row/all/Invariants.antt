use Rattle.std.proofs.Common.{take, map}
use Rattle.sql_rows.specs.Found.{AreRead}
use Rattle.sql_rows.proofs.from_row.all.Given as goal

-- The rows passed were read as these values.
abbrev pub invariant-loop-row : goal.invariant-loop-row
invariant-loop-row g l =
    AreRead g.T.FromRow.seen_in (take l.row-index l.rows) (map g.T.FromRow.seen l.items.items)
