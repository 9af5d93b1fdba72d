use Rattle.std.proofs.Common.{List}
use Rattle.bulk.specs.Rows.{Row, HasRows, IsPlain}
use Rattle.bulk.proofs.Copied.{Reading}
use Rattle.bulk.proofs.copy.read_entries.Given as goal

abbrev pub invariant-loop-row : goal.invariant-loop-row
invariant-loop-row g l = record {
  plain : IsPlain l.reader;
  passes : (rows : List Row) → HasRows g.R.Read.remaining l.fn.reader rows
      → Reading g.R.Read.remaining rows l.reader l.entries.items;
}
