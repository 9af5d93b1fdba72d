use Rattle.std.specs.Prelude.{◌≡◌}
use Rattle.sql_store.specs.Through.{BlankMeansNone}
use Rattle.sql_store.proofs.ThroughLemmas.{ReadsSoFar}
use Rattle.sql_store.proofs.through.read_rows.Given as goal

-- The rows so far were returned and read, and nothing was changed.
abbrev pub invariant-rows : goal.invariant-rows
invariant-rows g l = record {
  same_reference : l.rows.conn.ghost_name ≡ l.fn.rows.conn.ghost_name;
  reads : ReadsSoFar g.S.Store g.T.FromRow.seen_in (BlankMeansNone l.blank) l.fn.rows.conn.now
      l.rows.conn.now;
}
