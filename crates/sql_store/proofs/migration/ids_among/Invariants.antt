use Rattle.std.specs.Prelude.{◌≡◌}
use Rattle.sql_rows.specs.Versions.{old_version_in}
use Rattle.sql_store.specs.Migration.{AreIdsOf}
use Rattle.sql_store.proofs.ThroughLemmas.{ReadsSoFar}
use Rattle.sql_store.proofs.migration.ids_among.Given as goal

-- The rows so far were returned and read, and nothing was changed.
abbrev pub invariant-rows : goal.invariant-rows
invariant-rows g l = record {
  same_reference : l.rows.conn.ghost_name ≡ l.fn.rows.conn.ghost_name;
  reads : ReadsSoFar g.S.Store old_version_in (AreIdsOf l.ids.items) l.fn.rows.conn.now
      l.rows.conn.now;
}
