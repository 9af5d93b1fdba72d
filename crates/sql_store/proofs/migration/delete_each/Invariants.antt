use Rattle.std.proofs.Common.{true}
use Rattle.sqlite.specs.Held.{state}
use Rattle.sql_store.specs.Migration.{AreOldRowsDeleted}
use Rattle.sql_store.specs.Store.{WritesInTransaction}
use Rattle.sql_store.proofs.migration.delete_each.Given as goal

-- No other table has changed so far.
abbrev pub invariant-loop-id : goal.invariant-loop-id
invariant-loop-id g l = record {
  thins : WritesInTransaction (state g.S.Store l.fn.conn) (state g.S.Store l.conn)
      true AreOldRowsDeleted;
}
