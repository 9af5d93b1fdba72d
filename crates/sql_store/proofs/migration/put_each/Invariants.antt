use Rattle.std.proofs.Common.{true, drop}
use Rattle.sqlite.specs.Held.{state}
use Rattle.sql_store.specs.Migration.{ArePutBut}
use Rattle.sql_store.specs.Store.{WritesInTransaction}
use Rattle.sql_store.proofs.migration.put_each.Given as goal

-- The versions copied so far, with those left, are all versions.
abbrev pub invariant-loop-id : goal.invariant-loop-id
invariant-loop-id g l = record {
  puts : WritesInTransaction (state g.S.Store l.fn.conn) (state g.S.Store l.conn) true
      (ArePutBut (drop l.id-index l.ids) l.ids);
}
