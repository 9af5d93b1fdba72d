use Rattle.std.proofs.Common.{rules, ◌+◌, ◌<◌, true, drop, get_or, length, subst}
use Rattle.sqlite.specs.Held.{state}
use Rattle.sql_store.specs.Migration.{ArePutBut}
use Rattle.sql_store.specs.Store.{WritesInTransaction}
use Rattle.sql_store.proofs.MigrationLemmas.{one_left, put_none, puts_then}
use Rattle.sql_store.proofs.migration.put_each.Goals as goal

pub loop-id-init : goal.loop-id-init
loop-id-init g c = record {
  puts = put_none (state g.S.Store c.args.conn.now) c.args.ids.now;
}

pub loop-id-preserved : goal.loop-id-preserved
loop-id-preserved g c =
    let a = state g.S.Store c.args.conn.now in
    let b = state g.S.Store c.loop-id.conn in
    let d = state g.S.Store c.put_old.new.conn in
    let ids = c.args.ids.now in
    let i = c.loop-id.id-index in
    let within : i < length ids = search rules in
    record {
      puts = puts_then a b d (get_or ids i 0) (drop (i + 1) ids) ids
          (subst (λ l. WritesInTransaction a b true (ArePutBut l ids)) (one_left ids i within)
          c.loop-id.invariant.puts) c.in_ok-put_old.ensures;
    }
