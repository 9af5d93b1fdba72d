use Rattle.std.proofs.Common.{get_or}
use Rattle.sqlite.specs.Held.{state}
use Rattle.sql_store.proofs.MigrationLemmas.{thinned_none, thins_then}
use Rattle.sql_store.proofs.migration.delete_each.Goals as goal

pub loop-id-init : goal.loop-id-init
loop-id-init g c = record {
  thins = thinned_none (state g.S.Store c.args.conn.now);
}

pub loop-id-preserved : goal.loop-id-preserved
loop-id-preserved g c =
    let a = state g.S.Store c.args.conn.now in
    let b = state g.S.Store c.loop-id.conn in
    let d = state g.S.Store c.delete_old.new.conn in
    record {
      thins = thins_then a b d (get_or c.args.ids.now c.loop-id.id-index 0)
          c.loop-id.invariant.thins c.in_ok-delete_old.ensures;
    }
