use Rattle.sqlite.specs.Held.{state}
use Rattle.sql_store.proofs.MigrationLemmas.{clears_then}
use Rattle.sql_store.proofs.migration.clear_versions.Goals as goal

pub returns : goal.returns
returns g c =
    let a = state g.S.Store c.args.conn.now in
    let b = state g.S.Store c.delete_each.new.conn in
    let d = state g.S.Store c.clear.new.conn in
    clears_then a b d c.in_ok-delete_each.ensures c.in_ok-clear.ensures
