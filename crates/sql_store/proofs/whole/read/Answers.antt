use Rattle.sqlite.specs.Held.{state}
use Rattle.sqlite.specs.State.{HasCleanDisk}
use Rattle.sql_rows.specs.Statements.{all_text}
use Rattle.sql_store.specs.Store.{clean_if_open}
use Rattle.sql_store.specs.Through.{BlankMeansNone}
use Rattle.sql_store.proofs.CallLemmas.{looked_ours}
use Rattle.sql_store.proofs.KeptLemmas.{nothing_kept}
use Rattle.sql_store.proofs.ThroughLemmas.{ours_plain, ours_read, table_looked}
use Rattle.sql_store.proofs.whole.read.Goals as goal

pub read_table-requires : goal.read_table-requires
read_table-requires g c = record {
  plain = ours_plain g.T.FromRow.seen_in c.args.table (state g.S.Store c.args.db.now.conn)
      (state g.S.Store c.args.db.now.conn) c.args.db.now.ours;
}

pub returns-clause-value : goal.returns-clause-value
returns-clause-value g c = λ up.
    let old = state g.S.Store c.args.db.now.conn in
    let new = state g.S.Store c.read_table.new.conn in
    let clean : HasCleanDisk new =
    clean_if_open new.is_clean new.is_open (g.met.S.Store.shut_if_dirty _) up in
    ours_read g.T.FromRow.seen_in c.args.table old new c.args.db.now.ours c.read_table.result
    (c.read_table.ensures.all clean)

pub returns-clause-queried : goal.returns-clause-queried
returns-clause-queried g c =
    let old = state g.S.Store c.args.db.now.conn in
    let new = state g.S.Store c.read_table.new.conn in
    table_looked g.T.FromRow.seen_in BlankMeansNone (all_text c.args.table) old new
    c.read_table.result
    (ours_plain g.T.FromRow.seen_in c.args.table old new c.args.db.now.ours)
    (clean_if_open new.is_clean new.is_open (g.met.S.Store.shut_if_dirty _))
    c.read_table.ensures.all c.read_table.ensures.err c.read_table.ensures.survives

pub invariant_of-db-clause-ours : goal.invariant_of-db-clause-ours
invariant_of-db-clause-ours g c =
    let old = state g.S.Store c.args.db.now.conn in
    let new = state g.S.Store c.read_table.new.conn in
    looked_ours old new _ c.args.db.now.ours
    (table_looked g.T.FromRow.seen_in BlankMeansNone (all_text c.args.table) old new
    c.read_table.result (ours_plain g.T.FromRow.seen_in c.args.table old new c.args.db.now.ours)
    (clean_if_open new.is_clean new.is_open (g.met.S.Store.shut_if_dirty _))
    c.read_table.ensures.all c.read_table.ensures.err c.read_table.ensures.survives)

pub invariant_of-db-clause-are_kept : goal.invariant_of-db-clause-are_kept
invariant_of-db-clause-are_kept g c =
    nothing_kept (state g.S.Store c.read_table.new.conn) c.none.result c.none.ensures
