use Rattle.std.proofs.Common.{rules, ◌≡◌, false, is_ok, sym, subst}
use Rattle.sqlite.specs.Held.{state}
use Rattle.sqlite.specs.State.{HasCleanDisk}
use Rattle.sql_rows.specs.Statements.{all_text}
use Rattle.sql_store.specs.Store.{HasQueried, clean_if_open}
use Rattle.sql_store.specs.Through.{BlankMeansNone}
use Rattle.sql_store.proofs.ThroughLemmas.{old_plain, old_read, table_looked}
use Rattle.sql_store.proofs.migration.see.Goals as goal

pub read_table-requires : goal.read_table-requires
read_table-requires g c = record {
  plain = old_plain g.T.FromRow.seen_in c.args.table (state g.S.Store c.args.conn.now)
      (state g.S.Store c.args.conn.now) c.args.schema_version c.requires.has c.requires.old;
}

pub returns-in_err-read_table-clause-queried : goal.returns-in_err-read_table-clause-queried
returns-in_err-read_table-clause-queried g c =
    let old = state g.S.Store c.args.conn.now in
    let new = state g.S.Store c.read_table.new.conn in
    let fails : is_ok c.from_residual.result ≡ false = search rules in
    let looked : HasQueried old new (is_ok c.read_table.result) =
    table_looked g.T.FromRow.seen_in BlankMeansNone (all_text c.args.table) old new
    c.read_table.result
    (old_plain g.T.FromRow.seen_in c.args.table old new c.args.schema_version c.requires.has
    c.requires.old)
    (clean_if_open new.is_clean new.is_open (g.met.S.Store.shut_if_dirty _))
    c.read_table.ensures.all c.read_table.ensures.err c.read_table.ensures.survives in
    subst (HasQueried old new) (sym fails) (rw c.in_err-read_table.was at looked)

pub returns-clause-value : goal.returns-clause-value
returns-clause-value g c = λ up.
    let old = state g.S.Store c.args.conn.now in
    let new = state g.S.Store c.read_table.new.conn in
    let clean : HasCleanDisk new =
    clean_if_open new.is_clean new.is_open (g.met.S.Store.shut_if_dirty _) up in
    let value = old_read g.T.FromRow.seen_in c.args.table old new c.args.schema_version
    c.requires.has
    c.requires.old c.read_table.result (c.read_table.ensures.all clean) in
    rw c.in_ok-read_table.was at value

pub returns-clause-queried : goal.returns-clause-queried
returns-clause-queried g c =
    let old = state g.S.Store c.args.conn.now in
    let new = state g.S.Store c.read_table.new.conn in
    let looked : HasQueried old new (is_ok c.read_table.result) =
    table_looked g.T.FromRow.seen_in BlankMeansNone (all_text c.args.table) old new
    c.read_table.result
    (old_plain g.T.FromRow.seen_in c.args.table old new c.args.schema_version c.requires.has
    c.requires.old)
    (clean_if_open new.is_clean new.is_open (g.met.S.Store.shut_if_dirty _))
    c.read_table.ensures.all c.read_table.ensures.err c.read_table.ensures.survives in
    rw c.in_ok-read_table.was at looked
