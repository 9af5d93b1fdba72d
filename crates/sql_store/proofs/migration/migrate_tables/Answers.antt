use Rattle.std.proofs.Common.{rules, ◌≡◌, Bool, true, false, is_ok, sym, subst}
use Rattle.sqlite.specs.Held.{state}
use Rattle.sqlite.specs.State.{State}
use Rattle.sql_rows.specs.Migration.{schema_of}
use Rattle.sql_rows.specs.declared.migration.SchemaVersion.{SchemaVersion}
use Rattle.sql_store.specs.Migration.{MigratesInTransaction, IsBegun, IsBegunAs, AreRowsCopied, AreTablesCreated, IsMigrated}
use Rattle.sql_store.specs.Store.{IsInTransaction}
use Rattle.sql_store.proofs.MigrationLemmas.{Both, alters_as, alters_none, does_stop, does_then, from_writes, grown_shaped, rebuilt}
use Rattle.sql_store.proofs.migration.migrate_tables.Goals as goal

grown_as : (f : SchemaVersion) (a b : State) (done : Bool)
    → MigratesInTransaction (IsBegun (schema_of f)) a b done (AreTablesCreated f)
    → MigratesInTransaction (IsBegunAs f) a b done (AreTablesCreated f)
grown_as f a b done it =
    alters_as a b (IsBegun (schema_of f)) (IsBegunAs f) done (AreTablesCreated f)
    (AreTablesCreated f) it (λ begun. begun.begun) (λ begun g. g)

pub returns-in_err-create_tables : goal.returns-in_err-create_tables
returns-in_err-create_tables g c =
    let a = state g.S.Store c.args.conn.now in
    let b = state g.S.Store c.create_tables.new.conn in
    let f = c.args.schema_version in
    let fails : is_ok c.from_residual.result ≡ false = search rules in
    subst (λ x. MigratesInTransaction (IsBegunAs f) a b x
    (IsMigrated f c.args.ids.now c.args.clock)) (sym fails)
    (alters_none a b (IsBegunAs f) (AreTablesCreated f) (IsMigrated f c.args.ids.now c.args.clock)
    (grown_as f a b false c.in_err-create_tables.ensures))

pub returns-in_err-copy_rows : goal.returns-in_err-copy_rows
returns-in_err-copy_rows g c =
    let a = state g.S.Store c.args.conn.now in
    let b = state g.S.Store c.create_tables.new.conn in
    let d = state g.S.Store c.copy_rows.new.conn in
    let f = c.args.schema_version in
    let Filled = AreRowsCopied c.args.ids.now c.args.clock in
    let fails : is_ok c.from_residual-in_err-copy_rows.result ≡ false = search rules in
    subst (λ x. MigratesInTransaction (IsBegunAs f) a d x
    (IsMigrated f c.args.ids.now c.args.clock)) (sym fails)
    (does_stop a b d (IsBegunAs f) IsInTransaction (AreTablesCreated f) Filled
    (IsMigrated f c.args.ids.now c.args.clock)
    (grown_as f a b true c.in_ok-create_tables.ensures)
    (from_writes b d false Filled c.in_err-copy_rows.ensures))

pub returns : goal.returns
returns g c =
    let a = state g.S.Store c.args.conn.now in
    let b = state g.S.Store c.create_tables.new.conn in
    let d = state g.S.Store c.copy_rows.new.conn in
    let f = c.args.schema_version in
    let Filled = AreRowsCopied c.args.ids.now c.args.clock in
    let Rebuilt = IsMigrated f c.args.ids.now c.args.clock in
    alters_as a d (IsBegunAs f) (IsBegunAs f) true (Both (AreTablesCreated f) Filled) Rebuilt
    (does_then a b d (IsBegunAs f) IsInTransaction (AreTablesCreated f) Filled true
    (grown_as f a b true c.in_ok-create_tables.ensures)
    (from_writes b d true Filled c.in_ok-copy_rows.ensures)
    (λ begun w. record {
      is_open = w.is_open;
      inside = w.inside;
      schema = w.did.schema;
      shaped = grown_shaped f a.now b.now w.did begun.shaped;
    }))
    (λ begun. begun) (λ begun it. rebuilt f c.args.ids.now c.args.clock a.now d.now begun.shaped it)
