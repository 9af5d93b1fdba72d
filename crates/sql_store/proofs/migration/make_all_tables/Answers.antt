use Rattle.std.proofs.Common.{rules, ◌≡◌, true, false, is_ok, sym, subst}
use Rattle.sqlite.specs.Held.{state}
use Rattle.sql_rows.specs.Migration.{IsMade}
use Rattle.sql_rows.specs.Tables.{first_schema, modify_schema}
use Rattle.sql_rows.specs.declared.migration.SchemaVersion.TheVariants.{First, Modify}
use Rattle.sql_rows.specs.declared.migration.NewTable.TheVariants as made
use Rattle.sql_store.specs.Migration.{MigratesInTransaction, IsBegun, AreTablesCreated}
use Rattle.sql_store.proofs.MigrationLemmas.{Both, alters_as, alters_none, does_stop, does_then, grown_first}
use Rattle.sql_store.proofs.migration.make_all_tables.Goals as goal

pub returns-in_err-make : goal.returns-in_err-make
returns-in_err-make g c =
    let a = state g.S.Store c.args.conn.now in
    let b = state g.S.Store c.make.new.conn in
    let fails : is_ok c.from_residual.result ≡ false = search rules in
    subst (λ d. MigratesInTransaction (IsBegun first_schema) a b d (AreTablesCreated First))
    (sym fails)
    (alters_none a b (IsBegun first_schema) (IsMade made.NextRouting) (AreTablesCreated First)
    c.in_err-make.ensures)

pub returns-in_err-make_set_tables : goal.returns-in_err-make_set_tables
returns-in_err-make_set_tables g c =
    let a = state g.S.Store c.args.conn.now in
    let b = state g.S.Store c.make.new.conn in
    let d = state g.S.Store c.make_set_tables.new.conn in
    let fails : is_ok c.from_residual-in_err-make_set_tables.result ≡ false = search rules in
    subst (λ x. MigratesInTransaction (IsBegun first_schema) a d x (AreTablesCreated First))
    (sym fails)
    (does_stop a b d (IsBegun first_schema) (IsBegun modify_schema) (IsMade made.NextRouting)
    (AreTablesCreated Modify) (AreTablesCreated First) c.in_ok-make.ensures
    c.in_err-make_set_tables.ensures)

pub returns : goal.returns
returns g c =
    let a = state g.S.Store c.args.conn.now in
    let b = state g.S.Store c.make.new.conn in
    let d = state g.S.Store c.make_set_tables.new.conn in
    alters_as a d (IsBegun first_schema) (IsBegun first_schema) true (Both (IsMade made.NextRouting)
    (AreTablesCreated Modify)) (AreTablesCreated First)
    (does_then a b d (IsBegun first_schema) (IsBegun modify_schema) (IsMade made.NextRouting)
    (AreTablesCreated Modify) true c.in_ok-make.ensures
    c.in_ok-make_set_tables.ensures
    (λ begun w. record { is_open = w.is_open; inside = w.inside; schema = w.did.schema }))
    (λ begun. begun) (λ begun it. grown_first a.now d.now it)
