use Rattle.std.proofs.Common.{rules, ◌≡◌, true, false, is_ok, sym, subst}
use Rattle.sqlite.specs.Held.{state}
use Rattle.sqlite.specs.State.{State}
use Rattle.sql_rows.specs.Migration.{IsMade, schema_after, schema_before}
use Rattle.sql_rows.specs.Tables.{modify_schema}
use Rattle.sql_rows.specs.declared.migration.SchemaVersion.TheVariants.{Modify}
use Rattle.sql_rows.specs.declared.migration.NewTable.TheVariants as made
use Rattle.sql_store.specs.Migration.{MigratesInTransaction, IsBegun, AreTablesCreated, IsIndexed}
use Rattle.sql_store.proofs.MigrationLemmas.{Both, alters_as, alters_none, does_stop, does_then, grown_sets}
use Rattle.sql_store.proofs.migration.make_set_tables.Goals as goal

-- The first two tables, and then the third.
two : (a b d : State) → MigratesInTransaction (IsBegun modify_schema) a b true
    (IsMade made.WindowSet)
    → MigratesInTransaction (IsBegun (schema_before made.Version)) b d true (IsMade made.Version)
    → MigratesInTransaction (IsBegun modify_schema) a d true
    (Both (IsMade made.WindowSet) (IsMade made.Version))
two a b d one more = does_then a b d (IsBegun modify_schema) (IsBegun (schema_before made.Version))
    (IsMade made.WindowSet) (IsMade made.Version) true one more (λ begun w. record {
      is_open = w.is_open;
      inside = w.inside;
      schema = w.did.schema;
    })

three : (a d e : State)
    → MigratesInTransaction (IsBegun modify_schema) a d true
    (Both (IsMade made.WindowSet) (IsMade made.Version))
    → MigratesInTransaction (IsBegun (schema_before made.Clock)) d e true (IsMade made.Clock)
    → MigratesInTransaction (IsBegun modify_schema) a e true
    (Both (Both (IsMade made.WindowSet) (IsMade made.Version)) (IsMade made.Clock))
three a d e one more = does_then a d e (IsBegun modify_schema) (IsBegun (schema_before made.Clock))
    (Both (IsMade made.WindowSet) (IsMade made.Version)) (IsMade made.Clock) true one more
    (λ begun w. record {
      is_open = w.is_open;
      inside = w.inside;
      schema = w.did.2.schema;
    })

pub returns-in_err-make : goal.returns-in_err-make
returns-in_err-make g c =
    let a = state g.S.Store c.args.conn.now in
    let b = state g.S.Store c.make.new.conn in
    let fails : is_ok c.from_residual.result ≡ false = search rules in
    subst (λ x. MigratesInTransaction (IsBegun modify_schema) a b x (AreTablesCreated Modify))
    (sym fails)
    (alters_none a b (IsBegun modify_schema) (IsMade made.WindowSet) (AreTablesCreated Modify)
    c.in_err-make.ensures)

pub returns-in_err-make-2 : goal.returns-in_err-make-2
returns-in_err-make-2 g c =
    let a = state g.S.Store c.args.conn.now in
    let b = state g.S.Store c.make.new.conn in
    let d = state g.S.Store c.make-2.new.conn in
    let fails : is_ok c.from_residual-in_err-make-2.result ≡ false = search rules in
    subst (λ x. MigratesInTransaction (IsBegun modify_schema) a d x (AreTablesCreated Modify))
    (sym fails)
    (does_stop a b d (IsBegun modify_schema) (IsBegun (schema_before made.Version))
    (IsMade made.WindowSet) (IsMade made.Version) (AreTablesCreated Modify)
    c.in_ok-make.ensures
    c.in_err-make-2.ensures)

pub returns-in_err-make-3 : goal.returns-in_err-make-3
returns-in_err-make-3 g c =
    let a = state g.S.Store c.args.conn.now in
    let b = state g.S.Store c.make.new.conn in
    let d = state g.S.Store c.make-2.new.conn in
    let e = state g.S.Store c.make-3.new.conn in
    let fails : is_ok c.from_residual-in_err-make-3.result ≡ false = search rules in
    subst (λ x. MigratesInTransaction (IsBegun modify_schema) a e x (AreTablesCreated Modify))
    (sym fails)
    (does_stop a d e (IsBegun modify_schema) (IsBegun (schema_before made.Clock))
    (Both (IsMade made.WindowSet) (IsMade made.Version)) (IsMade made.Clock)
    (AreTablesCreated Modify)
    (two a b d c.in_ok-make.ensures c.in_ok-make-2.ensures)
    c.in_err-make-3.ensures)

pub returns-in_err-make_index : goal.returns-in_err-make_index
returns-in_err-make_index g c =
    let a = state g.S.Store c.args.conn.now in
    let b = state g.S.Store c.make.new.conn in
    let d = state g.S.Store c.make-2.new.conn in
    let e = state g.S.Store c.make-3.new.conn in
    let f = state g.S.Store c.make_index.new.conn in
    let fails : is_ok c.from_residual-in_err-make_index.result ≡ false = search rules in
    subst (λ x. MigratesInTransaction (IsBegun modify_schema) a f x (AreTablesCreated Modify))
    (sym fails)
    (does_stop a e f (IsBegun modify_schema) (IsBegun (schema_after made.Clock))
    (Both (Both (IsMade made.WindowSet) (IsMade made.Version)) (IsMade made.Clock)) IsIndexed
    (AreTablesCreated Modify)
    (three a d e (two a b d c.in_ok-make.ensures c.in_ok-make-2.ensures)
    c.in_ok-make-3.ensures) c.in_err-make_index.ensures)

pub returns : goal.returns
returns g c =
    let a = state g.S.Store c.args.conn.now in
    let b = state g.S.Store c.make.new.conn in
    let d = state g.S.Store c.make-2.new.conn in
    let e = state g.S.Store c.make-3.new.conn in
    let f = state g.S.Store c.make_index.new.conn in
    let Three = Both (Both (IsMade made.WindowSet) (IsMade made.Version)) (IsMade made.Clock) in
    alters_as a f (IsBegun modify_schema) (IsBegun modify_schema) true (Both Three IsIndexed)
    (AreTablesCreated Modify)
    (does_then a e f (IsBegun modify_schema) (IsBegun (schema_after made.Clock)) Three IsIndexed
    true (three a d e (two a b d c.in_ok-make.ensures c.in_ok-make-2.ensures)
    c.in_ok-make-3.ensures) c.in_ok-make_index.ensures
    (λ begun w. record { is_open = w.is_open; inside = w.inside; schema = w.did.2.schema }))
    (λ begun. begun) (λ begun it. grown_sets a.now f.now it)
