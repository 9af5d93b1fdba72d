use Rattle.std.proofs.Common.{rules, ◌≡◌, [], true, false, is_ok, Ok, sym, subst, true≢false}
use Rattle.sqlite.specs.Held.{state}
use Rattle.sqlite.specs.State.{Executes}
use Rattle.sql_rows.specs.Migration.{IsMade, schema_before}
use Rattle.sql_rows.proofs.MigrationLemmas.{creates}
use Rattle.sql_store.specs.Migration.{MigratesInTransaction, IsBegun}
use Rattle.sql_store.proofs.CallLemmas.{clean_if_open}
use Rattle.sql_store.proofs.MigrationLemmas.{statement_alters}
use Rattle.sql_store.specs.Transactions.{StaysInside}
use Rattle.sql_store.proofs.TransactionLemmas.{create_stays}
use Rattle.sql_store.proofs.migration.make.Goals as goal

pub returns-in_err-execute : goal.returns-in_err-execute
returns-in_err-execute g c =
    let old = state g.S.Store c.args.conn.now in
    let new = state g.S.Store c.execute.new.conn in
    let P = IsBegun (schema_before c.args.table) in
    let fails : is_ok c.from_residual.result ≡ false = search rules in
    subst (λ b. MigratesInTransaction P old new b (IsMade c.args.table)) (sym fails)
    (statement_alters g.S.Store c.args.conn.now c.execute.new.conn P (λ b. b.inside)
    c.create_text.result.now [] c.execute.result false (IsMade c.args.table)
    (clean_if_open new.is_clean new.is_open (g.met.S.Store.shut_if_dirty _)) c.execute.ensures.ended
    c.execute.ensures.runs c.execute.ensures.survives (λ bad. absurd (true≢false (sym bad)))
    (λ count begun h. creates old new count c.args.table begun.schema
    (subst (λ t. Executes t [] old new (Ok count)) c.create_text.ensures h)))

pub returns : goal.returns
returns g c =
    let old = state g.S.Store c.args.conn.now in
    let new = state g.S.Store c.execute.new.conn in
    let P = IsBegun (schema_before c.args.table) in
    statement_alters g.S.Store c.args.conn.now c.execute.new.conn P (λ b. b.inside)
    c.create_text.result.now [] c.execute.result true (IsMade c.args.table)
    (clean_if_open new.is_clean new.is_open (g.met.S.Store.shut_if_dirty _)) c.execute.ensures.ended
    c.execute.ensures.runs c.execute.ensures.survives
    (λ _. (c.in_ok-execute.field-0, c.in_ok-execute.was))
    (λ count begun h. creates old new count c.args.table begun.schema
    (subst (λ t. Executes t [] old new (Ok count)) c.create_text.ensures h))

pub execute-requires : goal.execute-requires
execute-requires g c =
    subst StaysInside (sym c.create_text.ensures) (create_stays c.args.table)
