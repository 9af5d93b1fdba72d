use Rattle.std.proofs.Common.{rules, ◌≡◌, [], true, false, is_ok, Ok, sym, subst, true≢false}
use Rattle.sqlite.specs.Held.{state}
use Rattle.sqlite.specs.State.{Executes}
use Rattle.sql_rows.specs.Migration.{schema_after}
use Rattle.sql_rows.specs.declared.migration.NewTable.TheVariants as made
use Rattle.sql_rows.proofs.MigrationLemmas.{indexes}
use Rattle.sql_store.specs.Migration.{MigratesInTransaction, IsBegun, IsIndexed}
use Rattle.sql_store.proofs.CallLemmas.{clean_if_open}
use Rattle.sql_store.proofs.MigrationLemmas.{statement_alters}
use Rattle.sql_store.specs.Transactions.{StaysInside}
use Rattle.sql_store.proofs.TransactionLemmas.{index_stays}
use Rattle.sql_store.proofs.migration.make_index.Goals as goal

pub returns-in_err-execute : goal.returns-in_err-execute
returns-in_err-execute g c =
    let old = state g.S.Store c.args.conn.now in
    let now = state g.S.Store c.execute.new.conn in
    let P = IsBegun (schema_after made.Clock) in
    let fails : is_ok c.from_residual.result ≡ false = search rules in
    subst (λ b. MigratesInTransaction P old now b IsIndexed) (sym fails)
    (statement_alters g.S.Store c.args.conn.now c.execute.new.conn P (λ b. b.inside)
    c.index_text.result.now [] c.execute.result false IsIndexed
    (clean_if_open now.is_clean now.is_open (g.met.S.Store.shut_if_dirty _)) c.execute.ensures.ended
    c.execute.ensures.runs c.execute.ensures.survives (λ bad. absurd (true≢false (sym bad)))
    (λ count begun h. indexes old now count begun.schema
    (subst (λ t. Executes t [] old now (Ok count)) c.index_text.ensures h)))

pub returns : goal.returns
returns g c =
    let old = state g.S.Store c.args.conn.now in
    let now = state g.S.Store c.execute.new.conn in
    let P = IsBegun (schema_after made.Clock) in
    statement_alters g.S.Store c.args.conn.now c.execute.new.conn P (λ b. b.inside)
    c.index_text.result.now [] c.execute.result true IsIndexed
    (clean_if_open now.is_clean now.is_open (g.met.S.Store.shut_if_dirty _)) c.execute.ensures.ended
    c.execute.ensures.runs c.execute.ensures.survives
    (λ _. (c.in_ok-execute.field-0, c.in_ok-execute.was))
    (λ count begun h. indexes old now count begun.schema
    (subst (λ t. Executes t [] old now (Ok count)) c.index_text.ensures h))

pub execute-requires : goal.execute-requires
execute-requires g c =
    subst StaysInside (sym c.index_text.ensures) (index_stays)
