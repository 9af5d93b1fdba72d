use Rattle.std.proofs.Common.{rules, ◌≡◌, [], true, false, is_ok, Ok, sym, subst, true≢false}
use Rattle.sqlite.specs.Held.{state}
use Rattle.sqlite.specs.State.{Executes}
use Rattle.sql_rows.specs.Migration.{IsCleared, table_of_old}
use Rattle.sql_rows.proofs.WriteLemmas.{clears}
use Rattle.sql_store.specs.Store.{WritesInTransaction}
use Rattle.sql_store.proofs.CallLemmas.{clean_if_open, statement_writes}
use Rattle.sql_store.specs.Transactions.{StaysInside}
use Rattle.sql_store.proofs.TransactionLemmas.{clear_stays}
use Rattle.sql_store.proofs.migration.clear.Goals as goal

pub returns-in_err-execute : goal.returns-in_err-execute
returns-in_err-execute g c =
    let old = state g.S.Store c.args.conn.now in
    let new = state g.S.Store c.execute.new.conn in
    let fails : is_ok c.from_residual.result ≡ false = search rules in
    subst (λ b. WritesInTransaction old new b (IsCleared c.args.table)) (sym fails)
    (statement_writes g.S.Store c.args.conn.now c.execute.new.conn
    c.clear_text.result.now [] c.execute.result false (IsCleared c.args.table)
    (clean_if_open new.is_clean new.is_open (g.met.S.Store.shut_if_dirty _)) c.execute.ensures.ended
    c.execute.ensures.runs c.execute.ensures.survives (λ bad. absurd (true≢false (sym bad)))
    (λ count inside h. clears c.args.table old new inside.schema count
    (inside.shaped (table_of_old c.args.table)) (subst (λ t. Executes t [] old new (Ok count))
    c.clear_text.ensures h)))

pub returns : goal.returns
returns g c =
    let old = state g.S.Store c.args.conn.now in
    let new = state g.S.Store c.execute.new.conn in
    statement_writes g.S.Store c.args.conn.now c.execute.new.conn
    c.clear_text.result.now [] c.execute.result true (IsCleared c.args.table)
    (clean_if_open new.is_clean new.is_open (g.met.S.Store.shut_if_dirty _)) c.execute.ensures.ended
    c.execute.ensures.runs c.execute.ensures.survives
    (λ _. (c.in_ok-execute.field-0, c.in_ok-execute.was))
    (λ count inside h. clears c.args.table old new inside.schema count
    (inside.shaped (table_of_old c.args.table)) (subst (λ t. Executes t [] old new (Ok count))
    c.clear_text.ensures h))

pub execute-requires : goal.execute-requires
execute-requires g c =
    subst StaysInside (sym c.clear_text.ensures) (clear_stays c.args.table)
