use Rattle.std.proofs.Common.{rules, ◌≡◌, true, false, is_ok, Ok, sym, subst, true≢false}
use Rattle.sqlite.specs.Held.{state}
use Rattle.sqlite.specs.State.{Executes}
use Rattle.sqlite.specs.Values.{bound}
use Rattle.sql_rows.specs.Written.{AddedBy}
use Rattle.sql_rows.proofs.WriteLemmas.{inserts}
use Rattle.sql_store.specs.Store.{WritesInTransaction}
use Rattle.sql_store.proofs.CallLemmas.{clean_if_open, statement_writes}
use Rattle.sql_store.specs.Transactions.{StaysInside}
use Rattle.sql_store.proofs.TransactionLemmas.{insert_stays}
use Rattle.sql_store.proofs.change.insert.Goals as goal

pub returns-in_err-execute : goal.returns-in_err-execute
returns-in_err-execute g c =
    let old = state g.S.Store c.args.conn.now in
    let new = state g.S.Store c.execute.new.conn in
    let params = bound c.args.row.now in
    let fails : is_ok c.from_residual.result ≡ false = search rules in
    subst (λ b. WritesInTransaction old new b (AddedBy c.args.table params)) (sym fails)
    (statement_writes g.S.Store c.args.conn.now c.execute.new.conn
    c.insert_text.result.now params c.execute.result false (AddedBy c.args.table params)
    (clean_if_open new.is_clean new.is_open (g.met.S.Store.shut_if_dirty _)) c.execute.ensures.ended
    c.execute.ensures.runs c.execute.ensures.survives (λ bad. absurd (true≢false (sym bad)))
    (λ count inside h. inserts c.args.table params old new inside.schema count
    (subst (λ t. Executes t params old new (Ok count)) c.insert_text.ensures h)))

pub returns : goal.returns
returns g c =
    let old = state g.S.Store c.args.conn.now in
    let new = state g.S.Store c.execute.new.conn in
    let params = bound c.args.row.now in
    statement_writes g.S.Store c.args.conn.now c.execute.new.conn
    c.insert_text.result.now params c.execute.result true (AddedBy c.args.table params)
    (clean_if_open new.is_clean new.is_open (g.met.S.Store.shut_if_dirty _)) c.execute.ensures.ended
    c.execute.ensures.runs c.execute.ensures.survives
    (λ _. (c.in_ok-execute.field-0, c.in_ok-execute.was))
    (λ count inside h. inserts c.args.table params old new inside.schema count
    (subst (λ t. Executes t params old new (Ok count)) c.insert_text.ensures h))

pub execute-requires : goal.execute-requires
execute-requires g c =
    subst StaysInside (sym c.insert_text.ensures) (insert_stays c.args.table)
