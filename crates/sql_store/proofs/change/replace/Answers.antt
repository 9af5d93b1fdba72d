use Rattle.std.proofs.Common.{rules, ◌≡◌, true, false, is_ok, sym, subst, true≢false}
use Rattle.sqlite.specs.Held.{state}
use Rattle.sqlite.specs.Values.{bound}
use Rattle.sql_rows.specs.Written.{Replaced}
use Rattle.sql_rows.proofs.ReplaceLemmas.{exchanges}
use Rattle.sql_store.specs.Store.{WritesInTransaction}
use Rattle.sql_store.proofs.CallLemmas.{clean_if_open, replaces, statement_writes}
use Rattle.sql_store.proofs.TransactionLemmas.{replace_stays}
use Rattle.sql_store.proofs.change.replace.Goals as goal

pub execute-requires : goal.execute-requires
execute-requires g c = replace_stays c.args.table c.in-Some.text.now (sym c.in-Some.ensures)

pub returns-in_err-execute-in-Some : goal.returns-in_err-execute-in-Some
returns-in_err-execute-in-Some g c =
    let old = state g.S.Store c.args.conn.now in
    let new = state g.S.Store c.execute.new.conn in
    let key = bound c.args.key.now in
    let params = bound c.args.row.now in
    let fails : is_ok c.from_residual.result ≡ false = search rules in
    subst (λ b. WritesInTransaction old new b (Replaced c.args.table key params)) (sym fails)
    (statement_writes g.S.Store c.args.conn.now c.execute.new.conn
    c.in-Some.text.now params c.execute.result false (Replaced c.args.table key params)
    (clean_if_open new.is_clean new.is_open (g.met.S.Store.shut_if_dirty _)) c.execute.ensures.ended
    c.execute.ensures.runs c.execute.ensures.survives (λ bad. absurd (true≢false (sym bad)))
    (λ count inside h. exchanges c.args.table c.in-Some.text.now (sym c.in-Some.ensures) params old
    new inside.schema count (inside.shaped c.args.table) key c.requires h))

pub returns-in_ok-execute-in-Some : goal.returns-in_ok-execute-in-Some
returns-in_ok-execute-in-Some g c =
    let old = state g.S.Store c.args.conn.now in
    let new = state g.S.Store c.execute.new.conn in
    let key = bound c.args.key.now in
    let params = bound c.args.row.now in
    statement_writes g.S.Store c.args.conn.now c.execute.new.conn
    c.in-Some.text.now params c.execute.result true (Replaced c.args.table key params)
    (clean_if_open new.is_clean new.is_open (g.met.S.Store.shut_if_dirty _)) c.execute.ensures.ended
    c.execute.ensures.runs c.execute.ensures.survives
    (λ _. (c.in_ok-execute-in-Some.field-0, c.in_ok-execute-in-Some.was))
    (λ count inside h. exchanges c.args.table c.in-Some.text.now (sym c.in-Some.ensures) params old
    new inside.schema count (inside.shaped c.args.table) key c.requires h)

pub returns-in_ok-insert-in-None : goal.returns-in_ok-insert-in-None
returns-in_ok-insert-in-None g c =
    let a = state g.S.Store c.args.conn.now in
    let b = state g.S.Store c.take.new.conn in
    let d = state g.S.Store c.insert.new.conn in
    replaces a b d c.args.table (bound c.args.key.now) (bound c.args.row.now) true
    c.in_ok-take-in-None.ensures c.in_ok-insert-in-None.ensures
