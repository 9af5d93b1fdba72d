use Rattle.std.proofs.Common.{[], rules, subst}
use Rattle.std.specs.Prelude.{codes}
use Rattle.sqlite.specs.Held.{state}
use Rattle.sqlite.specs.State.{Executes}
use Rattle.sql_store.proofs.TransactionLemmas.{began, begin_survives, fails_so}
use Rattle.sql_store.proofs.transaction.begin.Goals as goal

pub returns-in_err-execute-clause-err : goal.returns-in_err-execute-clause-err
returns-in_err-execute-clause-err g c clean =
    let old = state g.S.Store c.args.conn.now in
    let new = state g.S.Store c.execute.new.self in
    let fails = fails_so (codes "BEGIN") [] old new _ (subst (Executes (codes "BEGIN") [] old new)
    c.in_err-execute.was (c.execute.ensures.runs clean)) in
    search (rules, fails)

pub returns-in_err-execute-clause-survives : goal.returns-in_err-execute-clause-survives
returns-in_err-execute-clause-survives g c =
    begin_survives (state g.S.Store c.args.conn.now) (state g.S.Store c.execute.new.self)
    c.execute.ensures.survives

pub returns-clause-begun : goal.returns-clause-begun
returns-clause-begun g c clean =
    let old = state g.S.Store c.args.conn.now in
    let new = state g.S.Store c.execute.new.self in
    began old new c.in_ok-execute.field-0 (subst (Executes (codes "BEGIN") [] old new)
    c.in_ok-execute.was (c.execute.ensures.runs clean))

pub returns-clause-survives : goal.returns-clause-survives
returns-clause-survives g c =
    begin_survives (state g.S.Store c.args.conn.now) (state g.S.Store c.execute.new.self)
    c.execute.ensures.survives
