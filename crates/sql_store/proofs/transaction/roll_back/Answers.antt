use Rattle.std.proofs.Common.{IsTrue, rules}
use Rattle.sqlite.specs.Held.{state}
use Rattle.sql_store.proofs.TransactionLemmas.{roll_back_survives, rolled}
use Rattle.sql_store.proofs.transaction.roll_back.Goals as goal

pub returns-then-not-is_autocommit-clause-undone : goal.returns-then-not-is_autocommit-clause-undone
returns-then-not-is_autocommit-clause-undone g c clean =
    let inside : IsTrue (state g.S.Store c.args.conn.now).in_transaction = search rules in
    rolled (state g.S.Store c.args.conn.now) (state g.S.Store c.execute.new.self) c.execute.result
    inside (c.execute.ensures.runs clean)

pub returns-then-not-is_autocommit-clause-survives : goal.returns-then-not-is_autocommit-clause-survives
returns-then-not-is_autocommit-clause-survives g c =
    roll_back_survives (state g.S.Store c.args.conn.now) (state g.S.Store c.execute.new.self)
    c.execute.ensures.survives
