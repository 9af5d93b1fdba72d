use Rattle.std.proofs.Common.{IsTrue, rules}
use Rattle.sqlite.specs.Held.{state}
use Rattle.sqlite.specs.Values.{bound}
use Rattle.sql_store.proofs.TransactionLemmas.{executes_inside, inside_survives}
use Rattle.sql_store.proofs.transaction.execute.Goals as goal

pub returns-clause-runs : goal.returns-clause-runs
returns-clause-runs g c clean inside =
    executes_inside c.args.sql.now (bound c.args.params.now) (state g.S.Store c.args.conn.now)
    (state g.S.Store c.execute.new.self) c.requires inside c.execute.result
    (c.execute.ensures.runs clean)

pub returns-clause-survives : goal.returns-clause-survives
returns-clause-survives g c =
    let inside : IsTrue (state g.S.Store c.args.conn.now).in_transaction = search rules in
    inside_survives c.args.sql.now (bound c.args.params.now) (state g.S.Store c.args.conn.now)
    (state g.S.Store c.execute.new.self) c.requires inside c.execute.ensures.survives
