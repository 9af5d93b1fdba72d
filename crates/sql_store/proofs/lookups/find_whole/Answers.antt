use Rattle.std.proofs.Common.{true}
use Rattle.sqlite.specs.Held.{state}
use Rattle.sql_store.proofs.CallLemmas.{looked_then}
use Rattle.sql_store.proofs.lookups.find_whole.Goals as goal

pub returns-in_ok-row-in-Some-clause-queried : goal.returns-in_ok-row-in-Some-clause-queried
returns-in_ok-row-in-Some-clause-queried g c =
    looked_then (state g.S.Store c.args.db.now.conn) (state g.S.Store c.find.new.db.conn)
    (state g.S.Store c.whole.new.db.conn) true c.in_ok-found.ensures.queried
    c.in_ok-row-in-Some.ensures.queried
