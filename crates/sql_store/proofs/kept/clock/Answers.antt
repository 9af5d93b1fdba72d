use Rattle.std.proofs.Common.{sym}
use Rattle.sqlite.specs.Held.{state}
use Rattle.sql_store.specs.Kept.{IsClock}
use Rattle.sql_store.proofs.KeptLemmas.{kept_queried}
use Rattle.sql_store.proofs.kept.clock.Goals as goal

pub returns-in-Some-clause-value : goal.returns-in-Some-clause-value
returns-in-Some-clause-value g c up =
    sym ((c.args.db.now.are_kept.clock c.in-Some.row c.in-Some.is).is up)

pub returns-in-Some-clause-queried : goal.returns-in-Some-clause-queried
returns-in-Some-clause-queried g c =
    kept_queried IsClock (state g.S.Store c.args.db.now.conn) c.args.db.now.kept.clock
    c.in-Some.row c.in-Some.is c.args.db.now.are_kept.clock
