use Rattle.std.proofs.Common.{ap, map, ◌∙◌}
use Rattle.sqlite.specs.Held.{state}
use Rattle.settle.specs.Abstraction.{spid_of}
use Rattle.sql_store.specs.Kept.{AreAllCarriers}
use Rattle.sql_store.proofs.KeptLemmas.{kept_queried}
use Rattle.sql_store.proofs.kept.carriers.Goals as goal

pub returns-in-Some-clause-value : goal.returns-in-Some-clause-value
returns-in-Some-clause-value g c up =
    ap (map spid_of) (c.in_ok-all.ensures ∙ c.as_slice.ensures.value)
    ∙ (c.args.db.now.are_kept.carriers c.in-Some.all c.in-Some.is).is up

pub returns-in-Some-clause-queried : goal.returns-in-Some-clause-queried
returns-in-Some-clause-queried g c =
    kept_queried AreAllCarriers (state g.S.Store c.args.db.now.conn) c.args.db.now.kept.carriers
    c.in-Some.all c.in-Some.is c.args.db.now.are_kept.carriers
