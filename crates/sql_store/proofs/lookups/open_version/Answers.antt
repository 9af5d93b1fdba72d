use Rattle.std.proofs.Common.{refl}
use Rattle.sqlite.specs.Held.{state}
use Rattle.sql_store.proofs.LookupLemmas.{open_is}
use Rattle.sql_store.proofs.lookups.open_version.Goals as goal

pub returns-clause-value : goal.returns-clause-value
returns-clause-value g c up =
    let ours = c.args.db.now.ours (c.in_ok-found.ensures.queried.same refl up).was_open in
    open_is (state g.S.Store c.args.db.now.conn).now.trees c.subject.result ours.shaped c.args.of
    c.subject.ensures c.in_ok-found.found (c.in_ok-found.ensures.value up)
