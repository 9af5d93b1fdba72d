use Rattle.std.proofs.Common.{rules, true, subst, map, refl}
use Rattle.std.specs.Prelude.{IsTrue}
use Rattle.sqlite.specs.Held.{state}
use Rattle.sql_rows.specs.Values.{bool_value}
use Rattle.sql_rows.specs.Content.{broadcast_in}
use Rattle.sql_rows.specs.Found.{IsListAnswer}
use Rattle.sql_rows.specs.declared.statement.Query.TheVariants.{BroadcastsByOpen}
use Rattle.sql_rows.proofs.QueriesListed.{broadcast_seen, broadcasts_picked}
use Rattle.sql_store.specs.Store.{content_at}
use Rattle.sql_store.proofs.LookupLemmas.{one_bound}
use Rattle.sql_store.proofs.BroadcastLemmas.{Rises, broadcasts_are}
use Rattle.sql_store.proofs.lists.open_broadcasts.Goals as goal

pub returns-clause-value : goal.returns-clause-value
returns-clause-value g c up =
    let old = state g.S.Store c.args.db.now.conn in
    let found = c.in_ok-broadcasts.broadcasts.items in
    let params = one_bound c.truth.result (bool_value true) refl c.truth.ensures in
    let answer =
    subst (λ p. IsListAnswer BroadcastsByOpen broadcast_in old.now.trees p
    (map broadcast_seen found)) params (c.in_ok-broadcasts.ensures.value up) in
    let passed : IsTrue c.rise.result = search rules in
    broadcasts_are (content_at old) found _ (broadcasts_picked old.now.trees
    (c.in_ok-broadcasts.ensures.once up) found answer) c.put_in_order_by_key.ensures
    (subst Rises c.as_slice.ensures.value (c.rise.ensures passed))
