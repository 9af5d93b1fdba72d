use Rattle.std.proofs.Common.{rules, ap, subst, ◌∙◌, map, refl}
use Rattle.std.specs.Prelude.{IsTrue}
use Rattle.std.specs.List.{filter_map}
use Rattle.settle.specs.declared.rows.NumberedRow.{NumberedRow}
use Rattle.sqlite.specs.Held.{state}
use Rattle.sql_rows.specs.Found.{IsListAnswer}
use Rattle.sql_rows.specs.Versions.{version_in}
use Rattle.sql_rows.specs.declared.statement.Query.TheVariants.{InForceAmong}
use Rattle.sql_rows.proofs.QueriesListed.{in_force_picked, version_seen}
use Rattle.sql_store.specs.Routed.{routed_in}
use Rattle.sql_store.proofs.LookupLemmas.{two_bound}
use Rattle.sql_store.proofs.RoutedLemmas.{Rises, routed_are}
use Rattle.sql_store.proofs.routed.in_force.Goals as goal

pub returns-clause-value : goal.returns-clause-value
returns-clause-value g c up =
    let old = state g.S.Store c.args.db.now.conn in
    let found = c.in_ok-found.found.items in
    let was = (c.in_ok-found.ensures.queried.same refl up).was_open in
    let params = two_bound c.number.result c.number-2.result 0 9223372036854775807 c.number.ensures
    c.number-2.ensures in
    let answer =
    subst (λ p. IsListAnswer InForceAmong version_in old.now.trees p (map version_seen found))
    params (c.in_ok-found.ensures.value up) in
    let are = c.in_ok-rows.ensures ∙ ap (filter_map (λ (v : NumberedRow). routed_in v.row))
    c.as_slice.ensures.value in
    let passed : IsTrue c.rise.result = search rules in
    routed_are old.now.trees found c.in_ok-rows.rows.items _
    (in_force_picked old.now.trees (c.args.db.now.ours was).shaped 0 9223372036854775807 found
    answer)
    are
    c.put_in_order_by_subject.ensures (subst Rises c.as_slice-2.ensures.value
    (c.rise.ensures passed))
