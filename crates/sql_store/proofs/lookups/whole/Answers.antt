use Rattle.std.proofs.Common.{◌≡◌, true, refl, rules, subst}
use Rattle.std.specs.FinMap.{get}
use Rattle.std.specs.Prelude.{is_some, option_map}
use Rattle.sqlite.specs.Held.{state}
use Rattle.numbers.specs.Abstraction.{routing_of}
use Rattle.sql_rows.specs.Content.{nexts_in}
use Rattle.sql_rows.specs.Versions.{next_of}
use Rattle.sql_store.proofs.LookupLemmas.{routed_next, unrouted_next}
use Rattle.sql_store.proofs.lookups.whole.Goals as goal

pub returns-in-Some-clause-value : goal.returns-in-Some-clause-value
returns-in-Some-clause-value g c up =
    let db = (state g.S.Store c.args.db.now.conn).now.trees in
    let same : c.found.inside.0.0 ≡ c.args.found.id = search rules in
    let sends : is_some (next_of c.args.found.row.status) ≡ true = search rules in
    let is = subst (λ k. option_map routing_of c.in_ok-next.next ≡ get (nexts_in (db 16)) k) same
    (c.in_ok-next.ensures.value up) in (
      same,
      routed_next db c.args.found c.in_ok-next.next c.in-Some.routing c.modified_to.result sends
          c.in-Some.is is c.modified_to.ensures,
    )

pub returns-in-None-clause-value : goal.returns-in-None-clause-value
returns-in-None-clause-value g c up =
    let db = (state g.S.Store c.args.db.now.conn).now.trees in
    let same : c.found.inside.0.0 ≡ c.args.found.id = search rules in
    let is = subst (λ k. option_map routing_of c.in_ok-next.next ≡ get (nexts_in (db 16)) k) same
    (c.in_ok-next.ensures.value up) in
    (refl, unrouted_next db c.args.found c.in_ok-next.next c.in-None.is is)
