use Rattle.std.proofs.Common.{◌≡◌, ◌∙◌, true, Some, None, ap, rules, sym}
use Rattle.std.specs.Option.{option_copied}
use Rattle.std.specs.Prelude.{is_some, option_map}
use Rattle.std.specs.BTreeMap.{get}
use Rattle.std.specs.Ordering.{nat_cmp}
use Rattle.numbers.specs.Abstraction.{routing_of}
use Rattle.sql_rows.specs.Versions.{next_of}
use Rattle.repair.proofs.Routed.{routed_by, unrouted}
use Rattle.repair.proofs.reading.with_routing.Goals as goal

pub returns-in-Some-clause-row : goal.returns-in-Some-clause-row
returns-in-Some-clause-row c =
    let all = c.args.routings.now in
    let sends : is_some (next_of c.args.found.row.status) ≡ true = search rules in
    let same : c.found.inside.0.0 ≡ c.args.found.id = search rules in
    let at : get nat_cmp all c.found.inside.0.0 ≡ Some c.in-Some.routing.now =
    sym c.get.ensures.value ∙ ap option_copied c.in-Some.is in
    routed_by (option_map routing_of (get nat_cmp all c.args.found.id))
    (routing_of c.in-Some.routing.now) c.args.found.row c.modified_to.result sends
    (ap (λ k. option_map routing_of (get nat_cmp all k)) (sym same)
    ∙ ap (option_map routing_of) at) c.modified_to.ensures

pub returns-in-None-clause-row : goal.returns-in-None-clause-row
returns-in-None-clause-row c =
    let all = c.args.routings.now in
    let same : c.found.inside.0.0 ≡ c.args.found.id = search rules in
    let at : get nat_cmp all c.found.inside.0.0 ≡ None =
    sym c.get.ensures.value ∙ ap option_copied c.in-None.is in
    unrouted (option_map routing_of (get nat_cmp all c.args.found.id)) c.args.found.row
    (ap (λ k. option_map routing_of (get nat_cmp all k)) (sym same)
    ∙ ap (option_map routing_of) at)
