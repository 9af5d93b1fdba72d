use Rattle.std.proofs.Common.{rules, ◌≡◌, Some, None, slice_index_or, sym, subst}
use Rattle.std.specs.Prelude.{IsSomeAnd}
use Rattle.version.specs.Abstraction.{routings_of}
use Rattle.store.specs.Ranks.{subject_at}
use Rattle.store.specs.RoutingRows.{IsRoutingOf, no_routing}
use Rattle.store.proofs.RoutingRows.{routing-held}
use Rattle.store.proofs.VersionRows.{row-at}
use Rattle.store.proofs.versions.Versions.routing_in_force.Goals as goal

pub returns-then-packed-rank : goal.returns-then-packed-rank
returns-then-packed-rank c =
    let there : slice_index_or c.args.self.now.routings.items c.args.id no_routing
    ≡ c.in_ok-packed.packed.now = search rules in
    let is : IsRoutingOf (slice_index_or c.args.self.now.rows.items c.args.id None)
    c.in_ok-packed.packed.now = subst (λ p. IsRoutingOf (slice_index_or c.args.self.now.rows.items
    c.args.id None) p) there (c.args.self.now.have_routings c.args.id) in
    subst (λ o. IsSomeAnd o (λ row. (row.holds ≡ Some (subject_at c.args.rank))
    × (row.routing ≡ routings_of c.routing_at.result)))
    (sym (row-at c.args.self.now.rows.items c.args.id))
    (routing-held _ c.in_ok-packed.packed.now c.args.rank _ is (search rules) (search rules)
    (search rules))
