use Rattle.std.proofs.Common.{rules, Some, ◌∙◌, ap, sym, subst}
use Rattle.store.specs.Maps.{set}
use Rattle.store.specs.RoutingRows.{IsRoutingOf}
use Rattle.store.specs.VersionRows.{rows_of}
use Rattle.store.proofs.RoutingRows.{routing-written}
use Rattle.store.proofs.VersionRows.{row-written}
use Rattle.store.proofs.versions.Versions.write.Goals as goal

pub returns-then-place-len-clause-written : goal.returns-then-place-len-clause-written
returns-then-place-len-clause-written c =
    row-written c.args.self.now.rows.items c.args.id (Some c.of.result) c.requires
    ∙ ap (λ r. set (rows_of c.args.self.now) c.args.id (Some r)) c.of.ensures

pub returns-else-place-len-clause-written : goal.returns-else-place-len-clause-written
returns-else-place-len-clause-written c =
    row-written c.args.self.now.rows.items c.args.id (Some c.of.result) c.requires
    ∙ ap (λ r. set (rows_of c.args.self.now) c.args.id (Some r)) c.of.ensures

pub invariant_of-self : goal.invariant_of-self
invariant_of-self c =
    let packed = subst (λ r. IsRoutingOf (Some r) c.of-then-place-len.result) (sym c.of.ensures)
    c.of-then-place-len.ensures in
    record {
      have_routings = routing-written c.args.self.now.rows.items c.args.self.now.routings.items
          c.args.id (Some c.of.result) c.args.self.now.have_routings c.requires
          c.of-then-place-len.result packed (search rules);
    }
