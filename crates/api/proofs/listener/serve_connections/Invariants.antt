use Rattle.std.proofs.Common.{◌≤◌}
use Rattle.model.specs.State.{State}
use Rattle.register.specs.Refinement.{Refines}
use Rattle.api.specs.Serving.{RefinesReachable}
use Rattle.api.proofs.listener.serve_connections.Given as goal

abbrev pub invariant-loop : goal.invariant-loop
invariant-loop g l = record {
  usable : g.S.StoreModel.IsUsable l.register.store → g.S.StoreModel.IsUsable l.fn.register.store;
  rises : g.S.StoreModel.failed l.fn.register.store ≤ g.S.StoreModel.failed l.register.store;
  follows : g.S.StoreModel.IsUsable l.register.store → (st : State)
      → Refines (g.S.StoreModel.content l.fn.register.store) st
      → RefinesReachable st (g.S.StoreModel.content l.register.store);
}
