use Rattle.std.proofs.Common.{◌≡◌}
use Rattle.report.specs.Life.{AddsSent, keys_up_to}
use Rattle.report.proofs.life.add_sent.Given as goal

abbrev pub invariant-loop-earlier : goal.invariant-loop-earlier
invariant-loop-earlier g l = record {
  same : g.S.StoreModel.IsUsable l.store → g.S.StoreModel.IsUsable l.fn.store
      × (g.S.StoreModel.content l.store ≡ g.S.StoreModel.content l.fn.store);
  sent : g.S.StoreModel.IsUsable l.store → AddsSent (g.S.StoreModel.content l.fn.store)
      (keys_up_to (g.S.StoreModel.content l.fn.store) l.id l.earlier)
      l.fn.sent.items l.sent.items;
}
