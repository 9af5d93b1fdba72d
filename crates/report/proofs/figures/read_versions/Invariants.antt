use Rattle.std.proofs.Common.{◌≡◌}
use Rattle.report.specs.Counts.{AreCounts}
use Rattle.report.specs.Figures.{number_of}
use Rattle.report.specs.Life.{AreVersionsOf}
use Rattle.report.proofs.figures.read_versions.Given as goal

abbrev pub invariant-loop-id : goal.invariant-loop-id
invariant-loop-id g l = record {
  same : g.S.StoreModel.IsUsable l.store → g.S.StoreModel.IsUsable l.fn.store
      × (g.S.StoreModel.content l.store ≡ g.S.StoreModel.content l.fn.store);
  counts : g.S.StoreModel.IsUsable l.store
      → AreCounts (g.S.StoreModel.content l.fn.store) l.clock.minute.number l.id l.counts;
  found : g.S.StoreModel.IsUsable l.store
      → AreVersionsOf (g.S.StoreModel.content l.fn.store) (number_of l.number) l.id l.found.items;
}
