use Rattle.std.proofs.Common.{◌≡◌, ◌++◌, map, drop}
use Rattle.std.specs.Prelude.{All}
use Rattle.report.specs.Carriers.{DescribesCarrier}
use Rattle.report.specs.declared.carriers.CarrierFigures.{CarrierFigures}
use Rattle.settle.specs.Abstraction.{spid_of}
use Rattle.report.proofs.carriers.read_carriers.Given as goal

abbrev pub invariant-loop-spid : goal.invariant-loop-spid
invariant-loop-spid g l = record {
  same : g.S.StoreModel.IsUsable l.store → g.S.StoreModel.IsUsable l.initial.store
      × (g.S.StoreModel.content l.store ≡ g.S.StoreModel.content l.initial.store);
  all : map (λ (f : CarrierFigures). f.spid.number) l.figures.items
      ++ map spid_of (drop l.spid-index l.spid-items) ≡ map spid_of l.spid-items;
  each : g.S.StoreModel.IsUsable l.store
      → All (DescribesCarrier (g.S.StoreModel.content l.initial.store)) l.figures.items;
}
