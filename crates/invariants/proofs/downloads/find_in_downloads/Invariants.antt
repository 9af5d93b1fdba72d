use Rattle.std.proofs.Common.{◌≡◌, take}
use Rattle.std.specs.Prelude.{All}
use Rattle.invariants.proofs.Pending.{HaveSentFor}
use Rattle.invariants.proofs.downloads.find_in_downloads.Given as goal

abbrev pub invariant-loop-spid : goal.invariant-loop-spid
invariant-loop-spid g l = record {
  same : g.S.StoreModel.IsUsable l.store → g.S.StoreModel.IsUsable l.initial.store
      × (g.S.StoreModel.content l.store ≡ g.S.StoreModel.content l.initial.store);
  each : g.S.StoreModel.IsUsable l.store
      → All (HaveSentFor (g.S.StoreModel.content l.initial.store))
      (take l.spid-index l.spid-items);
}
