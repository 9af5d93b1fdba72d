use Rattle.std.proofs.Common.{◌≡◌, ◌++◌, map, drop, flat_map}
use Rattle.std.specs.Prelude.{All}
use Rattle.settle.specs.Abstraction.{broadcast_key_of}
use Rattle.report.specs.declared.life.Sent.{Sent}
use Rattle.report.specs.Life.{IsSent, keys_of}
use Rattle.report.proofs.life.read_sent.Given as goal

abbrev pub invariant-loop-version : goal.invariant-loop-version
invariant-loop-version g l = record {
  same : g.S.StoreModel.IsUsable l.store → g.S.StoreModel.IsUsable l.fn.store
      × (g.S.StoreModel.content l.store ≡ g.S.StoreModel.content l.fn.store);
  keys : g.S.StoreModel.IsUsable l.store → map (λ (s : Sent). broadcast_key_of s.key) l.sent.items
      ++ flat_map (keys_of (g.S.StoreModel.content l.fn.store)) (drop l.version-index l.versions)
      ≡ flat_map (keys_of (g.S.StoreModel.content l.fn.store)) l.versions;
  each : g.S.StoreModel.IsUsable l.store
      → All (IsSent (g.S.StoreModel.content l.fn.store)) l.sent.items;
}
