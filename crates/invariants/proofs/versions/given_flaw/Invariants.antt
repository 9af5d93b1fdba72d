use Rattle.std.proofs.Common.{◌≡◌, ℕ, ◌<◌, None}
use Rattle.std.specs.FinMap.{get}
use Rattle.settle.specs.Abstraction.{clock_row_of}
use Rattle.invariants.specs.Seen.{AreAllSeen}
use Rattle.invariants.specs.Sound.{HasRow, IsVersionSound}
use Rattle.invariants.proofs.versions.given_flaw.Given as goal

abbrev pub invariant-loop-id : goal.invariant-loop-id
invariant-loop-id g l = record {
  same : g.S.StoreModel.IsUsable l.store → g.S.StoreModel.IsUsable l.fn.store
      × (g.S.StoreModel.content l.store ≡ g.S.StoreModel.content l.fn.store);
  judged : get (g.S.StoreModel.content l.fn.store).versions 0 ≡ None
      → g.S.StoreModel.IsUsable l.store
      → ((id : ℕ) → 0 < id → id < l.id → HasRow (g.S.StoreModel.content l.fn.store) id
      (IsVersionSound (g.S.StoreModel.content l.fn.store) (clock_row_of l.clock) id))
      × AreAllSeen (g.S.StoreModel.content l.fn.store) l.id l.seen;
}
