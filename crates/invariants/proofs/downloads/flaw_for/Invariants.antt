use Rattle.std.proofs.Common.{◌≡◌, take}
use Rattle.std.specs.Prelude.{All}
use Rattle.settle.specs.Abstraction.{spid_of}
use Rattle.invariants.proofs.Pending.{HaveSentAbout}
use Rattle.invariants.proofs.downloads.flaw_for.Given as goal

abbrev pub invariant-loop-subject : goal.invariant-loop-subject
invariant-loop-subject g l = record {
  same : g.S.StoreModel.IsUsable l.store → g.S.StoreModel.IsUsable l.initial.store
      × (g.S.StoreModel.content l.store ≡ g.S.StoreModel.content l.initial.store);
  about : g.S.StoreModel.IsUsable l.store
      → All (HaveSentAbout (g.S.StoreModel.content l.initial.store) (spid_of l.spid))
      (take l.subject-index l.subject-items);
}
