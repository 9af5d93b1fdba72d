use Rattle.std.proofs.Common.{◌≡◌, take}
use Rattle.std.specs.Prelude.{All}
use Rattle.numbers.specs.Abstraction.{subject_of}
use Rattle.invariants.proofs.Pending.{HasSent}
use Rattle.invariants.proofs.downloads.flaw_about.Given as goal

abbrev pub invariant-loop-download : goal.invariant-loop-download
invariant-loop-download g l = record {
  same : g.S.StoreModel.IsUsable l.store → g.S.StoreModel.IsUsable l.initial.store
      × (g.S.StoreModel.content l.store ≡ g.S.StoreModel.content l.initial.store);
  sent : g.S.StoreModel.IsUsable l.store
      → All (HasSent (g.S.StoreModel.content l.initial.store) (subject_of l.subject))
      (take l.download-index l.download-items);
}
