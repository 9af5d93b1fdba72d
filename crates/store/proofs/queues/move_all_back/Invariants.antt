use Rattle.std.proofs.Common.{drop}
use Rattle.std.specs.FinMap.{FinMap}
use Rattle.numbers.specs.Subjects.{Subject}
use Rattle.model.specs.Content.{wait_cmp}
use Rattle.store.specs.Batch.{AreNew}
use Rattle.store.specs.QueueRows.{AreCursors, AreUpTo}
use Rattle.store.specs.WaitRows.{Download}
use Rattle.store.proofs.queues.move_all_back.Given as goal

-- The rest is still to be added, and the cursors hold without it.
abbrev pub invariant-loop-key : goal.invariant-loop-key
invariant-loop-key l = record {
  cursors : (old new : FinMap wait_cmp Subject) → AreNew l.downloads old new
      → AreCursors l.initial.cursors.entries old
      → (mid : FinMap wait_cmp Subject) × AreNew (drop l.key-index l.downloads) mid new
      × AreCursors l.cursors.entries mid;
  latest : (latest : Download) → AreUpTo l.initial.cursors.entries latest
      → AreUpTo l.cursors.entries latest;
}
