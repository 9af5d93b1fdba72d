use Rattle.std.proofs.Common.{◌≤◌, length, take}
use Rattle.std.specs.FinMap.{FinMap}
use Rattle.numbers.specs.Subjects.{Subject}
use Rattle.model.specs.Content.{wait_cmp}
use Rattle.store.specs.Batch.{AreNew}
use Rattle.store.proofs.commit.take_back.Given as goal

abbrev pub invariant-loop-left : goal.invariant-loop-left
invariant-loop-left l = (l.left ≤ length l.downloads)
    × ((start : FinMap wait_cmp Subject)
    → AreNew (take l.fn.count l.downloads) start l.initial.waits
    → AreNew (take l.left l.downloads) start l.waits)

abbrev pub decreases-loop-left : goal.decreases-loop-left
decreases-loop-left l = l.left
