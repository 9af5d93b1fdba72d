use Rattle.std.proofs.Common.{◌≤◌, length, drop}
use Rattle.store.specs.Tables.{AreStale}
use Rattle.store.specs.VersionRows.{rows_of}
use Rattle.store.proofs.reads.last_due.Given as goal

abbrev pub invariant-loop-left : goal.invariant-loop-left
invariant-loop-left l = (l.left ≤ length l.ids)
    × AreStale (rows_of l.versions) l.minute (drop l.left l.ids)

abbrev pub decreases-loop-left : goal.decreases-loop-left
decreases-loop-left l = l.left
