use Rattle.std.proofs.Common.{drop}
use Rattle.std.specs.FinMap.{FinMap}
use Rattle.numbers.specs.Subjects.{Subject}
use Rattle.model.specs.Content.{wait_cmp}
use Rattle.store.specs.Tables.{AreWaitsDeleted}
use Rattle.store.proofs.commit.delete_waits.Given as goal

-- Deleting the rest deletes all of them.
abbrev pub invariant-loop-key : goal.invariant-loop-key
invariant-loop-key l = (last : FinMap wait_cmp Subject)
    → AreWaitsDeleted (drop l.key-index l.keys) l.waits last
    → AreWaitsDeleted l.keys l.initial.waits last
