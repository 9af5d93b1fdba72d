use Rattle.std.proofs.Common.{◌≤◌, drop}
use Rattle.settle.specs.StoreContract.{AddsOnlyCrashStates, BeginsNoGroup, EndsNoGroup}
use Rattle.settle.specs.Settling.{PreservesAtClock}
use Rattle.settle.specs.Abstraction.{clock_row_of}
use Rattle.settle.proofs.SettledEach.{SettlesUpTo}
use Rattle.settle.proofs.settling.fire_subjects.Given as goal

abbrev pub invariant-loop-subject : goal.invariant-loop-subject
invariant-loop-subject g l =
    (g.S.StoreModel.IsUsable l.store → g.S.StoreModel.IsUsable l.fn.store)
    × (g.S.StoreModel.failed l.fn.store ≤ g.S.StoreModel.failed l.store)
    × (g.S.StoreModel.HasHonestDevice l.store → g.S.StoreModel.HasHonestDevice l.fn.store)
    × (g.S.StoreModel.IsUsable l.fn.store → g.S.StoreModel.HasHonestDevice l.store
    → g.S.StoreModel.IsUsable l.store)
    × (g.S.StoreModel.IsUsable l.store → SettlesUpTo (clock_row_of l.clock) l.subjects
    (drop l.subject-index l.subjects) (g.S.StoreModel.content l.fn.store)
    (g.S.StoreModel.content l.store))
    × (g.S.StoreModel.IsUsable l.fn.store
    → AddsOnlyCrashStates g.S.StoreModel l.fn.store
    l.store (PreservesAtClock (clock_row_of l.clock) (g.S.StoreModel.content l.fn.store)))
    × BeginsNoGroup g.S.StoreModel l.fn.store l.store
    × EndsNoGroup g.S.StoreModel l.fn.store l.store
