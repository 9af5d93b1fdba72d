use Rattle.std.proofs.Common.{◌≡◌, ◌⊎◌, ◌≤◌, drop, length, Some}
use Rattle.settle.specs.StoreContract.{BeginsNoGroup, EndsNoGroup}
use Rattle.api.specs.Executing.{StaysWithin}
use Rattle.api.proofs.Going.{Progress}
use Rattle.api.proofs.Left.{IsOfPrefix, Leaves}
use Rattle.api.proofs.Withheld.{Past}
use Rattle.api.proofs.executor.Executor.execute.Given as goal

abbrev pub invariant-loop-count : goal.invariant-loop-count
invariant-loop-count g l =
    (l.consumed ≤ length l.fn.input)
    × (g.S.StoreModel.IsUsable l.register.store → g.S.StoreModel.IsUsable l.fn.register.store)
    × (g.S.StoreModel.failed l.fn.register.store ≤ g.S.StoreModel.failed l.register.store)
    × (g.S.StoreModel.HasHonestDevice l.register.store
    → g.S.StoreModel.HasHonestDevice l.fn.register.store)
    × (g.S.StoreModel.IsUsable l.fn.register.store → g.S.StoreModel.HasHonestDevice l.register.store
    → g.S.StoreModel.IsUsable l.register.store
    ⊎ Past l.fn.options.clock_route (g.S.StoreModel.failed l.fn.register.store)
    (g.S.StoreModel.content l.fn.register.store) (Some l.fn.input) (Some l.fn.output.items)
    (g.T.Ticks.remaining l.fn.ticks) (Some l.output.items))
    × (g.S.StoreModel.IsUsable l.register.store
    → Progress l.fn.options.clock_route (g.S.StoreModel.failed l.fn.register.store)
    (g.S.StoreModel.failed l.register.store) (g.S.StoreModel.content l.fn.register.store)
    (g.S.StoreModel.content l.register.store) (Some l.fn.input) (Some (drop l.consumed l.fn.input))
    (Some l.fn.output.items) (Some l.output.items) (g.T.Ticks.remaining l.fn.ticks)
    (g.T.Ticks.remaining l.ticks) l.count)
    × BeginsNoGroup g.S.StoreModel l.fn.register.store l.register.store
    × EndsNoGroup g.S.StoreModel l.fn.register.store l.register.store
    × Leaves g.S.StoreModel l.fn.register.store l.register.store
    (IsOfPrefix l.fn.options.clock_route (g.S.StoreModel.failed l.fn.register.store)
    (g.S.StoreModel.content l.fn.register.store) l.fn.input (g.T.Ticks.remaining l.fn.ticks)
    l.fn.output.items l.output.items)
    × ((l.count ≡ 0) → (l.consumed ≡ 0) × (l.output ≡ l.fn.output))
    × StaysWithin l.fn.limit.output l.fn.output.items l.output.items
