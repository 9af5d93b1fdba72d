use Rattle.std.proofs.Common.{ℕ, List, ◌++◌, drop}
use Rattle.model.specs.State.{State}
use Rattle.register.specs.Refinement.{Refines}
use Rattle.api.specs.Run.{Exchange}
use Rattle.hub.specs.Rows.{RowsFollow}
use Rattle.hub.specs.Schedules.{AreAnswered, Plays, TakesTurns, exchanges_at}
use Rattle.hub.specs.declared.client.Client.{Client}
use Rattle.hub.proofs.schedule.play.Given as goal

abbrev pub invariant-loop-scheduled : goal.invariant-loop-scheduled
invariant-loop-scheduled g l = record {
  follows : RowsFollow g.S.StoreModel l.fn.register.store l.register.store;
  plays : (new : List Client) → Plays (drop l.scheduled-index l.schedule) l.clients new
      → Plays l.schedule l.fn.clients new;
  law : g.S.StoreModel.IsUsable l.register.store → (st : State)
      → Refines (g.S.StoreModel.content l.fn.register.store) st
      → (earlier : ℕ → List Exchange) → AreAnswered l.fn.clients earlier
      → TakesTurns l.options.clock_route (g.S.StoreModel.failed l.fn.register.store)
      (g.S.StoreModel.failed l.register.store) st (g.S.StoreModel.content l.register.store)
      (g.T.Ticks.remaining l.fn.ticks) (g.T.Ticks.remaining l.ticks)
      (λ turns. AreAnswered l.clients (λ place. earlier place ++ exchanges_at place turns));
}
