use Rattle.std.proofs.Common.{◌⊎◌, ◌≤◌, length}
use Rattle.http_messages.specs.ReadBuffer.{buffered_bytes, remaining_input}
use Rattle.api.specs.Executing.{IsReady}
use Rattle.api.proofs.Going.{Progress}
use Rattle.api.proofs.Withheld.{Past}
use Rattle.api.proofs.serving.serve.Given as goal

abbrev pub invariant-loop-count : goal.invariant-loop-count
invariant-loop-count g l =
    (length (buffered_bytes l.buffer) ≤ 8192) × IsReady (buffered_bytes l.buffer) l.arrived
    × (g.S.StoreModel.IsUsable l.register.store → g.S.StoreModel.IsUsable l.fn.register.store)
    × (g.S.StoreModel.failed l.fn.register.store ≤ g.S.StoreModel.failed l.register.store)
    × (g.S.StoreModel.HasHonestDevice l.register.store
    → g.S.StoreModel.HasHonestDevice l.fn.register.store)
    × (g.S.StoreModel.IsUsable l.fn.register.store → g.S.StoreModel.HasHonestDevice l.register.store
    → g.S.StoreModel.IsUsable l.register.store
    ⊎ Past l.fn.options.clock_route (g.S.StoreModel.failed l.fn.register.store)
    (g.S.StoreModel.content l.fn.register.store) (g.R.Read.remaining l.fn.reader)
    (g.W.Write.contents l.fn.writer) (g.T.Ticks.remaining l.fn.ticks) (g.W.Write.contents l.writer))
    × (g.S.StoreModel.IsUsable l.register.store
    → Progress l.fn.options.clock_route (g.S.StoreModel.failed l.fn.register.store)
    (g.S.StoreModel.failed l.register.store) (g.S.StoreModel.content l.fn.register.store)
    (g.S.StoreModel.content l.register.store) (g.R.Read.remaining l.fn.reader)
    (remaining_input l.buffer (g.R.Read.remaining l.reader)) (g.W.Write.contents l.fn.writer)
    (g.W.Write.contents l.writer) (g.T.Ticks.remaining l.fn.ticks) (g.T.Ticks.remaining l.ticks)
    l.count)
