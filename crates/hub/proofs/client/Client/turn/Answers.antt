use Rattle.std.proofs.Common.{◌∙◌, ap, ℕ, List, Some, drop, sym, subst, take}
use Rattle.api.specs.Executing.{Executes, consumed_of}
use Rattle.hub.specs.Connections.{ConnectionModel, connection_of, kept_of}
use Rattle.hub.proofs.Ahead.{kept_then}
use Rattle.hub.proofs.Turns.{open_with_work, turned}
use Rattle.hub.proofs.client.Client.turn.Goals as goal

pub returns-then-has_work-clause-law : goal.returns-then-has_work-clause-law
returns-then-has_work-clause-law g c = λ usable st s earlier is.
    turned c.args.options.now.clock_route
    (g.S.StoreModel.failed c.args.register.now.store)
    (g.S.StoreModel.failed c.execute_ahead.new.register.store) st
    (g.S.StoreModel.content c.execute_ahead.new.register.store)
    (g.T.Ticks.remaining c.args.ticks.now)
    (g.T.Ticks.remaining c.execute_ahead.new.ticks) (connection_of c.args.self.now.connection)
    (connection_of c.keep_ahead.new.self) c.execute_ahead.result
    (take c.args.self.now.arrived c.args.self.now.stream.items) c.args.self.now.received.items
    earlier
    (subst (λ (has : List ℕ). Executes c.execute_ahead.result c.args.options.now.clock_route
    (connection_of c.args.self.now.connection).has_ended
    (g.S.StoreModel.failed c.args.register.now.store)
    (g.S.StoreModel.failed c.execute_ahead.new.register.store) st
    (g.S.StoreModel.content c.execute_ahead.new.register.store)
    (record {
      input = (connection_of c.args.self.now.connection).unread;
      unread = Some (drop (consumed_of c.execute_ahead.result)
          (connection_of c.args.self.now.connection).unread);
      ticks_before = g.T.Ticks.remaining c.args.ticks.now;
      ticks_after = g.T.Ticks.remaining c.execute_ahead.new.ticks;
      written_before = Some (connection_of c.args.self.now.connection).unsent;
      written_after = Some has;
    })) (sym (ap (λ (m : ConnectionModel). m.unsent) c.keep_ahead.ensures.kept))
    (c.execute_ahead.ensures.executes usable st s))
    (kept_then (connection_of c.args.self.now.connection) (kept_of c.execute_ahead.new.self)
    (connection_of c.keep_ahead.new.self) c.execute_ahead.result c.keep_ahead.ensures.kept
    c.execute_ahead.ensures.ahead)
    (open_with_work (connection_of c.args.self.now.connection)
    (sym c.has_work.ensures ∙ c.if-has_work.true)) is
