use Rattle.std.proofs.Common.{◌≡◌, ◌⊎◌, ℕ, List, [], Some, drop, sym, subst}
use Rattle.model.specs.State.{State}
use Rattle.register.specs.Refinement.{Refines}
use Rattle.settle.specs.StoreContract.{AddsOnlyCrashStates}
use Rattle.api.specs.Crashes.{LeavesPrefix}
use Rattle.api.specs.Executing.{Executes, consumed_of}
use Rattle.api.specs.Serving.{WritesUntil}
use Rattle.hub.specs.Connections.{connection_of, queued}
use Rattle.hub.proofs.Ahead.{ahead_of, executed_from, nothing_unsent, unsent_ahead}
use Rattle.hub.proofs.Chains.{renamed}
use Rattle.hub.proofs.connection.Connection.execute_ahead.Goals as goal

pub returns-clause-stays : goal.returns-clause-stays
returns-clause-stays g c = ahead_of (connection_of c.args.self.now) c.requires.work

pub returns-clause-ahead : goal.returns-clause-ahead
returns-clause-ahead g c =
    executed_from (connection_of c.args.self.now) c.execute-result.result
    (drop c.clear.new.self.start c.execute-result.new.output.items)

pub returns-clause-executes : goal.returns-clause-executes
returns-clause-executes g c = λ usable st s.
    unsent_ahead (connection_of c.args.self.now) c.execute-result.result
    (drop c.clear.new.self.start c.execute-result.new.output.items)
    (λ has. Executes c.execute-result.result c.args.options.now.clock_route
    c.args.self.now.has_ended (g.S.StoreModel.failed c.args.register.now.store)
    (g.S.StoreModel.failed c.execute-result.new.register.store) st
    (g.S.StoreModel.content c.execute-result.new.register.store)
    (record {
      input = queued c.args.self.now.input;
      unread = Some (drop (consumed_of c.execute-result.result) (queued c.args.self.now.input));
      ticks_before = g.T.Ticks.remaining c.args.ticks.now;
      ticks_after = g.T.Ticks.remaining c.execute-result.new.ticks;
      written_before = Some (connection_of c.args.self.now).unsent;
      written_after = Some has;
    }))
    (renamed
    (λ input had has. Executes c.execute-result.result c.args.options.now.clock_route
    c.args.self.now.has_ended
    (g.S.StoreModel.failed c.args.register.now.store)
    (g.S.StoreModel.failed c.execute-result.new.register.store) st
    (g.S.StoreModel.content c.execute-result.new.register.store)
    (record {
      input = input;
      unread = Some (drop (consumed_of c.execute-result.result) input);
      ticks_before = g.T.Ticks.remaining c.args.ticks.now;
      ticks_after = g.T.Ticks.remaining c.execute-result.new.ticks;
      written_before = Some had;
      written_after = Some has;
    })) _ _ _ _ _ _
    c.as_slice-input.ensures (nothing_unsent (connection_of c.args.self.now)
    c.requires.work c.clear.new.self.bytes.items c.clear.ensures.bytes) c.clear.ensures.start
    (c.execute-result.ensures.executes usable st s))

pub returns-clause-until : goal.returns-clause-until
returns-clause-until g c = λ usable honest.
    unsent_ahead (connection_of c.args.self.now) c.execute-result.result
    (drop c.clear.new.self.start c.execute-result.new.output.items)
    (λ has. g.S.StoreModel.IsUsable c.execute-result.new.register.store
    ⊎ ((st : State) → Refines (g.S.StoreModel.content c.args.register.now.store) st
    → WritesUntil c.args.options.now.clock_route
    (g.S.StoreModel.failed c.args.register.now.store) st (queued c.args.self.now.input)
    (g.T.Ticks.remaining c.args.ticks.now) (Some (connection_of c.args.self.now).unsent)
    (Some has)))
    (renamed
    (λ input had has. g.S.StoreModel.IsUsable c.execute-result.new.register.store ⊎ ((st : State)
    → Refines (g.S.StoreModel.content c.args.register.now.store) st
    → WritesUntil c.args.options.now.clock_route
    (g.S.StoreModel.failed c.args.register.now.store) st input
    (g.T.Ticks.remaining c.args.ticks.now) (Some had) (Some has))) _ _ _ _ _ _
    c.as_slice-input.ensures (nothing_unsent (connection_of c.args.self.now)
    c.requires.work c.clear.new.self.bytes.items c.clear.ensures.bytes) c.clear.ensures.start
    (c.execute-result.ensures.until usable honest))

pub returns-clause-left : goal.returns-clause-left
returns-clause-left g c =
    let Leaves : (input had has : List ℕ) → Type 0 =
    λ input had has. AddsOnlyCrashStates g.S.StoreModel c.args.register.now.store
    c.execute-result.new.register.store
    (λ m. g.S.StoreModel.IsUsable c.args.register.now.store × ((st : State)
    → Refines (g.S.StoreModel.content c.args.register.now.store) st
    → LeavesPrefix c.args.options.now.clock_route
    (g.S.StoreModel.failed c.args.register.now.store) st input
    (g.T.Ticks.remaining c.args.ticks.now) had has m)) in
    unsent_ahead (connection_of c.args.self.now) c.execute-result.result
    (drop c.clear.new.self.start c.execute-result.new.output.items)
    (Leaves (queued c.args.self.now.input) (connection_of c.args.self.now).unsent)
    (renamed Leaves _ _ _ _ _ _ c.as_slice-input.ensures
    (nothing_unsent (connection_of c.args.self.now) c.requires.work
    c.clear.new.self.bytes.items c.clear.ensures.bytes) c.clear.ensures.start
    c.execute-result.ensures.left)
