use Rattle.std.proofs.Common.{◌<◌, arith, length}
use Rattle.hub.proofs.Played.{next_played, no_turns, turns_then}
use Rattle.hub.proofs.RowsLemmas.{rows_stay, rows_then}
use Rattle.hub.proofs.schedule.play.Goals as goal

pub loop-scheduled-init : goal.loop-scheduled-init
loop-scheduled-init g c = record {
  follows = rows_stay g.S.StoreModel c.args.register.now.store;
  plays = λ new plays. plays;
  law = λ usable st s earlier were. no_turns c.args.options.now.clock_route
      (g.S.StoreModel.failed c.args.register.now.store) st
      (g.S.StoreModel.content c.args.register.now.store) (g.T.Ticks.remaining c.args.ticks.now)
      c.args.clients.now earlier s were;
}

pub returns-in_err-meet_at-clause-law : goal.returns-in_err-meet_at-clause-law
returns-in_err-meet_at-clause-law g c = λ usable st s earlier were.
    turns_then c.args.options.now.clock_route (g.S.StoreModel.failed c.args.register.now.store)
    (g.S.StoreModel.failed c.loop-scheduled.register.store)
    (g.S.StoreModel.failed c.meet_at.new.register.store) st
    (g.S.StoreModel.content c.loop-scheduled.register.store)
    (g.S.StoreModel.content c.meet_at.new.register.store) (g.T.Ticks.remaining c.args.ticks.now)
    (g.T.Ticks.remaining c.loop-scheduled.ticks) (g.T.Ticks.remaining c.meet_at.new.ticks)
    c.loop-scheduled.clients c.meet_at.new.clients earlier
    (c.loop-scheduled.invariant.law (c.meet_at.ensures.follows.usable usable) st s earlier were)
    (c.meet_at.ensures.law usable)

pub returns-in_err-meet_at-clause-follows : goal.returns-in_err-meet_at-clause-follows
returns-in_err-meet_at-clause-follows g c =
    rows_then g.S.StoreModel _ c.loop-scheduled.register.store _ c.loop-scheduled.invariant.follows
    c.meet_at.ensures.follows

pub loop-scheduled-preserved : goal.loop-scheduled-preserved
loop-scheduled-preserved g c =
    let within : c.loop-scheduled.scheduled-index < length c.args.schedule.now =
    omega (arith, c.loop-scheduled-test.true) in record {
      follows = rows_then g.S.StoreModel _ c.loop-scheduled.register.store _
          c.loop-scheduled.invariant.follows c.meet_at.ensures.follows;
      plays = λ new plays. c.loop-scheduled.invariant.plays new
          (next_played _ _ _ _ _ _ within c.in_ok-meet_at.ensures.happens plays);
      law = λ usable st s earlier were.
          turns_then c.args.options.now.clock_route
          (g.S.StoreModel.failed c.args.register.now.store)
          (g.S.StoreModel.failed c.loop-scheduled.register.store)
          (g.S.StoreModel.failed c.meet_at.new.register.store) st
          (g.S.StoreModel.content c.loop-scheduled.register.store)
          (g.S.StoreModel.content c.meet_at.new.register.store)
          (g.T.Ticks.remaining c.args.ticks.now)
          (g.T.Ticks.remaining c.loop-scheduled.ticks) (g.T.Ticks.remaining c.meet_at.new.ticks)
          c.loop-scheduled.clients c.meet_at.new.clients earlier
          (c.loop-scheduled.invariant.law (c.meet_at.ensures.follows.usable usable) st s earlier
          were)
          (c.meet_at.ensures.law usable);
    }
