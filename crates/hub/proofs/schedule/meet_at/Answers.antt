use Rattle.std.proofs.Common.{◌<◌, inr, refl, arith, length, slice_index_or}
use Rattle.std.proofs.lemmas.Option.{slice_get-get_or}
use Rattle.hub.proofs.Played.{on_ok, one_turn}
use Rattle.hub.proofs.schedule.meet_at.Goals as goal

pub returns-then-scheduled-clients-clause-happens : goal.returns-then-scheduled-clients-clause-happens
returns-then-scheduled-clients-clause-happens g c =
    let within : c.args.scheduled.place < length c.args.clients.now =
    omega (arith, c.if-scheduled-clients.true) in
    on_ok c.meet.result _ _ (λ happens. inr (
      slice_index_or c.args.clients.now c.args.scheduled.place c.index-clients-scheduled.result,
      c.meet.new.self,
      slice_get-get_or c.args.clients.now c.args.scheduled.place c.index-clients-scheduled.result
          within,
      refl,
      happens,
    )) c.meet.ensures.happens

pub returns-then-scheduled-clients-clause-law : goal.returns-then-scheduled-clients-clause-law
returns-then-scheduled-clients-clause-law g c = λ usable st s earlier were.
    let within : c.args.scheduled.place < length c.args.clients.now =
    omega (arith, c.if-scheduled-clients.true) in
    one_turn c.args.options.now.clock_route (g.S.StoreModel.failed c.args.register.now.store)
    (g.S.StoreModel.failed c.meet.new.register.store) st
    (g.S.StoreModel.content c.meet.new.register.store) (g.T.Ticks.remaining c.args.ticks.now)
    (g.T.Ticks.remaining c.meet.new.ticks) c.args.clients.now c.args.scheduled.place
    c.meet.new.self earlier were
    (c.meet.ensures.law usable st s (earlier c.args.scheduled.place)
    (were c.args.scheduled.place
    (slice_index_or c.args.clients.now c.args.scheduled.place c.index-clients-scheduled.result)
    (slice_get-get_or c.args.clients.now c.args.scheduled.place c.index-clients-scheduled.result
    within)))
