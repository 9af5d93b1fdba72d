use Rattle.std.proofs.Common.{◌⊎◌, ℕ, List, None, Option, option_map, sym, subst}
use Rattle.numbers.specs.declared.minute.Minute.{Minute}
use Rattle.http_messages.specs.declared.message.NextMessage.{NextMessage}
use Rattle.api.specs.Crashes.{LeavesNext, LeavesStep, LeavesTick}
use Rattle.api.specs.Step.{IsUnavailableText, ticked}
use Rattle.api.proofs.Left.{left_after, left_as, step_left, tick_left}
use Rattle.api.proofs.StepLemmas.{tick_then, tick_withheld}
use Rattle.api.proofs.Withheld.{refused_or}
use Rattle.api.proofs.executor.tick_and_answer.Goals as goal

-- The supplied minute.
abbrev minute_of : Option Minute → Option ℕ
minute_of tick = option_map (λ (m : Minute). m.number) tick

pub returns-in-Ok-clause-responds : goal.returns-in-Ok-clause-responds
returns-in-Ok-clause-responds g c = λ u. (
  minute_of c.next-tick.result,
  c.next-tick.ensures,
  tick_then c.args.clock (minute_of c.next-tick.result)
      (g.S.StoreModel.failed c.args.register.now.store)
      (g.S.StoreModel.failed c.move_clock.new.register.store)
      (g.S.StoreModel.failed c.write_response.new.register.store)
      (g.S.StoreModel.content c.args.register.now.store)
      (g.S.StoreModel.content c.move_clock.new.register.store)
      (g.S.StoreModel.content c.write_response.new.register.store) c.args.request.now
      c.args.body.now _
      c.in-Ok.ensures.preserves.rises (c.in-Ok.ensures.moved (c.write_response.ensures.usable u))
      (c.write_response.ensures.step u),
)

pub returns-in-Err-clause-responds : goal.returns-in-Err-clause-responds
returns-in-Err-clause-responds g c = λ u. (
  minute_of c.next-tick.result,
  c.next-tick.ensures,
  tick_withheld c.args.clock (minute_of c.next-tick.result)
      (g.S.StoreModel.failed c.args.register.now.store) (g.S.StoreModel.failed
      c.move_clock.new.register.store)
      (g.S.StoreModel.content c.args.register.now.store)
      (g.S.StoreModel.content c.move_clock.new.register.store) c.args.request.now c.args.body.now _
      _
      c.in-Err.ensures.preserves.rises c.put_refused.ensures.text (c.in-Err.ensures.unavailable u),
)

pub returns-in-Err-clause-stays : goal.returns-in-Err-clause-stays
returns-in-Err-clause-stays g c = λ usable honest.
    subst (λ (t : List ℕ). IsUnavailableText t
    ⊎ g.S.StoreModel.IsUsable c.move_clock.new.register.store)
    (sym c.put_refused.ensures.text)
    (refused_or c.in-Err.refusal (λ answered. c.in-Err.ensures.preserves.stays answered usable
    honest))

pub returns-in-Ok-clause-left : goal.returns-in-Ok-clause-left
returns-in-Ok-clause-left g c =
    let old = g.S.StoreModel.content c.args.register.now.store in
    let mid = g.S.StoreModel.content c.move_clock.new.register.store in
    let tick = minute_of c.next-tick.result in
    let request = c.args.request.now in
    let body = c.args.body.now in
    left_after g.S.StoreModel c.args.register.now.store c.move_clock.new.register.store
    c.write_response.new.register.store (λ m. LeavesTick old m tick)
    (λ m. LeavesStep c.args.clock None mid m request body)
    (λ m. LeavesNext c.args.clock (g.T.Ticks.remaining c.args.ticks.now)
    (g.T.Ticks.remaining c.next-tick.new.self) old m (NextMessage.Message request) body)
    c.write_response.ensures.honest c.move_clock.ensures.preserves.usable
    c.move_clock.ensures.left c.write_response.ensures.left
    (λ m leaves. (
      tick,
      c.next-tick.ensures,
      λ n st s. tick_left c.args.clock request body n st m tick (leaves st s),
    ))
    (λ usable m leaves. (
      tick,
      c.next-tick.ensures,
      λ n st s. step_left c.args.clock request body n st m tick
          (leaves n (ticked st tick) (c.in-Ok.ensures.moved usable st s)),
    ))

pub returns-in-Err-clause-left : goal.returns-in-Err-clause-left
returns-in-Err-clause-left g c =
    let old = g.S.StoreModel.content c.args.register.now.store in
    let tick = minute_of c.next-tick.result in
    let request = c.args.request.now in
    let body = c.args.body.now in
    left_as g.S.StoreModel c.args.register.now.store c.move_clock.new.register.store
    (λ m. LeavesTick old m tick)
    (λ m. LeavesNext c.args.clock (g.T.Ticks.remaining c.args.ticks.now)
    (g.T.Ticks.remaining c.next-tick.new.self) old m (NextMessage.Message request) body)
    c.move_clock.ensures.left
    (λ m leaves. (
      tick,
      c.next-tick.ensures,
      λ n st s. tick_left c.args.clock request body n st m tick (leaves st s),
    ))
