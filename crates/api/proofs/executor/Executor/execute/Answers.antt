use Rattle.std.proofs.Common.{◌≡◌, inr, ℕ, ◌+◌, List, [], Some, append-nil, drop, string_bytes, not, sym, ap, ◌∙◌, subst, arith, length-drop}
use Rattle.std.proofs.Math.Nat.{le_trans}
use Rattle.http_messages.specs.Arrived.{HasArrived}
use Rattle.http_messages.specs.Sending.{AppendsPrefix}
use Rattle.api.specs.Crashes.{LeavesNext}
use Rattle.api.specs.Executing.{ExecutesTo, HasNoMessage, body_of}
use Rattle.api.specs.Serving.{Responds}
use Rattle.api.specs.declared.executor.Progress.TheVariants.{Paused}
use Rattle.api.proofs.Going.{Progress, ends_with, parted, state_then, went_on, whole_to}
use Rattle.api.proofs.Left.{Leaves, left_on}
use Rattle.api.proofs.NextLemmas.{next_within}
use Rattle.api.proofs.RunLemmas.{appended, dropped_more, ends_at, next_here, not_appended, no_more, nothing_appended, nothing_whole, pauses_at, reads_so, rest_is, stops_at, unread_after}
use Rattle.api.proofs.Withheld.{already, further, further_partly, still, stopped, stopped_partly, stops}
use Rattle.api.proofs.executor.Executor.execute.Goals as goal

pub returns-in-Err-clause-executes : goal.returns-in-Err-clause-executes
returns-in-Err-clause-executes g c =
    λ usable st s. stops_at _ _ _ _ _ _ _ _ (drop c.loop-count.consumed c.args.input.now)
    c.next_arrived-arrived.result c.in-Err.progress
    (subst (λ b. HasArrived b c.args.has_ended c.next_arrived-arrived.result) (rest_is
    c.args.input.now c.loop-count.consumed) c.next_arrived-arrived.ensures.arrived) c.in-Err.ensures
    (whole_to c.args.options.now.clock_route (g.S.StoreModel.failed c.args.register.now.store)
    (g.S.StoreModel.failed c.loop-count.register.store) (g.S.StoreModel.content
    c.args.register.now.store) (g.S.StoreModel.content c.loop-count.register.store) (Some
    c.args.input.now) (Some (drop c.loop-count.consumed c.args.input.now)) (Some
    c.args.output.now.items) (Some c.loop-count.output.items) (g.T.Ticks.remaining c.args.ticks.now)
    (g.T.Ticks.remaining c.loop-count.ticks) c.loop-count.count (c.loop-count.invariant.5 usable)
    (Some (drop c.loop-count.consumed c.args.input.now)) st s)

pub returns-in-Err-clause-until : goal.returns-in-Err-clause-until
returns-in-Err-clause-until g c =
    λ usable honest. already (c.loop-count.invariant.4 usable honest) (stops
    c.args.options.now.clock_route (g.S.StoreModel.failed c.args.register.now.store)
    (g.S.StoreModel.content c.args.register.now.store) (Some c.args.input.now) (Some
    c.args.output.now.items) (g.T.Ticks.remaining c.args.ticks.now) (Some
    c.loop-count.output.items))

pub returns-then-is_err-clause-executes : goal.returns-then-is_err-clause-executes
returns-then-is_err-clause-executes g c =
    λ usable st s.
    let at = c.loop-count.invariant.5 (c.respond-end.ensures.usable usable) in
    let comes = (next_here (drop c.loop-count.consumed c.args.input.now) c.args.has_ended
    c.next_arrived-arrived.result c.in-Ok.next (subst (λ b. HasArrived b c.args.has_ended
    c.next_arrived-arrived.result) (rest_is c.args.input.now c.loop-count.consumed)
    c.next_arrived-arrived.ensures.arrived) c.in-Ok.ensures) in
    let lost = parted c.args.options.now.clock_route (g.S.StoreModel.failed
    c.args.register.now.store) (g.S.StoreModel.failed c.loop-count.register.store)
    (g.S.StoreModel.content c.args.register.now.store) (g.S.StoreModel.content
    c.loop-count.register.store) (Some c.args.input.now) (Some (drop c.loop-count.consumed
    c.args.input.now)) (Some c.args.output.now.items) (Some c.loop-count.output.items)
    (g.T.Ticks.remaining c.args.ticks.now) (g.T.Ticks.remaining c.loop-count.ticks)
    c.loop-count.count at (g.S.StoreModel.failed c.respond-end.new.register.store)
    (g.S.StoreModel.content c.respond-end.new.register.store) (Some (drop c.in-Ok.next.end (drop
    c.loop-count.consumed c.args.input.now))) (g.T.Ticks.remaining c.respond-end.new.ticks) (body_of
    c.in-Ok.next (drop c.loop-count.consumed c.args.input.now)) (string_bytes
    c.respond-end.new.self.response.text) (Some c.extend_from_slice.new.self.items) (unread_after
    c.in-Ok.next.message (drop c.loop-count.consumed c.args.input.now) (drop c.in-Ok.next.end (drop
    c.loop-count.consumed c.args.input.now)))
    c.in-Ok.next.message comes
    (reads_so c.in-Ok.next.message (drop c.loop-count.consumed c.args.input.now) (drop
    c.in-Ok.next.end (drop c.loop-count.consumed c.args.input.now)) (body_of c.in-Ok.next (drop
    c.loop-count.consumed c.args.input.now)) comes)
    (subst (λ b. Responds c.args.options.now.clock_route (g.T.Ticks.remaining c.loop-count.ticks)
    (g.T.Ticks.remaining c.respond-end.new.ticks) (g.S.StoreModel.failed
    c.loop-count.register.store) (g.S.StoreModel.failed c.respond-end.new.register.store)
    c.in-Ok.next.message (body_of c.in-Ok.next b) (string_bytes
    c.respond-end.new.self.response.text) (g.S.StoreModel.content c.loop-count.register.store)
    (g.S.StoreModel.content c.respond-end.new.register.store)) (rest_is c.args.input.now
    c.loop-count.consumed) (c.respond-end.ensures.responds usable))
    (subst (λ (t : List ℕ). AppendsPrefix (Some c.loop-count.output.items) (Some t) (string_bytes
    c.respond-end.new.self.response.text)) (sym (not_appended c.loop-count.output.items
    c.extend_from_slice.new.self.items _ _ c.extend_from_slice.ensures.items
    (c.is_err.ensures.negation ∙ ap not c.if-is_err.true))) (nothing_appended
    c.loop-count.output.items (string_bytes c.respond-end.new.self.response.text))) st s in (
      (unread_after c.in-Ok.next.message (drop c.loop-count.consumed c.args.input.now) (drop
          c.in-Ok.next.end (drop c.loop-count.consumed c.args.input.now))),
      lost.0,
      lost.1,
    )

pub returns-then-is_err-clause-until : goal.returns-then-is_err-clause-until
returns-then-is_err-clause-until g c =
    λ usable honest.
    let was = c.respond-end.ensures.honest honest in
    let sent = (subst (λ (t : List ℕ). AppendsPrefix (Some c.loop-count.output.items) (Some t)
    (string_bytes c.respond-end.new.self.response.text)) (sym (not_appended
    c.loop-count.output.items c.extend_from_slice.new.self.items _ _
    c.extend_from_slice.ensures.items (c.is_err.ensures.negation ∙ ap not c.if-is_err.true)))
    (nothing_appended c.loop-count.output.items (string_bytes
    c.respond-end.new.self.response.text))) in
    still (c.loop-count.invariant.4 usable was)
    (λ still_usable. c.respond-end.ensures.stays still_usable honest)
    (λ still_usable withheld. stopped_partly c.args.options.now.clock_route (g.S.StoreModel.failed
    c.args.register.now.store) (g.S.StoreModel.content c.args.register.now.store) (Some
    c.args.input.now) (Some c.args.output.now.items) (g.T.Ticks.remaining c.args.ticks.now)
    (g.S.StoreModel.failed c.loop-count.register.store) (g.S.StoreModel.content
    c.loop-count.register.store) (Some (drop c.loop-count.consumed c.args.input.now)) (Some
    c.loop-count.output.items) (g.T.Ticks.remaining c.loop-count.ticks) c.loop-count.count
    (c.loop-count.invariant.5 still_usable)
    (Some (drop c.in-Ok.next.end (drop c.loop-count.consumed c.args.input.now))) (body_of
    c.in-Ok.next (drop c.loop-count.consumed c.args.input.now)) (string_bytes
    c.respond-end.new.self.response.text) (Some c.extend_from_slice.new.self.items)
    c.in-Ok.next.message (next_here (drop c.loop-count.consumed c.args.input.now) c.args.has_ended
    c.next_arrived-arrived.result c.in-Ok.next (subst (λ b. HasArrived b c.args.has_ended
    c.next_arrived-arrived.result) (rest_is c.args.input.now c.loop-count.consumed)
    c.next_arrived-arrived.ensures.arrived) c.in-Ok.ensures) sent withheld)
    (further_partly c.args.options.now.clock_route (g.S.StoreModel.failed c.args.register.now.store)
    (g.S.StoreModel.content c.args.register.now.store) (Some c.args.input.now) (Some
    c.args.output.now.items) (g.T.Ticks.remaining c.args.ticks.now) (Some c.loop-count.output.items)
    (Some c.extend_from_slice.new.self.items) (string_bytes c.respond-end.new.self.response.text)
    sent)

pub returns-then-is_err-clause-state : goal.returns-then-is_err-clause-state
returns-then-is_err-clause-state g c =
    λ usable.
    let at = c.loop-count.invariant.5 (c.respond-end.ensures.usable usable) in
    state_then c.args.options.now.clock_route (g.S.StoreModel.failed c.args.register.now.store)
    (g.S.StoreModel.failed c.loop-count.register.store) (g.S.StoreModel.content
    c.args.register.now.store) (g.S.StoreModel.content c.loop-count.register.store) (Some
    c.args.input.now) (Some (drop c.loop-count.consumed c.args.input.now)) (Some
    c.args.output.now.items) (Some c.loop-count.output.items) (g.T.Ticks.remaining c.args.ticks.now)
    (g.T.Ticks.remaining c.loop-count.ticks) c.loop-count.count at (g.S.StoreModel.failed
    c.respond-end.new.register.store) (g.S.StoreModel.content c.respond-end.new.register.store)
    (Some (drop c.in-Ok.next.end (drop c.loop-count.consumed c.args.input.now)))
    (g.T.Ticks.remaining c.respond-end.new.ticks) (body_of c.in-Ok.next (drop c.loop-count.consumed
    c.args.input.now)) (string_bytes c.respond-end.new.self.response.text) c.in-Ok.next.message
    (subst (λ b. Responds c.args.options.now.clock_route (g.T.Ticks.remaining c.loop-count.ticks)
    (g.T.Ticks.remaining c.respond-end.new.ticks) (g.S.StoreModel.failed
    c.loop-count.register.store) (g.S.StoreModel.failed c.respond-end.new.register.store)
    c.in-Ok.next.message (body_of c.in-Ok.next b) (string_bytes
    c.respond-end.new.self.response.text) (g.S.StoreModel.content c.loop-count.register.store)
    (g.S.StoreModel.content c.respond-end.new.register.store)) (rest_is c.args.input.now
    c.loop-count.consumed) (c.respond-end.ensures.responds usable))

pub returns-in-Some-clause-state : goal.returns-in-Some-clause-state
returns-in-Some-clause-state g c =
    λ usable.
    let at = c.loop-count.invariant.5 (c.respond-end.ensures.usable usable) in
    state_then c.args.options.now.clock_route (g.S.StoreModel.failed c.args.register.now.store)
    (g.S.StoreModel.failed c.loop-count.register.store) (g.S.StoreModel.content
    c.args.register.now.store) (g.S.StoreModel.content c.loop-count.register.store) (Some
    c.args.input.now) (Some (drop c.loop-count.consumed c.args.input.now)) (Some
    c.args.output.now.items) (Some c.loop-count.output.items) (g.T.Ticks.remaining c.args.ticks.now)
    (g.T.Ticks.remaining c.loop-count.ticks) c.loop-count.count at (g.S.StoreModel.failed
    c.respond-end.new.register.store) (g.S.StoreModel.content c.respond-end.new.register.store)
    (Some (drop c.in-Ok.next.end (drop c.loop-count.consumed c.args.input.now)))
    (g.T.Ticks.remaining c.respond-end.new.ticks) (body_of c.in-Ok.next (drop c.loop-count.consumed
    c.args.input.now)) (string_bytes c.respond-end.new.self.response.text) c.in-Ok.next.message
    (subst (λ b. Responds c.args.options.now.clock_route (g.T.Ticks.remaining c.loop-count.ticks)
    (g.T.Ticks.remaining c.respond-end.new.ticks) (g.S.StoreModel.failed
    c.loop-count.register.store) (g.S.StoreModel.failed c.respond-end.new.register.store)
    c.in-Ok.next.message (body_of c.in-Ok.next b) (string_bytes
    c.respond-end.new.self.response.text) (g.S.StoreModel.content c.loop-count.register.store)
    (g.S.StoreModel.content c.respond-end.new.register.store)) (rest_is c.args.input.now
    c.loop-count.consumed) (c.respond-end.ensures.responds usable))

pub returns-in-Some-clause-executes : goal.returns-in-Some-clause-executes
returns-in-Some-clause-executes g c =
    λ usable st s.
    let at = c.loop-count.invariant.5 (c.respond-end.ensures.usable usable) in
    let ends = sym c.respond-end.ensures.end ∙ c.in-Some.is in
    ends_at _ _ _ _ _ _ _ _ c.args.input.now c.loop-count.consumed c.next_arrived-arrived.result
    c.in-Ok.next c.in-Some.end (subst (λ b. HasArrived b c.args.has_ended
    c.next_arrived-arrived.result) (rest_is c.args.input.now c.loop-count.consumed)
    c.next_arrived-arrived.ensures.arrived) c.in-Ok.ensures ends
    (ends_with c.args.options.now.clock_route (g.S.StoreModel.failed c.args.register.now.store)
    (g.S.StoreModel.failed c.loop-count.register.store) (g.S.StoreModel.content
    c.args.register.now.store) (g.S.StoreModel.content c.loop-count.register.store) (Some
    c.args.input.now) (Some (drop c.loop-count.consumed c.args.input.now)) (Some
    c.args.output.now.items) (Some c.loop-count.output.items) (g.T.Ticks.remaining c.args.ticks.now)
    (g.T.Ticks.remaining c.loop-count.ticks) c.loop-count.count at (g.S.StoreModel.failed
    c.respond-end.new.register.store) (g.S.StoreModel.content c.respond-end.new.register.store)
    (Some (drop c.in-Ok.next.end (drop c.loop-count.consumed c.args.input.now)))
    (g.T.Ticks.remaining c.respond-end.new.ticks) (body_of c.in-Ok.next (drop c.loop-count.consumed
    c.args.input.now)) (string_bytes c.respond-end.new.self.response.text) (Some
    c.extend_from_slice.new.self.items)
    (Some (drop (c.loop-count.consumed + c.in-Ok.next.end) c.args.input.now))
    c.in-Ok.next.message c.in-Some.end ends (next_here (drop c.loop-count.consumed c.args.input.now)
    c.args.has_ended c.next_arrived-arrived.result c.in-Ok.next (subst (λ b. HasArrived b
    c.args.has_ended c.next_arrived-arrived.result) (rest_is c.args.input.now c.loop-count.consumed)
    c.next_arrived-arrived.ensures.arrived) c.in-Ok.ensures)
    (subst (λ b. Responds c.args.options.now.clock_route (g.T.Ticks.remaining c.loop-count.ticks)
    (g.T.Ticks.remaining c.respond-end.new.ticks) (g.S.StoreModel.failed
    c.loop-count.register.store) (g.S.StoreModel.failed c.respond-end.new.register.store)
    c.in-Ok.next.message (body_of c.in-Ok.next b) (string_bytes
    c.respond-end.new.self.response.text) (g.S.StoreModel.content c.loop-count.register.store)
    (g.S.StoreModel.content c.respond-end.new.register.store)) (rest_is c.args.input.now
    c.loop-count.consumed) (c.respond-end.ensures.responds usable)) (appended
    c.loop-count.output.items c.extend_from_slice.new.self.items _ _ _
    c.extend_from_slice.ensures.items (c.is_err.ensures.negation ∙ ap not c.if-is_err.false)
    c.as_bytes.ensures.value) st s)

pub returns-in-Some-clause-until : goal.returns-in-Some-clause-until
returns-in-Some-clause-until g c =
    λ usable honest.
    let was = c.respond-end.ensures.honest honest in
    let sent = (appended c.loop-count.output.items c.extend_from_slice.new.self.items _ _ _
    c.extend_from_slice.ensures.items (c.is_err.ensures.negation ∙ ap not c.if-is_err.false)
    c.as_bytes.ensures.value) in
    still (c.loop-count.invariant.4 usable was)
    (λ still_usable. c.respond-end.ensures.stays still_usable honest)
    (λ still_usable withheld. stops c.args.options.now.clock_route (g.S.StoreModel.failed
    c.args.register.now.store) (g.S.StoreModel.content c.args.register.now.store) (Some
    c.args.input.now) (Some c.args.output.now.items) (g.T.Ticks.remaining c.args.ticks.now) (Some
    c.extend_from_slice.new.self.items) (stopped c.args.options.now.clock_route
    (g.S.StoreModel.failed c.args.register.now.store) (g.S.StoreModel.content
    c.args.register.now.store) (Some c.args.input.now) (Some c.args.output.now.items)
    (g.T.Ticks.remaining c.args.ticks.now) (g.S.StoreModel.failed c.loop-count.register.store)
    (g.S.StoreModel.content c.loop-count.register.store) (Some (drop c.loop-count.consumed
    c.args.input.now)) (Some c.loop-count.output.items) (g.T.Ticks.remaining c.loop-count.ticks)
    c.loop-count.count
    (c.loop-count.invariant.5 still_usable) (Some (drop c.in-Ok.next.end (drop c.loop-count.consumed
    c.args.input.now))) (body_of c.in-Ok.next (drop c.loop-count.consumed c.args.input.now))
    (string_bytes c.respond-end.new.self.response.text) (Some c.extend_from_slice.new.self.items)
    c.in-Ok.next.message (next_here (drop c.loop-count.consumed c.args.input.now) c.args.has_ended
    c.next_arrived-arrived.result c.in-Ok.next (subst (λ b. HasArrived b c.args.has_ended
    c.next_arrived-arrived.result) (rest_is c.args.input.now c.loop-count.consumed)
    c.next_arrived-arrived.ensures.arrived) c.in-Ok.ensures) sent
    withheld))
    (λ past. stops c.args.options.now.clock_route (g.S.StoreModel.failed c.args.register.now.store)
    (g.S.StoreModel.content c.args.register.now.store) (Some c.args.input.now) (Some
    c.args.output.now.items) (g.T.Ticks.remaining c.args.ticks.now) (Some
    c.extend_from_slice.new.self.items) (further c.args.options.now.clock_route
    (g.S.StoreModel.failed c.args.register.now.store) (g.S.StoreModel.content
    c.args.register.now.store) (Some c.args.input.now) (Some c.args.output.now.items)
    (g.T.Ticks.remaining c.args.ticks.now) (Some c.loop-count.output.items) (Some
    c.extend_from_slice.new.self.items) (string_bytes c.respond-end.new.self.response.text) sent
    past))

pub returns-then-is_err-clause-left : goal.returns-then-is_err-clause-left
returns-then-is_err-clause-left g c =
    let rest = drop c.loop-count.consumed c.args.input.now in
    let comes = next_here rest c.args.has_ended c.next_arrived-arrived.result c.in-Ok.next
    (subst (λ b. HasArrived b c.args.has_ended c.next_arrived-arrived.result)
    (rest_is c.args.input.now c.loop-count.consumed) c.next_arrived-arrived.ensures.arrived)
    c.in-Ok.ensures in
    left_on g.S.StoreModel c.args.options.now.clock_route c.args.register.now.store
    c.loop-count.register.store c.respond-end.new.register.store c.args.input.now
    (g.T.Ticks.remaining c.args.ticks.now) c.args.output.now.items c.loop-count.output.items
    c.extend_from_slice.new.self.items [] c.loop-count.count
    (Some rest) (Some (drop c.in-Ok.next.end rest)) (g.T.Ticks.remaining c.loop-count.ticks)
    (g.T.Ticks.remaining c.respond-end.new.ticks) c.in-Ok.next.message (body_of c.in-Ok.next rest)
    c.respond-end.ensures.honest c.loop-count.invariant.1 c.loop-count.invariant.8
    c.loop-count.invariant.5 comes
    (subst (λ b. Leaves g.S.StoreModel c.loop-count.register.store
    c.respond-end.new.register.store (λ m. LeavesNext c.args.options.now.clock_route
    (g.T.Ticks.remaining c.loop-count.ticks) (g.T.Ticks.remaining c.respond-end.new.ticks)
    (g.S.StoreModel.content c.loop-count.register.store) m c.in-Ok.next.message
    (body_of c.in-Ok.next b))) (rest_is c.args.input.now c.loop-count.consumed)
    c.respond-end.ensures.left)
    (not_appended c.loop-count.output.items c.extend_from_slice.new.self.items _ _
    c.extend_from_slice.ensures.items (c.is_err.ensures.negation ∙ ap not c.if-is_err.true)
    ∙ sym (append-nil c.loop-count.output.items))

pub returns-in-Some-clause-left : goal.returns-in-Some-clause-left
returns-in-Some-clause-left g c =
    let rest = drop c.loop-count.consumed c.args.input.now in
    let comes = next_here rest c.args.has_ended c.next_arrived-arrived.result c.in-Ok.next
    (subst (λ b. HasArrived b c.args.has_ended c.next_arrived-arrived.result)
    (rest_is c.args.input.now c.loop-count.consumed) c.next_arrived-arrived.ensures.arrived)
    c.in-Ok.ensures in
    left_on g.S.StoreModel c.args.options.now.clock_route c.args.register.now.store
    c.loop-count.register.store c.respond-end.new.register.store c.args.input.now
    (g.T.Ticks.remaining c.args.ticks.now) c.args.output.now.items c.loop-count.output.items
    c.extend_from_slice.new.self.items (string_bytes c.respond-end.new.self.response.text)
    c.loop-count.count (Some rest) (Some (drop c.in-Ok.next.end rest))
    (g.T.Ticks.remaining c.loop-count.ticks)
    (g.T.Ticks.remaining c.respond-end.new.ticks) c.in-Ok.next.message (body_of c.in-Ok.next rest)
    c.respond-end.ensures.honest c.loop-count.invariant.1 c.loop-count.invariant.8
    c.loop-count.invariant.5 comes
    (subst (λ b. Leaves g.S.StoreModel c.loop-count.register.store
    c.respond-end.new.register.store (λ m. LeavesNext c.args.options.now.clock_route
    (g.T.Ticks.remaining c.loop-count.ticks) (g.T.Ticks.remaining c.respond-end.new.ticks)
    (g.S.StoreModel.content c.loop-count.register.store) m c.in-Ok.next.message
    (body_of c.in-Ok.next b))) (rest_is c.args.input.now c.loop-count.consumed)
    c.respond-end.ensures.left)
    (appended c.loop-count.output.items c.extend_from_slice.new.self.items _ _ _
    c.extend_from_slice.ensures.items (c.is_err.ensures.negation ∙ ap not c.if-is_err.false)
    c.as_bytes.ensures.value)

pub loop-count-preserved : goal.loop-count-preserved
loop-count-preserved g c =
    let within = next_within (drop c.loop-count.consumed c.args.input.now) c.args.has_ended
    c.next_arrived-arrived.result c.in-Ok.next
    (subst (λ b. HasArrived b c.args.has_ended c.next_arrived-arrived.result) (rest_is
    c.args.input.now c.loop-count.consumed) c.next_arrived-arrived.ensures.arrived) c.in-Ok.ensures
    in (
      omega (
        arith,
        c.loop-count.invariant.0,
        within.1,
        length-drop c.loop-count.consumed c.args.input.now,
      ),
      λ usable. c.loop-count.invariant.1 (c.respond-end.ensures.usable usable),
      le_trans c.loop-count.invariant.2 c.respond-end.ensures.rises,
      λ honest. c.loop-count.invariant.3 (c.respond-end.ensures.honest honest),
      λ usable honest.
          let was = c.respond-end.ensures.honest honest in
          let sent = (appended c.loop-count.output.items c.extend_from_slice.new.self.items _ _ _
          c.extend_from_slice.ensures.items (c.is_err.ensures.negation ∙ ap not c.if-is_err.false)
          c.as_bytes.ensures.value) in
          still (c.loop-count.invariant.4 usable was)
          (λ still_usable. c.respond-end.ensures.stays still_usable honest)
          (λ still_usable withheld. stopped c.args.options.now.clock_route (g.S.StoreModel.failed
          c.args.register.now.store) (g.S.StoreModel.content c.args.register.now.store) (Some
          c.args.input.now) (Some c.args.output.now.items) (g.T.Ticks.remaining c.args.ticks.now)
          (g.S.StoreModel.failed c.loop-count.register.store) (g.S.StoreModel.content
          c.loop-count.register.store) (Some (drop c.loop-count.consumed c.args.input.now)) (Some
          c.loop-count.output.items) (g.T.Ticks.remaining c.loop-count.ticks) c.loop-count.count
          (c.loop-count.invariant.5 still_usable) (Some (drop c.in-Ok.next.end (drop
          c.loop-count.consumed c.args.input.now)))
          (body_of c.in-Ok.next (drop c.loop-count.consumed c.args.input.now)) (string_bytes
          c.respond-end.new.self.response.text) (Some c.extend_from_slice.new.self.items)
          c.in-Ok.next.message (next_here (drop c.loop-count.consumed c.args.input.now)
          c.args.has_ended c.next_arrived-arrived.result c.in-Ok.next (subst (λ b. HasArrived b
          c.args.has_ended c.next_arrived-arrived.result) (rest_is c.args.input.now
          c.loop-count.consumed) c.next_arrived-arrived.ensures.arrived) c.in-Ok.ensures) sent
          withheld)
          (further c.args.options.now.clock_route (g.S.StoreModel.failed c.args.register.now.store)
          (g.S.StoreModel.content c.args.register.now.store) (Some c.args.input.now) (Some
          c.args.output.now.items) (g.T.Ticks.remaining c.args.ticks.now) (Some
          c.loop-count.output.items) (Some c.extend_from_slice.new.self.items) (string_bytes
          c.respond-end.new.self.response.text) sent),
      λ usable.
          let at = c.loop-count.invariant.5 (c.respond-end.ensures.usable usable) in
          subst (λ (t : List ℕ). Progress c.args.options.now.clock_route (g.S.StoreModel.failed
          c.args.register.now.store) (g.S.StoreModel.failed c.respond-end.new.register.store)
          (g.S.StoreModel.content c.args.register.now.store) (g.S.StoreModel.content
          c.respond-end.new.register.store) (Some c.args.input.now) (Some t)
          (Some c.args.output.now.items) (Some c.extend_from_slice.new.self.items)
          (g.T.Ticks.remaining c.args.ticks.now) (g.T.Ticks.remaining c.respond-end.new.ticks)
          (c.loop-count.count + 1))
          (dropped_more c.args.input.now c.loop-count.consumed c.in-Ok.next.end)
          (went_on c.args.options.now.clock_route (g.S.StoreModel.failed c.args.register.now.store)
          (g.S.StoreModel.failed c.loop-count.register.store) (g.S.StoreModel.content
          c.args.register.now.store) (g.S.StoreModel.content c.loop-count.register.store) (Some
          c.args.input.now) (Some (drop c.loop-count.consumed c.args.input.now)) (Some
          c.args.output.now.items) (Some c.loop-count.output.items) (g.T.Ticks.remaining
          c.args.ticks.now) (g.T.Ticks.remaining c.loop-count.ticks) c.loop-count.count at
          (g.S.StoreModel.failed c.respond-end.new.register.store) (g.S.StoreModel.content
          c.respond-end.new.register.store) (Some (drop c.in-Ok.next.end (drop c.loop-count.consumed
          c.args.input.now))) (g.T.Ticks.remaining c.respond-end.new.ticks) (body_of c.in-Ok.next
          (drop c.loop-count.consumed c.args.input.now)) (string_bytes
          c.respond-end.new.self.response.text) (Some c.extend_from_slice.new.self.items) (Some
          (drop c.in-Ok.next.end (drop c.loop-count.consumed c.args.input.now)))
          c.in-Ok.next.message
          (sym c.respond-end.ensures.end ∙ c.in_default.is) (next_here (drop c.loop-count.consumed
          c.args.input.now) c.args.has_ended c.next_arrived-arrived.result c.in-Ok.next (subst (λ b.
          HasArrived b c.args.has_ended c.next_arrived-arrived.result) (rest_is c.args.input.now
          c.loop-count.consumed) c.next_arrived-arrived.ensures.arrived) c.in-Ok.ensures)
          (subst (λ b. Responds c.args.options.now.clock_route (g.T.Ticks.remaining
          c.loop-count.ticks) (g.T.Ticks.remaining c.respond-end.new.ticks) (g.S.StoreModel.failed
          c.loop-count.register.store) (g.S.StoreModel.failed c.respond-end.new.register.store)
          c.in-Ok.next.message (body_of c.in-Ok.next b) (string_bytes
          c.respond-end.new.self.response.text) (g.S.StoreModel.content c.loop-count.register.store)
          (g.S.StoreModel.content c.respond-end.new.register.store)) (rest_is c.args.input.now
          c.loop-count.consumed) (c.respond-end.ensures.responds usable)) (appended
          c.loop-count.output.items c.extend_from_slice.new.self.items _ _ _
          c.extend_from_slice.ensures.items (c.is_err.ensures.negation ∙ ap not c.if-is_err.false)
          c.as_bytes.ensures.value)),
      λ m inside. c.loop-count.invariant.6 m (c.respond-end.ensures.begins m inside),
      λ usable m inside. c.respond-end.ensures.ends usable m
          (c.loop-count.invariant.7 (c.respond-end.ensures.usable usable) m inside),
      let rest = drop c.loop-count.consumed c.args.input.now in
          let comes = next_here rest c.args.has_ended c.next_arrived-arrived.result c.in-Ok.next
          (subst (λ b. HasArrived b c.args.has_ended c.next_arrived-arrived.result)
          (rest_is c.args.input.now c.loop-count.consumed) c.next_arrived-arrived.ensures.arrived)
          c.in-Ok.ensures in
          left_on g.S.StoreModel c.args.options.now.clock_route c.args.register.now.store
          c.loop-count.register.store c.respond-end.new.register.store c.args.input.now
          (g.T.Ticks.remaining c.args.ticks.now) c.args.output.now.items c.loop-count.output.items
          c.extend_from_slice.new.self.items (string_bytes c.respond-end.new.self.response.text)
          c.loop-count.count (Some rest) (Some (drop c.in-Ok.next.end rest))
          (g.T.Ticks.remaining c.loop-count.ticks)
          (g.T.Ticks.remaining c.respond-end.new.ticks) c.in-Ok.next.message
          (body_of c.in-Ok.next rest)
          c.respond-end.ensures.honest c.loop-count.invariant.1 c.loop-count.invariant.8
          c.loop-count.invariant.5 comes
          (subst (λ b. Leaves g.S.StoreModel c.loop-count.register.store
          c.respond-end.new.register.store (λ m. LeavesNext c.args.options.now.clock_route
          (g.T.Ticks.remaining c.loop-count.ticks) (g.T.Ticks.remaining c.respond-end.new.ticks)
          (g.S.StoreModel.content c.loop-count.register.store) m c.in-Ok.next.message
          (body_of c.in-Ok.next b))) (rest_is c.args.input.now c.loop-count.consumed)
          c.respond-end.ensures.left)
          (appended c.loop-count.output.items c.extend_from_slice.new.self.items _ _ _
          c.extend_from_slice.ensures.items (c.is_err.ensures.negation ∙ ap not c.if-is_err.false)
          c.as_bytes.ensures.value),
      λ none. absurd (no_more c.loop-count.count none),
      inr (
        c.loop-count.output.items,
        string_bytes c.respond-end.new.self.response.text,
        appended c.loop-count.output.items c.extend_from_slice.new.self.items _ _ _
            c.extend_from_slice.ensures.items
            (c.is_err.ensures.negation ∙ ap not c.if-is_err.false) c.as_bytes.ensures.value,
        omega (arith, c.if-len-limit.false),
      ),
    )

pub returns-then-len-limit-clause-executes : goal.returns-then-len-limit-clause-executes
returns-then-len-limit-clause-executes g c =
    λ usable st s. pauses_at _ c.args.has_ended _ _ _ _ _ _ (drop c.loop-count.consumed
    c.args.input.now)
    (whole_to c.args.options.now.clock_route (g.S.StoreModel.failed c.args.register.now.store)
    (g.S.StoreModel.failed c.loop-count.register.store) (g.S.StoreModel.content
    c.args.register.now.store) (g.S.StoreModel.content c.loop-count.register.store) (Some
    c.args.input.now) (Some (drop c.loop-count.consumed c.args.input.now)) (Some
    c.args.output.now.items) (Some c.loop-count.output.items) (g.T.Ticks.remaining c.args.ticks.now)
    (g.T.Ticks.remaining c.loop-count.ticks) c.loop-count.count (c.loop-count.invariant.5 usable)
    (Some (drop c.loop-count.consumed c.args.input.now)) st s)

pub returns-then-len-limit-clause-until : goal.returns-then-len-limit-clause-until
returns-then-len-limit-clause-until g c =
    λ usable honest. already (c.loop-count.invariant.4 usable honest) (stops
    c.args.options.now.clock_route (g.S.StoreModel.failed c.args.register.now.store)
    (g.S.StoreModel.content c.args.register.now.store) (Some c.args.input.now) (Some
    c.args.output.now.items) (g.T.Ticks.remaining c.args.ticks.now) (Some
    c.loop-count.output.items))

pub returns-in-Err-clause-progress : goal.returns-in-Err-clause-progress
returns-in-Err-clause-progress g c = λ none some within.
    let at = (c.loop-count.invariant.9 none).0 in (
      at,
      subst (λ (n : ℕ). HasNoMessage c.in-Err.progress c.args.has_ended (drop n c.args.input.now))
          at
          (nothing_whole c.args.has_ended (drop c.loop-count.consumed c.args.input.now)
          c.next_arrived-arrived.result c.in-Err.progress
          (subst (λ b. HasArrived b c.args.has_ended c.next_arrived-arrived.result) (rest_is
          c.args.input.now c.loop-count.consumed) c.next_arrived-arrived.ensures.arrived)
          c.in-Err.ensures),
    )

pub returns-clause-executes : goal.returns-clause-executes
returns-clause-executes g c =
    let last : c.loop-count.count ≡ c.args.limit.messages =
    omega (arith, c.loop-count-test.false, c.loop-count.auto.count-end) in
    λ usable st s. subst (λ (k : ℕ). ExecutesTo Paused c.args.options.now.clock_route
    c.args.has_ended (g.S.StoreModel.failed c.args.register.now.store)
    (g.S.StoreModel.failed c.loop-count.register.store) st
    (g.S.StoreModel.content c.loop-count.register.store) (record {
      input = c.args.input.now;
      unread = Some (drop c.loop-count.consumed c.args.input.now);
      ticks_before = g.T.Ticks.remaining c.args.ticks.now;
      ticks_after = g.T.Ticks.remaining c.loop-count.ticks;
      written_before = Some c.args.output.now.items;
      written_after = Some c.loop-count.output.items;
    }) k (drop c.loop-count.consumed c.args.input.now)) last
    (pauses_at _ c.args.has_ended _ _ _ _ _ _ (drop c.loop-count.consumed c.args.input.now)
    (whole_to c.args.options.now.clock_route (g.S.StoreModel.failed c.args.register.now.store)
    (g.S.StoreModel.failed c.loop-count.register.store) (g.S.StoreModel.content
    c.args.register.now.store) (g.S.StoreModel.content c.loop-count.register.store) (Some
    c.args.input.now) (Some (drop c.loop-count.consumed c.args.input.now)) (Some
    c.args.output.now.items) (Some c.loop-count.output.items) (g.T.Ticks.remaining c.args.ticks.now)
    (g.T.Ticks.remaining c.loop-count.ticks) c.loop-count.count (c.loop-count.invariant.5 usable)
    (Some (drop c.loop-count.consumed c.args.input.now)) st s))

pub returns-clause-until : goal.returns-clause-until
returns-clause-until g c =
    λ usable honest. already (c.loop-count.invariant.4 usable honest) (stops
    c.args.options.now.clock_route (g.S.StoreModel.failed c.args.register.now.store)
    (g.S.StoreModel.content c.args.register.now.store) (Some c.args.input.now) (Some
    c.args.output.now.items) (g.T.Ticks.remaining c.args.ticks.now) (Some
    c.loop-count.output.items))
