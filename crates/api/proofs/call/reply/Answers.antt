use Rattle.api.proofs.StepLemmas.{calls_met}
use Rattle.std.proofs.Common.{None}
use Rattle.api.specs.Crashes.{LeavesDispatched, LeavesStep}
use Rattle.api.specs.Step.{PathAsks}
use Rattle.api.proofs.Left.{left_as, message_left}
use Rattle.api.proofs.call.reply.Goals as goal

pub returns-in-Ok-clause-step : goal.returns-in-Ok-clause-step
returns-in-Ok-clause-step g c = λ u st s.
    calls_met c.args.clock (g.S.StoreModel.failed c.args.register.now.store)
    (g.S.StoreModel.failed c.answer_message.new.register.store)
    (g.S.StoreModel.content c.answer_message.new.register.store) st c.args.request.now c.in-Ok.route
    c.in-Ok.caller c.args.body.now _
    c.answer_message.ensures.preserves.rises c.in-Ok.ensures.ok.0 c.in-Ok.ensures.ok.1
    c.in-Ok.ensures.ok.2
    (c.answer_message.ensures.calls u st s)

pub returns-in-Ok-clause-left : goal.returns-in-Ok-clause-left
returns-in-Ok-clause-left g c =
    let old = g.S.StoreModel.content c.args.register.now.store in
    let request = c.args.request.now in
    let body = c.args.body.now in
    left_as g.S.StoreModel c.args.register.now.store c.answer_message.new.register.store
    (λ m. LeavesDispatched old m (PathAsks c.in-Ok.route body) c.in-Ok.caller.number)
    (λ m. LeavesStep c.args.clock None old m request body) c.answer_message.ensures.left
    (λ m. message_left c.args.clock old m request c.in-Ok.route c.in-Ok.caller body
    c.in-Ok.ensures.ok.0 c.in-Ok.ensures.ok.1 c.in-Ok.ensures.ok.2)
