use Rattle.std.proofs.Common.{rules}
use Rattle.requests.specs.Calls.{called_of, input_of}
use Rattle.json_api.specs.Forms.{RegisterCall}
use Rattle.api.proofs.StepLemmas.{away_carried, carried_since, refused_as}
use Rattle.register.specs.Crashes.{KeepsOrTakesStep, KeepsState}
use Rattle.api.specs.Crashes.{LeavesCall}
use Rattle.api.proofs.Left.{kept_call, left_after, left_as, taken_call}
use Rattle.api.proofs.call.answer.Goals as goal

pub returns-in_err-admit-clause-performs : goal.returns-in_err-admit-clause-performs
returns-in_err-admit-clause-performs g c = λ u st s.
    refused_as (g.S.StoreModel.failed c.args.register.now.store)
    (g.S.StoreModel.failed c.admit.new.register.store)
    (g.S.StoreModel.content c.admit.new.register.store) st
    c.args.caller.number (RegisterCall (called_of c.args.call.now)) c.from_residual.result _
    c.in_err-admit.field-0.0 (search rules)
    (away_carried c.in_err-admit.field-0.0 (g.S.StoreModel.failed c.args.register.now.store)
    (g.S.StoreModel.failed c.admit.new.register.store)
    (g.S.StoreModel.content c.admit.new.register.store) st
    c.args.caller.number (called_of c.args.call.now)
    (c.in_err-admit.ensures.kept u st s) (c.in_err-admit.ensures.err u st s))

pub returns-clause-performs : goal.returns-clause-performs
returns-clause-performs g c = λ u st s.
    let middle = c.answer_admitted.ensures.preserves.usable u in
    carried_since (g.S.StoreModel.failed c.args.register.now.store)
    (g.S.StoreModel.failed c.admit.new.register.store) (g.S.StoreModel.failed
    c.answer_admitted.new.register.store)
    (g.S.StoreModel.content c.answer_admitted.new.register.store) st c.args.caller.number
    (RegisterCall (called_of c.args.call.now)) _
    c.in_ok-admit.ensures.preserves.rises c.answer_admitted.ensures.preserves.rises
    (c.answer_admitted.ensures.performs u st (c.in_ok-admit.ensures.kept middle st s)
    (c.in_ok-admit.ensures.ok middle st s))

pub returns-in_err-admit-clause-left : goal.returns-in_err-admit-clause-left
returns-in_err-admit-clause-left g c =
    let old = g.S.StoreModel.content c.args.register.now.store in
    let asked = RegisterCall (called_of c.args.call.now) in
    left_as g.S.StoreModel c.args.register.now.store c.admit.new.register.store (KeepsState old)
    (λ m. LeavesCall old m c.args.caller.number asked) c.admit.ensures.left
    (λ m. kept_call old m c.args.caller.number asked)

pub returns-clause-left : goal.returns-clause-left
returns-clause-left g c =
    let old = g.S.StoreModel.content c.args.register.now.store in
    let mid = g.S.StoreModel.content c.admit.new.register.store in
    let caller = c.args.caller.number in
    let called = called_of c.args.call.now in
    left_after g.S.StoreModel c.args.register.now.store c.admit.new.register.store
    c.answer_admitted.new.register.store (KeepsState old)
    (KeepsOrTakesStep mid (input_of caller called))
    (λ m. LeavesCall old m caller (RegisterCall called)) c.answer_admitted.ensures.preserves.honest
    c.admit.ensures.preserves.usable c.admit.ensures.left c.answer_admitted.ensures.left
    (λ m. kept_call old m caller (RegisterCall called))
    (λ usable m takes. taken_call old m caller called
    (λ st s. takes st (c.admit.ensures.kept usable st s))
    (λ st s. c.in_ok-admit.ensures.ok usable st s))
