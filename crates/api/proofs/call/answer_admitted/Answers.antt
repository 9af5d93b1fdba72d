use Rattle.std.proofs.Common.{ap, inl, Err, rules}
use Rattle.requests.specs.Calls.{called_of, reply_of, input_of}
use Rattle.json_api.specs.Forms.{RegisterCall}
use Rattle.api.proofs.StepLemmas.{blamed, blames_since, refused_as, refused_carried, reply_carried, short_carried}
use Rattle.register.specs.Crashes.{KeepsOrTakesStep, KeepsState}
use Rattle.api.proofs.Left.{left_after, left_as}
use Rattle.api.proofs.call.answer_admitted.Goals as goal

pub returns-in_err-bounds-clause-performs : goal.returns-in_err-bounds-clause-performs
returns-in_err-bounds-clause-performs g c = λ u st s admits.
    refused_as (g.S.StoreModel.failed c.args.register.now.store)
    (g.S.StoreModel.failed c.reserve_reply.new.register.store)
    (g.S.StoreModel.content c.reserve_reply.new.register.store) st c.args.caller.number
    (RegisterCall (called_of c.args.call.now)) c.from_residual.result _ c.in_err-bounds.field-0.0
    (search rules)
    (short_carried (g.S.StoreModel.failed c.args.register.now.store)
    (g.S.StoreModel.failed c.reserve_reply.new.register.store)
    (g.S.StoreModel.content c.reserve_reply.new.register.store) st c.args.caller.number
    (called_of c.args.call.now) c.in_err-bounds.field-0.0
    (c.in_err-bounds.ensures.kept u st s) (c.in_err-bounds.ensures.unavailable u st s))

pub returns-in-Err-clause-performs : goal.returns-in-Err-clause-performs
returns-in-Err-clause-performs g c = λ u st s admits.
    let from = g.S.StoreModel.failed c.args.register.now.store in
    let to = g.S.StoreModel.failed c.answer.new.self.store in
    let mid = g.S.StoreModel.content c.reserve_reply.new.register.store in
    let new = g.S.StoreModel.content c.answer.new.self.store in
    let refusal = c.in-Err.refusal in
    refused_carried from to new st c.args.caller.number (called_of c.args.call.now) admits refusal
    mid (c.in-Err.ensures.answers u)
    (blames_since from (g.S.StoreModel.failed c.reserve_reply.new.register.store) to mid mid refusal
    c.in_ok-bounds.ensures.preserves.rises c.in-Err.ensures.preserves.rises (λ x y. y)
    (λ st s e. blamed c.in-Err.ensures.preserves u st s (ap Err e)))
    (c.in_ok-bounds.ensures.kept (c.answer.ensures.preserves.usable u) st s)

pub returns-in-Ok-clause-performs : goal.returns-in-Ok-clause-performs
returns-in-Ok-clause-performs g c = λ u st s admits.
    let middle = c.answer.ensures.preserves.usable u in
    reply_carried (g.S.StoreModel.failed c.args.register.now.store)
    (g.S.StoreModel.failed c.answer.new.self.store) (g.S.StoreModel.content c.answer.new.self.store)
    st
    c.args.caller.number (called_of c.args.call.now) admits
    (g.S.StoreModel.content c.reserve_reply.new.register.store) (reply_of c.in-Ok.reply)
    c.in_ok-bounds.bounds c.put_reply.result _
    (c.in_ok-bounds.ensures.kept middle st s) (c.in_ok-bounds.ensures.bounds middle st s)
    (c.in-Ok.ensures.answers u) c.put_reply.ensures.text c.put_reply.ensures.more

pub returns-in_err-bounds-clause-left : goal.returns-in_err-bounds-clause-left
returns-in_err-bounds-clause-left g c =
    let old = g.S.StoreModel.content c.args.register.now.store in
    left_as g.S.StoreModel c.args.register.now.store c.reserve_reply.new.register.store
    (KeepsState old)
    (KeepsOrTakesStep old (input_of c.args.caller.number (called_of c.args.call.now)))
    c.reserve_reply.ensures.left (λ m keeps st s. inl (keeps st s))

pub returns-in-Err-clause-left : goal.returns-in-Err-clause-left
returns-in-Err-clause-left g c =
    let old = g.S.StoreModel.content c.args.register.now.store in
    let mid = g.S.StoreModel.content c.reserve_reply.new.register.store in
    let input = input_of c.args.caller.number (called_of c.args.call.now) in
    left_after g.S.StoreModel c.args.register.now.store c.reserve_reply.new.register.store
    c.answer.new.self.store (KeepsState old) (KeepsOrTakesStep mid input)
    (KeepsOrTakesStep old input) c.answer.ensures.preserves.honest
    c.reserve_reply.ensures.preserves.usable c.reserve_reply.ensures.left c.answer.ensures.left
    (λ m keeps st s. inl (keeps st s))
    (λ usable m takes st s. takes st (c.reserve_reply.ensures.kept usable st s))

pub returns-in-Ok-clause-left : goal.returns-in-Ok-clause-left
returns-in-Ok-clause-left g c =
    let old = g.S.StoreModel.content c.args.register.now.store in
    let mid = g.S.StoreModel.content c.reserve_reply.new.register.store in
    let input = input_of c.args.caller.number (called_of c.args.call.now) in
    left_after g.S.StoreModel c.args.register.now.store c.reserve_reply.new.register.store
    c.answer.new.self.store (KeepsState old) (KeepsOrTakesStep mid input)
    (KeepsOrTakesStep old input) c.answer.ensures.preserves.honest
    c.reserve_reply.ensures.preserves.usable c.reserve_reply.ensures.left c.answer.ensures.left
    (λ m keeps st s. inl (keeps st s))
    (λ usable m takes st s. takes st (c.reserve_reply.ensures.kept usable st s))
