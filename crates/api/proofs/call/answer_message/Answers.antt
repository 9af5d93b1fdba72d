use Rattle.std.proofs.Common.{rules}
use Rattle.requests.specs.Calls.{called_of}
use Rattle.json_api.specs.Forms.{RegisterCall}
use Rattle.api.specs.Step.{IdAsks, NumberAsks, CountAsks, BodyAsks, PathAsks}
use Rattle.api.proofs.StepLemmas.{asked_carried, path_carried, unasked_refused}
use Rattle.api.specs.Crashes.{LeavesCall, LeavesDispatched}
use Rattle.api.proofs.Left.{dispatched, left_as, path_left}
use Rattle.api.proofs.call.answer_message.Goals as goal

pub returns-in_err-version_call-in-Version-clause-calls :
    goal.returns-in_err-version_call-in-Version-clause-calls
returns-in_err-version_call-in-Version-clause-calls g c = rw c.in-Version.is (λ u st s.
    unasked_refused (g.S.StoreModel.failed c.args.register.now.store)
    (g.S.StoreModel.failed c.args.register.now.store)
    (g.S.StoreModel.content c.args.register.now.store) st
    (IdAsks c.in-Version.id c.args.body.now) c.args.caller.number c.from_residual.result _
    c.in_err-version_call-in-Version.field-0.0 (search rules)
    c.in_err-version_call-in-Version.ensures.err.0 c.in_err-version_call-in-Version.ensures.err.1
    s)

pub returns-in_err-number_call-in-Number-clause-calls :
    goal.returns-in_err-number_call-in-Number-clause-calls
returns-in_err-number_call-in-Number-clause-calls g c = rw c.in-Number.is (λ u st s.
    unasked_refused (g.S.StoreModel.failed c.args.register.now.store)
    (g.S.StoreModel.failed c.args.register.now.store)
    (g.S.StoreModel.content c.args.register.now.store) st
    (NumberAsks c.in-Number.number c.args.body.now) c.args.caller.number
    c.from_residual-in_err-number_call-in-Number.result _ c.in_err-number_call-in-Number.field-0.0
    (search rules)
    c.in_err-number_call-in-Number.ensures.err.0 c.in_err-number_call-in-Number.ensures.err.1 s)

pub returns-in_err-downloads_call-in-Downloads-clause-calls :
    goal.returns-in_err-downloads_call-in-Downloads-clause-calls
returns-in_err-downloads_call-in-Downloads-clause-calls g c = rw c.in-Downloads.is (λ u st s.
    unasked_refused (g.S.StoreModel.failed c.args.register.now.store)
    (g.S.StoreModel.failed c.args.register.now.store)
    (g.S.StoreModel.content c.args.register.now.store) st
    (CountAsks c.in-Downloads.count c.args.body.now) c.args.caller.number
    c.from_residual-in_err-downloads_call-in-Downloads.result _
    c.in_err-downloads_call-in-Downloads.field-0.0 (search rules)
    c.in_err-downloads_call-in-Downloads.ensures.err.0
    c.in_err-downloads_call-in-Downloads.ensures.err.1 s)

pub returns-in_ok-version_call-in-Version-clause-calls :
    goal.returns-in_ok-version_call-in-Version-clause-calls
returns-in_ok-version_call-in-Version-clause-calls g c = rw c.in-Version.is (λ u st s.
    asked_carried (g.S.StoreModel.failed c.args.register.now.store)
    (g.S.StoreModel.failed c.answer.new.register.store)
    (g.S.StoreModel.content c.answer.new.register.store)
    st (IdAsks c.in-Version.id c.args.body.now)
    (RegisterCall (called_of c.in_ok-version_call-in-Version.field-0)) c.args.caller.number _
    c.in_ok-version_call-in-Version.ensures.ok (c.answer.ensures.performs u st s))

pub returns-in_ok-number_call-in-Number-clause-calls :
    goal.returns-in_ok-number_call-in-Number-clause-calls
returns-in_ok-number_call-in-Number-clause-calls g c = rw c.in-Number.is (λ u st s.
    asked_carried (g.S.StoreModel.failed c.args.register.now.store)
    (g.S.StoreModel.failed c.answer-in-Number.new.register.store)
    (g.S.StoreModel.content c.answer-in-Number.new.register.store) st
    (NumberAsks c.in-Number.number c.args.body.now)
    (RegisterCall (called_of c.in_ok-number_call-in-Number.field-0)) c.args.caller.number _
    c.in_ok-number_call-in-Number.ensures.ok (c.answer-in-Number.ensures.performs u st s))

pub returns-in_ok-downloads_call-in-Downloads-clause-calls :
    goal.returns-in_ok-downloads_call-in-Downloads-clause-calls
returns-in_ok-downloads_call-in-Downloads-clause-calls g c = rw c.in-Downloads.is (λ u st s.
    asked_carried (g.S.StoreModel.failed c.args.register.now.store)
    (g.S.StoreModel.failed c.answer-in-Downloads.new.register.store)
    (g.S.StoreModel.content c.answer-in-Downloads.new.register.store) st
    (CountAsks c.in-Downloads.count
    c.args.body.now) (RegisterCall (called_of c.in_ok-downloads_call-in-Downloads.field-0))
    c.args.caller.number _
    c.in_ok-downloads_call-in-Downloads.ensures.ok (c.answer-in-Downloads.ensures.performs u st s))

pub returns-in_default-clause-calls : goal.returns-in_default-clause-calls
returns-in_default-clause-calls g c = λ u st s.
    path_carried (g.S.StoreModel.failed c.args.register.now.store)
    (g.S.StoreModel.failed c.answer_body.new.register.store)
    (g.S.StoreModel.content c.answer_body.new.register.store) st c.args.route c.args.caller.number
    c.args.body.now _
    c.in_default.not-Version c.in_default.not-Number c.in_default.not-Downloads
    (c.answer_body.ensures.calls u st s)

pub returns-in_ok-version_call-in-Version-clause-left :
    goal.returns-in_ok-version_call-in-Version-clause-left
returns-in_ok-version_call-in-Version-clause-left g c = rw c.in-Version.is
    (let old = g.S.StoreModel.content c.args.register.now.store in
    let caller = c.args.caller.number in
    let asked = RegisterCall (called_of c.in_ok-version_call-in-Version.field-0) in
    let Asks = IdAsks c.in-Version.id c.args.body.now in
    left_as g.S.StoreModel c.args.register.now.store c.answer.new.register.store
    (λ m. LeavesCall old m caller asked) (λ m. LeavesDispatched old m Asks caller)
    c.answer.ensures.left
    (λ m. dispatched old m Asks caller asked
    c.in_ok-version_call-in-Version.ensures.ok))

pub returns-in_ok-number_call-in-Number-clause-left :
    goal.returns-in_ok-number_call-in-Number-clause-left
returns-in_ok-number_call-in-Number-clause-left g c = rw c.in-Number.is
    (let old = g.S.StoreModel.content c.args.register.now.store in
    let caller = c.args.caller.number in
    let asked = RegisterCall (called_of c.in_ok-number_call-in-Number.field-0) in
    let Asks = NumberAsks c.in-Number.number c.args.body.now in
    left_as g.S.StoreModel c.args.register.now.store c.answer-in-Number.new.register.store
    (λ m. LeavesCall old m caller asked) (λ m. LeavesDispatched old m Asks caller)
    c.answer-in-Number.ensures.left
    (λ m. dispatched old m Asks caller asked
    c.in_ok-number_call-in-Number.ensures.ok))

pub returns-in_ok-downloads_call-in-Downloads-clause-left :
    goal.returns-in_ok-downloads_call-in-Downloads-clause-left
returns-in_ok-downloads_call-in-Downloads-clause-left g c = rw c.in-Downloads.is
    (let old = g.S.StoreModel.content c.args.register.now.store in
    let caller = c.args.caller.number in
    let asked = RegisterCall (called_of c.in_ok-downloads_call-in-Downloads.field-0) in
    let Asks = CountAsks c.in-Downloads.count c.args.body.now in
    left_as g.S.StoreModel c.args.register.now.store c.answer-in-Downloads.new.register.store
    (λ m. LeavesCall old m caller asked) (λ m. LeavesDispatched old m Asks caller)
    c.answer-in-Downloads.ensures.left
    (λ m. dispatched old m Asks caller asked
    c.in_ok-downloads_call-in-Downloads.ensures.ok))

pub returns-in_default-clause-left : goal.returns-in_default-clause-left
returns-in_default-clause-left g c =
    let old = g.S.StoreModel.content c.args.register.now.store in
    let route = c.args.route in
    let body = c.args.body.now in
    let caller = c.args.caller.number in
    left_as g.S.StoreModel c.args.register.now.store c.answer_body.new.register.store
    (λ m. LeavesDispatched old m (BodyAsks route body) caller)
    (λ m. LeavesDispatched old m (PathAsks route body) caller) c.answer_body.ensures.left
    (λ m. path_left old m route caller body c.in_default.not-Version c.in_default.not-Number
    c.in_default.not-Downloads)
