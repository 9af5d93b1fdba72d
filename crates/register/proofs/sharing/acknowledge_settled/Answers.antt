use Rattle.std.proofs.Common.{Ok, subst}
use Rattle.model.specs.History.{AcknowledgementRequest}
use Rattle.model.specs.Refusals.{RequestFrom}
use Rattle.requests.specs.Calls.{view_of}
use Rattle.settle.specs.Sharing.{TakesSharedOrNone, MayLeaveShared}
use Rattle.settle.specs.StoreContract.{AddsOnlyCrashStates}
use Rattle.register.specs.Crashes.{TakesSettledStep}
use Rattle.register.proofs.Downloads.Shared.{answers_shared, left_shared, left_as_before}
use Rattle.register.proofs.sharing.acknowledge_settled.Goals as goal

pub returns-in_err-row-clause-left : goal.returns-in_err-row-clause-left
returns-in_err-row-clause-left g c =
    left_as_before g.S.StoreModel c.args.store.now c.take_shared.new.self
    (TakesSettledStep (g.S.StoreModel.content c.args.store.now)
    (RequestFrom c.args.spid.number (AcknowledgementRequest c.args.id c.args.attempt)))
    c.in_err-row.ensures.left

pub returns-in-Some-clause-answers : goal.returns-in-Some-clause-answers
returns-in-Some-clause-answers g c = λ usable.
    let old = g.S.StoreModel.content c.args.store.now in
    let new = g.S.StoreModel.content c.take_shared.new.self in
    answers_shared old new c.args.spid.number c.args.id c.args.attempt c.in-Some.row c.row.inside
    (view_of c.view_while_sent.result) c.row.view_is
    (subst (TakesSharedOrNone old new c.args.spid.number c.args.id c.args.attempt) c.in-Some.is
    (c.in_ok-row.ensures.taken usable))
    c.view_while_sent.ensures

pub returns-in-Some-clause-left : goal.returns-in-Some-clause-left
returns-in-Some-clause-left g c =
    let old = g.S.StoreModel.content c.args.store.now in
    left_shared g.S.StoreModel c.args.store.now c.take_shared.new.self c.args.spid.number c.args.id
    c.args.attempt c.in-Some.row c.row.inside (view_of c.view_while_sent.result) c.row.view_is
    c.view_while_sent.ensures
    (subst (λ o. AddsOnlyCrashStates g.S.StoreModel c.args.store.now c.take_shared.new.self
    (λ m. g.S.StoreModel.IsUsable c.args.store.now
    × MayLeaveShared old m c.args.spid.number c.args.id c.args.attempt (Ok o))) c.in-Some.is
    c.in_ok-row.ensures.left)
