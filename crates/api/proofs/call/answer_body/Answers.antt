use Rattle.std.proofs.Common.{subst, sym}
use Rattle.requests.specs.Calls.{called_of}
use Rattle.http_messages.specs.declared.paths.Route.{Route}
use Rattle.json_api.specs.Forms.{RegisterCall, UriQuery}
use Rattle.json_api.specs.Plain.{IsAsked}
use Rattle.api.proofs.Left.{kept_call, left_as}
use Rattle.api.proofs.PlainCalls.{plain_calls, plain_left}
use Rattle.api.specs.Crashes.{LeavesCall}
use Rattle.register.specs.Crashes.{KeepsState}
use Rattle.api.proofs.call.answer_body.Goals as goal

pub returns-in-Some-clause-left : goal.returns-in-Some-clause-left
returns-in-Some-clause-left g c =
    let body = c.args.body.now in
    let caller = c.args.caller.number in
    let call = UriQuery c.in-Some.uri.now in
    let old = g.S.StoreModel.content c.args.register.now.store in
    let asked : IsAsked c.args.route body call =
    subst (λ (r : Route). IsAsked r body call) (sym c.in-Query.is)
    (rw c.in-Some.is at c.plain_query.ensures) in
    plain_left g.S.StoreModel c.args.register.now.store c.query.new.register.store c.args.route
    caller body call asked
    (left_as g.S.StoreModel c.args.register.now.store c.query.new.register.store (KeepsState old)
    (λ m. LeavesCall old m caller call) c.query.ensures.left (λ m. kept_call old m caller call))

pub returns-in-Some-clause-calls : goal.returns-in-Some-clause-calls
returns-in-Some-clause-calls g c = λ u.
    let body = c.args.body.now in
    let call = UriQuery c.in-Some.uri.now in
    let asked : IsAsked c.args.route body call =
    subst (λ (r : Route). IsAsked r body call) (sym c.in-Query.is)
    (rw c.in-Some.is at c.plain_query.ensures) in
    plain_calls _ _ _ _ c.args.route c.args.caller.number body call _ asked
    (c.query.ensures.performs u)

pub returns-in-Some-plain_acknowledgement-clause-left :
    goal.returns-in-Some-plain_acknowledgement-clause-left
returns-in-Some-plain_acknowledgement-clause-left g c =
    let body = c.args.body.now in
    let call = RegisterCall (called_of c.in-Some-plain_acknowledgement.call) in
    let asked : IsAsked c.args.route body call =
    subst (λ (r : Route). IsAsked r body call) (sym c.in-Acknowledge.is)
    (rw c.in-Some-plain_acknowledgement.is at c.plain_acknowledgement.ensures) in
    plain_left g.S.StoreModel c.args.register.now.store c.answer.new.register.store c.args.route
    c.args.caller.number body call asked c.answer.ensures.left

pub returns-in-Some-plain_acknowledgement-clause-calls :
    goal.returns-in-Some-plain_acknowledgement-clause-calls
returns-in-Some-plain_acknowledgement-clause-calls g c = λ u.
    let body = c.args.body.now in
    let call = RegisterCall (called_of c.in-Some-plain_acknowledgement.call) in
    let asked : IsAsked c.args.route body call =
    subst (λ (r : Route). IsAsked r body call) (sym c.in-Acknowledge.is)
    (rw c.in-Some-plain_acknowledgement.is at c.plain_acknowledgement.ensures) in
    plain_calls _ _ _ _ c.args.route c.args.caller.number body call _ asked
    (c.answer.ensures.performs u)

pub returns-in-Some-plain_call : goal.returns-in-Some-plain_call
returns-in-Some-plain_call g c =
    let body = c.args.body.now in
    let call = RegisterCall (called_of c.in-Some-plain_call.call) in
    let answer = c.answer-in-Some-plain_call in
    let asked : IsAsked c.args.route body call =
    rw c.in-Some-plain_call.is at c.plain_call.ensures in
    record {
      ok = answer.ensures.ok;
      capacity = answer.ensures.capacity;
      preserves = answer.ensures.preserves;
      left = plain_left g.S.StoreModel c.args.register.now.store answer.new.register.store
          c.args.route c.args.caller.number body call asked answer.ensures.left;
      calls = λ u. plain_calls _ _ _ _ c.args.route c.args.caller.number body call _ asked
          (answer.ensures.performs u);
    }
