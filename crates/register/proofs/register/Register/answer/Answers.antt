use Rattle.std.proofs.Common.{rules, ap, sym, subst}
use Rattle.settle.specs.StoreContract.{AddsOnlyCrashStates}
use Rattle.requests.specs.Calls.{called_of, input_of, reply_of}
use Rattle.register.specs.Crashes.{KeepsOrTakesStep}
use Rattle.register.proofs.Registering.ClockMoved.{refused_as}
use Rattle.register.proofs.register.Register.answer.Goals as goal

pub returns-in_err-found-in-Number-clause-answers : goal.returns-in_err-found-in-Number-clause-answers
returns-in_err-found-in-Number-clause-answers g c = λ u.
    refused_as _ _ _ _ reply_of c.from_residual-in_err-found-in-Number.result
    c.in_err-found-in-Number.field-0.0 (search rules)
    (ap (λ call. input_of c.args.caller.number (called_of call)) c.in-Number.is)
    (c.in_err-found-in-Number.ensures.answers u c.args.caller.number)

pub returns-in_err-view-in-Version-clause-answers : goal.returns-in_err-view-in-Version-clause-answers
returns-in_err-view-in-Version-clause-answers g c = λ u.
    refused_as _ _ _ _ reply_of c.from_residual.result c.in_err-view-in-Version.field-0.0
    (search rules)
    (ap (λ call. input_of c.args.caller.number (called_of call)) c.in-Version.is)
    (c.in_err-view-in-Version.ensures.answers u)

pub returns-in_err-downloads-in-Downloads-clause-answers : goal.returns-in_err-downloads-in-Downloads-clause-answers
returns-in_err-downloads-in-Downloads-clause-answers g c = λ u.
    refused_as _ _ _ _ reply_of c.from_residual-in_err-downloads-in-Downloads.result
    c.in_err-downloads-in-Downloads.field-0.0 (search rules)
    (ap (λ call. input_of c.args.caller.number (called_of call)) c.in-Downloads.is)
    (c.in_err-downloads-in-Downloads.ensures.answers u)

pub returns-in_err-now-in-Clock-clause-answers : goal.returns-in_err-now-in-Clock-clause-answers
returns-in_err-now-in-Clock-clause-answers g c = λ u.
    refused_as _ _ _ _ reply_of c.from_residual-in_err-now-in-Clock.result
    c.in_err-now-in-Clock.field-0.0 (search rules)
    (ap (λ call. input_of c.args.caller.number (called_of call)) c.in-Clock.is)
    (c.in_err-now-in-Clock.ensures.answers u)

pub returns-in_err-now-in-Clock-clause-left : goal.returns-in_err-now-in-Clock-clause-left
returns-in_err-now-in-Clock-clause-left g c = subst (λ input. AddsOnlyCrashStates g.S.StoreModel
    c.args.self.now.store c.clock.new.self.store (λ m. g.S.StoreModel.IsUsable c.args.self.now.store
    × KeepsOrTakesStep (g.S.StoreModel.content c.args.self.now.store) input m))
    (sym (ap (λ call. input_of c.args.caller.number (called_of call)) c.in-Clock.is))
    c.in_err-now-in-Clock.ensures.left

pub returns-in_err-found-in-Number-clause-elsewhere : goal.returns-in_err-found-in-Number-clause-elsewhere
returns-in_err-found-in-Number-clause-elsewhere g c = λ u. search (
  rules,
  c.in_err-found-in-Number.ensures.elsewhere u c.args.caller.number,
)

pub returns-in_ok-found-in-Number-clause-elsewhere : goal.returns-in_ok-found-in-Number-clause-elsewhere
returns-in_ok-found-in-Number-clause-elsewhere g c = λ u. search (
  rules,
  c.in_ok-found-in-Number.ensures.elsewhere u c.args.caller.number,
)

pub returns-in_err-found-in-Number-clause-at_rest : goal.returns-in_err-found-in-Number-clause-at_rest
returns-in_err-found-in-Number-clause-at_rest g c = λ u st refines t other rests.
    c.in_err-found-in-Number.ensures.elsewhere u c.args.caller.number st refines t
    (rw c.in-Number.is at other)

pub returns-in_ok-found-in-Number-clause-at_rest : goal.returns-in_ok-found-in-Number-clause-at_rest
returns-in_ok-found-in-Number-clause-at_rest g c = λ u st refines t other rests.
    c.in_ok-found-in-Number.ensures.elsewhere u c.args.caller.number st refines t
    (rw c.in-Number.is at other)

pub returns-in_ok-view-in-Version-clause-left : goal.returns-in_ok-view-in-Version-clause-left
returns-in_ok-view-in-Version-clause-left g c = λ honest m may. search (
  rules,
  c.in_ok-view-in-Version.ensures.left honest m may,
)
