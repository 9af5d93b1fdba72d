use Rattle.std.proofs.Common.{arith, rules, ap, ◌∙◌}
use Rattle.std.specs.Prelude.{Err}
use Rattle.model.specs.Refusals.{RequestFrom}
use Rattle.settle.proofs.Risen.{risen-since}
use Rattle.requests.specs.Calls.{reply_of}
use Rattle.register.specs.Crashes.{TakesSettledStep}
use Rattle.register.specs.Requesting.{request_of}
use Rattle.register.proofs.EveryCall.Composed.{answers_fault}
use Rattle.settle.proofs.Faults.{fault_is_none}
use Rattle.register.proofs.EveryCall.Deciding.{carried, carried_refused}
use Rattle.register.proofs.EveryCall.Left.{comes, left_committed}
use Rattle.settle.proofs.Faults.{same_refusal, storage_by}
use Rattle.register.proofs.commands.execute.Goals as goal

pub returns-in_err-reply-clause-answers : goal.returns-in_err-reply-clause-answers
returns-in_err-reply-clause-answers g c = λ usable.
    carried_refused (g.S.StoreModel.content c.args.store.now)
    (g.S.StoreModel.content c.decide.new.store)
    (RequestFrom c.args.caller.number (request_of c.args.request)) _
    c.from_residual.result c.in_err-reply.field-0.0 (search rules)
    (c.in_err-reply.ensures.read_only.same usable).1 (c.in_err-reply.ensures.decides usable)

pub returns-in_err-commit-clause-answers : goal.returns-in_err-commit-clause-answers
returns-in_err-commit-clause-answers g c = λ usable.
    answers_fault (g.S.StoreModel.content c.args.store.now)
    (g.S.StoreModel.content c.commit.new.self)
    (RequestFrom c.args.caller.number (request_of c.args.request)) reply_of
    c.from_residual-in_err-commit.result c.in_err-commit.field-0.0 (search rules)
    (c.in_err-commit.ensures.refused usable ∙ (c.in_ok-reply.ensures.read_only.same
    (c.in_err-commit.ensures.preserves.usable usable)).1)

pub returns-clause-answers : goal.returns-clause-answers
returns-clause-answers g c = λ usable.
    let before = c.in_ok-commit.ensures.preserves.usable usable in
    carried (g.S.StoreModel.content c.args.store.now) (g.S.StoreModel.content c.decide.new.store)
    (g.S.StoreModel.content c.commit.new.self) (RequestFrom c.args.caller.number
    (request_of c.args.request))
    _ c.in_ok-reply.reply (c.in_ok-reply.ensures.read_only.same before).1
    (c.in_ok-reply.ensures.decides before) (c.in_ok-commit.ensures.done usable)

pub returns-in_err-reply-clause-preserves : goal.returns-in_err-reply-clause-preserves
returns-in_err-reply-clause-preserves g c = record {
  usable = search rules;
  honest = search rules;
  begins = search rules;
  ends = search rules;
  stays = search rules;
  rises = search rules;
  storage = λ says. c.in_err-reply.ensures.read_only.storage (record {
    usable = says.usable;
    st = says.st;
    refines = says.refines;
    settled = says.settled;
    says = ap Err (same_refusal c.in_err-reply.field-0.0 c.from_residual.result
        (search rules) says.says);
  });
}

pub returns-in_err-commit-clause-preserves : goal.returns-in_err-commit-clause-preserves
returns-in_err-commit-clause-preserves g c = record {
  usable = search rules;
  honest = search rules;
  begins = search rules;
  ends = search rules;
  stays = λ answered. absurd (fault_is_none c.from_residual-in_err-commit.result
      c.in_err-commit.field-0.0 (search rules) answered);
  rises = omega arith;
  storage = λ says. risen-since (g.S.StoreModel.failed c.args.store.now)
      (g.S.StoreModel.failed c.decide.new.store) (g.S.StoreModel.failed c.commit.new.self)
      c.decide.ensures.read_only.rises c.commit.ensures.preserves.rises
      (c.in_err-commit.ensures.preserves.storage
      (ap Err (storage_by c.from_residual-in_err-commit.result
      c.in_err-commit.field-0.0 (search rules) says.says)));
}

pub returns-in_err-commit-clause-left : goal.returns-in_err-commit-clause-left
returns-in_err-commit-clause-left g c =
    let old = g.S.StoreModel.content c.args.store.now in
    let input = RequestFrom c.args.caller.number (request_of c.args.request) in
    left_committed g.S.StoreModel c.args.store.now c.decide.new.store c.commit.new.self _
    (TakesSettledStep old input)
    (λ honest. c.in_err-commit.ensures.preserves.honest honest)
    (λ honest. c.in_ok-reply.ensures.open honest)
    (λ used. (c.in_ok-reply.ensures.read_only.same used).0)
    c.in_ok-reply.ensures.read_only.left c.in_err-commit.ensures.left
    (λ used m changed. comes old m input _
    (carried old (g.S.StoreModel.content c.decide.new.store) m input _ c.in_ok-reply.reply
    (c.in_ok-reply.ensures.read_only.same used).1 (c.in_ok-reply.ensures.decides used) changed))

pub returns-clause-left : goal.returns-clause-left
returns-clause-left g c =
    let old = g.S.StoreModel.content c.args.store.now in
    let input = RequestFrom c.args.caller.number (request_of c.args.request) in
    left_committed g.S.StoreModel c.args.store.now c.decide.new.store c.commit.new.self _
    (TakesSettledStep old input)
    (λ honest. c.in_ok-commit.ensures.preserves.honest honest)
    (λ honest. c.in_ok-reply.ensures.open honest)
    (λ used. (c.in_ok-reply.ensures.read_only.same used).0)
    c.in_ok-reply.ensures.read_only.left c.in_ok-commit.ensures.left
    (λ used m changed. comes old m input _
    (carried old (g.S.StoreModel.content c.decide.new.store) m input _ c.in_ok-reply.reply
    (c.in_ok-reply.ensures.read_only.same used).1 (c.in_ok-reply.ensures.decides used) changed))
