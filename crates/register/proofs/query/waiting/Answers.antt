use Rattle.std.proofs.Common.{false, sym, ◌∙◌, subst}
use Rattle.model.specs.Refusals.{QuestionFrom, Waiting}
use Rattle.settle.specs.Reads.{AreWaitingSubjects}
use Rattle.register.proofs.EveryCall.Composed.{answers_refused_same}
use Rattle.register.proofs.Downloads.Awaited.{waiting_refused, answers_awaited}
use Rattle.register.proofs.query.waiting.Goals as goal

pub returns-then-not-branch-clause-answers : goal.returns-then-not-branch-clause-answers
returns-then-not-branch-clause-answers g c = λ usable.
    answers_refused_same (g.S.StoreModel.content c.args.store.now)
    (g.S.StoreModel.content c.carrier.new.self)
    (QuestionFrom c.args.caller.number Waiting) 1 (c.in_ok-carrier.ensures.looks_up.read_only.same
    usable).1
    (λ st refines settled. waiting_refused (g.S.StoreModel.content c.args.store.now)
    c.args.caller.number
    false (sym (c.in_ok-carrier.ensures.value usable) ∙ c.if-not-branch.true) st refines)

pub returns-clause-answers : goal.returns-clause-answers
returns-clause-answers g c = λ usable.
    let second = c.in_ok-waits.ensures.looks_up.read_only.same usable in
    let first = c.in_ok-carrier.ensures.looks_up.read_only.same second.0 in
    answers_awaited (g.S.StoreModel.content c.args.store.now)
    (g.S.StoreModel.content c.waits.new.self)
    c.args.caller.number c.in_ok-waits.field-0.items
    (sym (c.in_ok-carrier.ensures.value second.0) ∙ c.if-not-branch.false) (second.1 ∙ first.1)
    (subst (λ m. AreWaitingSubjects m c.args.caller.number c.in_ok-waits.field-0.items) first.1
    (c.in_ok-waits.ensures.value usable))
