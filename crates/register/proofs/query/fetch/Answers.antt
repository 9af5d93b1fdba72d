use Rattle.std.proofs.Common.{false, sym, ◌∙◌, subst}
use Rattle.model.specs.Refusals.{QuestionFrom, Fetch}
use Rattle.settle.specs.Reads.{AreFirst}
use Rattle.register.proofs.EveryCall.Composed.{answers_refused_same}
use Rattle.register.proofs.Downloads.Fetched.{fetch_refused, answers_fetched}
use Rattle.register.proofs.query.fetch.Goals as goal

pub returns-then-not-branch-clause-answers : goal.returns-then-not-branch-clause-answers
returns-then-not-branch-clause-answers g c = λ usable.
    answers_refused_same (g.S.StoreModel.content c.args.store.now)
    (g.S.StoreModel.content c.carrier.new.self)
    (QuestionFrom c.args.caller.number (Fetch c.args.many)) 1
    (c.in_ok-carrier.ensures.looks_up.read_only.same usable).1
    (λ st refines settled. fetch_refused (g.S.StoreModel.content c.args.store.now)
    c.args.caller.number
    c.args.many false (sym (c.in_ok-carrier.ensures.value usable) ∙ c.if-not-branch.true) st
    refines)

pub returns-clause-answers : goal.returns-clause-answers
returns-clause-answers g c = λ usable.
    let second = c.in_ok-front.ensures.looks_up.read_only.same usable in
    let first = c.in_ok-carrier.ensures.looks_up.read_only.same second.0 in
    answers_fetched (g.S.StoreModel.content c.args.store.now)
    (g.S.StoreModel.content c.front.new.self)
    c.args.caller.number c.args.many c.in_ok-front.field-0.items
    (sym (c.in_ok-carrier.ensures.value second.0) ∙ c.if-not-branch.false) (second.1 ∙ first.1)
    (subst (λ m. AreFirst m c.args.caller.number c.args.many c.in_ok-front.field-0.items) first.1
    (c.in_ok-front.ensures.value usable))
