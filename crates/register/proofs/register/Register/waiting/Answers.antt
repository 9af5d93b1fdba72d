use Rattle.std.proofs.Common.{◌≡◌, true, false, ap, map, rules}
use Rattle.std.specs.Prelude.{Err}
use Rattle.model.specs.Machine.{Awaited}
use Rattle.model.specs.Refusals.{QuestionFrom, Waiting}
use Rattle.numbers.specs.Abstraction.{subject_of}
use Rattle.requests.specs.Calls.{replied}
use Rattle.register.proofs.EveryCall.Before.{all_kept, all_settled, answers_after, owes_after}
use Rattle.register.proofs.Registering.ClockMoved.{means_fault}
use Rattle.register.proofs.Downloads.Awaited.{if_all_but}
use Rattle.register.proofs.EveryCall.Failed.{owes_fault}
use Rattle.register.proofs.EveryCall.Left.{left_settled}
use Rattle.register.proofs.register.Register.waiting.Goals as goal

pub returns-in_err-settle_all-clause-answers : goal.returns-in_err-settle_all-clause-answers
returns-in_err-settle_all-clause-answers g c = λ usable.
    means_fault (g.S.StoreModel.content c.args.self.now.store)
    (g.S.StoreModel.content c.settle_all.new.store)
    (QuestionFrom c.args.caller.number Waiting)
    (λ subjects. Awaited (map subject_of subjects.items))
    c.from_residual.result c.in_err-settle_all.field-0.0 (search rules)
    (λ st refines. (all_kept (g.S.StoreModel.content c.args.self.now.store)
    (g.S.StoreModel.content c.settle_all.new.store) (c.in_err-settle_all.ensures.kept usable) st
    refines).0)

pub returns-clause-preserves : goal.returns-clause-preserves
returns-clause-preserves g c =
    owes_after g.S.StoreModel c.args.self.now.store
    c.settle_all.new.store c.waiting.new.store
    (g.S.StoreModel.content c.args.self.now.store) (g.S.StoreModel.content c.settle_all.new.store)
    (QuestionFrom c.args.caller.number Waiting)
    tt c.in_ok-settle_all.ensures.preserves
    (λ middle. all_kept (g.S.StoreModel.content c.args.self.now.store)
    (g.S.StoreModel.content c.settle_all.new.store) (c.in_ok-settle_all.ensures.kept middle))
    (λ middle. all_settled (g.S.StoreModel.content c.args.self.now.store)
    (g.S.StoreModel.content c.settle_all.new.store) (c.in_ok-settle_all.ensures.settled middle))
    c.waiting.ensures.preserves

pub returns-clause-published : goal.returns-clause-published
returns-clause-published g c = λ usable.
    let middle = c.waiting.ensures.preserves.usable usable in
    if_all_but (g.S.StoreModel.content c.args.self.now.store)
    (g.S.StoreModel.content c.waiting.new.store)
    c.args.caller.number (λ v. map subject_of v.items) c.waiting.result
    (answers_after (g.S.StoreModel.content c.args.self.now.store)
    (g.S.StoreModel.content c.settle_all.new.store) (g.S.StoreModel.content c.waiting.new.store)
    (QuestionFrom c.args.caller.number Waiting)
    (all_kept (g.S.StoreModel.content c.args.self.now.store)
    (g.S.StoreModel.content c.settle_all.new.store)
    (c.in_ok-settle_all.ensures.kept middle))
    (all_settled (g.S.StoreModel.content c.args.self.now.store)
    (g.S.StoreModel.content c.settle_all.new.store) (c.in_ok-settle_all.ensures.settled middle))
    (replied (λ subjects. Awaited (map subject_of subjects.items)) c.waiting.result)
    (c.waiting.ensures.answers usable))

pub returns-clause-answers : goal.returns-clause-answers
returns-clause-answers g c = λ usable.
    let middle = c.waiting.ensures.preserves.usable usable in
    answers_after (g.S.StoreModel.content c.args.self.now.store)
    (g.S.StoreModel.content c.settle_all.new.store) (g.S.StoreModel.content c.waiting.new.store)
    (QuestionFrom c.args.caller.number Waiting)
    (all_kept (g.S.StoreModel.content c.args.self.now.store)
    (g.S.StoreModel.content c.settle_all.new.store) (c.in_ok-settle_all.ensures.kept middle))
    (all_settled (g.S.StoreModel.content c.args.self.now.store)
    (g.S.StoreModel.content c.settle_all.new.store) (c.in_ok-settle_all.ensures.settled middle))
    (replied (λ subjects. Awaited (map subject_of subjects.items)) c.waiting.result)
    (c.waiting.ensures.answers usable)

pub returns-clause-elsewhere : goal.returns-clause-elsewhere
returns-clause-elsewhere g c = λ usable st refines t other.
    let never : true ≡ false = other in cc

pub returns-clause-left : goal.returns-clause-left
returns-clause-left g c = λ honest m may.
    left_settled g.S.StoreModel c.args.self.now.store c.settle_all.new.store
    c.settle_all.new.store c.in_ok-settle_all.ensures.left
    (c.waiting.ensures.preserves.honest honest) m (c.waiting.ensures.left honest m may)

pub returns-in_err-settle_all-clause-elsewhere : goal.returns-in_err-settle_all-clause-elsewhere
returns-in_err-settle_all-clause-elsewhere g c = λ usable st refines t other.
    let never : true ≡ false = other in cc

pub returns-in_err-settle_all-clause-left : goal.returns-in_err-settle_all-clause-left
returns-in_err-settle_all-clause-left g c =
    left_settled g.S.StoreModel c.args.self.now.store c.settle_all.new.store
    c.settle_all.new.store c.in_err-settle_all.ensures.left

pub returns-in_err-settle_all-clause-preserves : goal.returns-in_err-settle_all-clause-preserves
returns-in_err-settle_all-clause-preserves g c = owes_fault c.in_err-settle_all.ensures.preserves
    c.from_residual.result c.in_err-settle_all.field-0.0 (search rules) (ap Err)
