use Rattle.std.proofs.Common.{◌≡◌, true, false, ap, map, rules}
use Rattle.std.specs.Prelude.{Err}
use Rattle.model.specs.Machine.{Fetched}
use Rattle.model.specs.Refusals.{QuestionFrom, Fetch}
use Rattle.requests.specs.Calls.{download_of, replied}
use Rattle.register.proofs.EveryCall.Before.{all_kept, all_settled, answers_after, owes_after}
use Rattle.register.proofs.Registering.ClockMoved.{means_fault}
use Rattle.register.proofs.Downloads.Copied.{if_published}
use Rattle.register.proofs.EveryCall.Failed.{owes_fault}
use Rattle.register.proofs.EveryCall.Left.{left_settled}
use Rattle.register.proofs.register.Register.fetch.Goals as goal

pub returns-in_err-settle_all-clause-answers : goal.returns-in_err-settle_all-clause-answers
returns-in_err-settle_all-clause-answers g c = λ usable.
    means_fault (g.S.StoreModel.content c.args.self.now.store)
    (g.S.StoreModel.content c.settle_all.new.store)
    (QuestionFrom c.args.caller.number (Fetch c.args.many))
    (λ downloads. Fetched (map download_of downloads.items))
    c.from_residual.result c.in_err-settle_all.field-0.0 (search rules)
    (λ st refines. (all_kept (g.S.StoreModel.content c.args.self.now.store)
    (g.S.StoreModel.content c.settle_all.new.store) (c.in_err-settle_all.ensures.kept usable) st
    refines).0)

pub returns-clause-preserves : goal.returns-clause-preserves
returns-clause-preserves g c =
    owes_after g.S.StoreModel c.args.self.now.store
    c.settle_all.new.store c.fetch.new.store
    (g.S.StoreModel.content c.args.self.now.store) (g.S.StoreModel.content c.settle_all.new.store)
    (QuestionFrom c.args.caller.number (Fetch c.args.many))
    tt c.in_ok-settle_all.ensures.preserves
    (λ middle. all_kept (g.S.StoreModel.content c.args.self.now.store)
    (g.S.StoreModel.content c.settle_all.new.store) (c.in_ok-settle_all.ensures.kept middle))
    (λ middle. all_settled (g.S.StoreModel.content c.args.self.now.store)
    (g.S.StoreModel.content c.settle_all.new.store) (c.in_ok-settle_all.ensures.settled middle))
    c.fetch.ensures.preserves

pub returns-clause-published : goal.returns-clause-published
returns-clause-published g c = λ usable.
    let middle = c.fetch.ensures.preserves.usable usable in
    if_published (g.S.StoreModel.content c.args.self.now.store)
    (g.S.StoreModel.content c.fetch.new.store)
    c.args.caller.number c.args.many (λ v. v.items) c.fetch.result
    (answers_after (g.S.StoreModel.content c.args.self.now.store)
    (g.S.StoreModel.content c.settle_all.new.store) (g.S.StoreModel.content c.fetch.new.store)
    (QuestionFrom c.args.caller.number (Fetch c.args.many))
    (all_kept (g.S.StoreModel.content c.args.self.now.store)
    (g.S.StoreModel.content c.settle_all.new.store)
    (c.in_ok-settle_all.ensures.kept middle))
    (all_settled (g.S.StoreModel.content c.args.self.now.store)
    (g.S.StoreModel.content c.settle_all.new.store) (c.in_ok-settle_all.ensures.settled middle))
    (replied (λ downloads. Fetched (map download_of downloads.items)) c.fetch.result)
    (c.fetch.ensures.answers usable))

pub returns-clause-answers : goal.returns-clause-answers
returns-clause-answers g c = λ usable.
    let middle = c.fetch.ensures.preserves.usable usable in
    answers_after (g.S.StoreModel.content c.args.self.now.store)
    (g.S.StoreModel.content c.settle_all.new.store) (g.S.StoreModel.content c.fetch.new.store)
    (QuestionFrom c.args.caller.number (Fetch c.args.many))
    (all_kept (g.S.StoreModel.content c.args.self.now.store)
    (g.S.StoreModel.content c.settle_all.new.store) (c.in_ok-settle_all.ensures.kept middle))
    (all_settled (g.S.StoreModel.content c.args.self.now.store)
    (g.S.StoreModel.content c.settle_all.new.store) (c.in_ok-settle_all.ensures.settled middle))
    (replied (λ downloads. Fetched (map download_of downloads.items)) c.fetch.result)
    (c.fetch.ensures.answers usable)

pub returns-clause-elsewhere : goal.returns-clause-elsewhere
returns-clause-elsewhere g c = λ usable st refines t other.
    let never : true ≡ false = other in cc

pub returns-clause-left : goal.returns-clause-left
returns-clause-left g c = λ honest m may.
    left_settled g.S.StoreModel c.args.self.now.store c.settle_all.new.store
    c.settle_all.new.store c.in_ok-settle_all.ensures.left
    (c.fetch.ensures.preserves.honest honest) m (c.fetch.ensures.left honest m may)

pub returns-in_err-settle_all-clause-elsewhere : goal.returns-in_err-settle_all-clause-elsewhere
returns-in_err-settle_all-clause-elsewhere g c = λ usable st refines t other.
    let never : true ≡ false = other in cc

pub returns-in_err-settle_all-clause-left : goal.returns-in_err-settle_all-clause-left
returns-in_err-settle_all-clause-left g c =
    left_settled g.S.StoreModel c.args.self.now.store c.settle_all.new.store
    c.settle_all.new.store c.in_err-settle_all.ensures.left

pub returns-in_err-settle_all-clause-preserves : goal.returns-in_err-settle_all-clause-preserves
returns-in_err-settle_all-clause-preserves g c = owes_fault c.in_err-settle_all.ensures.preserves
    c.from_residual.result c.in_err-settle_all.field-0.0 (search rules) (ap Err)
