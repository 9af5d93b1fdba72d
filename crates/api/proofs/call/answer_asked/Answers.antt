use Rattle.register.specs.Crashes.{KeepsState}
use Rattle.json_api.specs.Forms.{UriQuery}
use Rattle.api.specs.Crashes.{LeavesCall}
use Rattle.api.proofs.Left.{kept_call, left_as}
use Rattle.api.proofs.call.answer_asked.Goals as goal

pub returns-in-Call-clause-performs : goal.returns-in-Call-clause-performs
returns-in-Call-clause-performs g c = rw c.in-Call.is c.answer.ensures.performs

pub returns-in-Uri-clause-performs : goal.returns-in-Uri-clause-performs
returns-in-Uri-clause-performs g c = rw c.in-Uri.is c.query.ensures.performs

pub returns-in-Call-clause-left : goal.returns-in-Call-clause-left
returns-in-Call-clause-left g c = rw c.in-Call.is c.answer.ensures.left

pub returns-in-Uri-clause-left : goal.returns-in-Uri-clause-left
returns-in-Uri-clause-left g c = rw c.in-Uri.is
    (let old = g.S.StoreModel.content c.args.register.now.store in
    let asked = UriQuery c.in-Uri.uri.now in
    left_as g.S.StoreModel c.args.register.now.store c.query.new.register.store (KeepsState old)
    (λ m. LeavesCall old m c.args.caller.number asked) c.query.ensures.left
    (λ m. kept_call old m c.args.caller.number asked))
