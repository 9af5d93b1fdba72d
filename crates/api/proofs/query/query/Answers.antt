use Rattle.std.proofs.Common.{ap, Err, rules}
use Rattle.requests.specs.Calls.{answer_of}
use Rattle.telnp.specs.Abstraction.{uri_of}
use Rattle.json_api.specs.Forms.{UriQuery}
use Rattle.api.proofs.StepLemmas.{blamed, refused_as, unknown_carried, faulty_carried, unasked_carried, query_carried, refused_query_carried}
use Rattle.api.proofs.query.query.Goals as goal

pub returns-in_err-knows-in-Err-clause-performs : goal.returns-in_err-knows-in-Err-clause-performs
returns-in_err-knows-in-Err-clause-performs g c = λ u st s.
    let from = g.S.StoreModel.failed c.args.register.now.store in
    let to = g.S.StoreModel.failed c.knows.new.self.store in
    let new = g.S.StoreModel.content c.knows.new.self.store in
    refused_as from to new st c.args.caller.number (UriQuery c.args.text.now)
    c.from_residual.result _ c.in_err-knows-in-Err.field-0.0 (search rules)
    (unknown_carried c.in_err-knows-in-Err.field-0.0 from to
    (g.S.StoreModel.content c.args.register.now.store) new c.args.caller.number c.args.text.now
    (c.in_err-knows-in-Err.ensures.answers u)
    (λ st s e. blamed c.in_err-knows-in-Err.ensures.preserves u st s (ap Err e)) st s)

pub returns-in-Err-clause-performs : goal.returns-in-Err-clause-performs
returns-in-Err-clause-performs g c =
    λ u. faulty_carried c.in-Err.fault (g.S.StoreModel.failed c.args.register.now.store)
    (g.S.StoreModel.failed c.knows.new.self.store)
    (g.S.StoreModel.content c.args.register.now.store)
    (g.S.StoreModel.content c.knows.new.self.store) c.args.caller.number c.args.text.now
    (c.in_ok-knows-in-Err.ensures.answers u) (rw c.in-Err.is at c.read-read.ensures.fault)

pub returns-in_err-knows-clause-performs : goal.returns-in_err-knows-clause-performs
returns-in_err-knows-clause-performs g c = λ u st s.
    let from = g.S.StoreModel.failed c.args.register.now.store in
    let to = g.S.StoreModel.failed c.knows-in_default.new.self.store in
    let new = g.S.StoreModel.content c.knows-in_default.new.self.store in
    refused_as from to new st c.args.caller.number (UriQuery c.args.text.now)
    c.from_residual-in_err-knows.result _ c.in_err-knows.field-0.0 (search rules)
    (unknown_carried c.in_err-knows.field-0.0 from to
    (g.S.StoreModel.content c.args.register.now.store) new c.args.caller.number c.args.text.now
    (c.in_err-knows.ensures.answers u)
    (λ st s e. blamed c.in_err-knows.ensures.preserves u st s (ap Err e)) st s)

pub returns-in_default-clause-performs : goal.returns-in_default-clause-performs
returns-in_default-clause-performs g c = λ u.
    unasked_carried (g.S.StoreModel.failed c.args.register.now.store)
    (g.S.StoreModel.failed c.knows-in_default.new.self.store)
    (g.S.StoreModel.content c.args.register.now.store)
    (g.S.StoreModel.content c.knows-in_default.new.self.store) c.args.caller.number
    c.args.text.now (uri_of c.in-Ok.uri) c.put_text.result _
    (record {
      same = rw c.in-Ok.is at c.read-read.ensures.text;
      parts = rw c.in-Ok.is at c.read-read.ensures.uri;
    }) c.in_default.ensures.none (c.in_ok-knows.ensures.answers u) c.put_text.ensures.body
    c.put_text.ensures.unavailable

pub returns-in-Ok-query-clause-performs : goal.returns-in-Ok-query-clause-performs
returns-in-Ok-query-clause-performs g c = λ u.
    query_carried (g.S.StoreModel.failed c.args.register.now.store)
    (g.S.StoreModel.failed c.query.new.self.store)
    (g.S.StoreModel.content c.args.register.now.store)
    (g.S.StoreModel.content c.query.new.self.store) c.args.caller.number c.args.text.now
    (uri_of c.in-Ok.uri) c.in-Some.tn.number (answer_of c.in-Ok-query.answer) c.put_routed.result _
    (record {
      same = rw c.in-Ok.is at c.read-read.ensures.text;
      parts = rw c.in-Ok.is at c.read-read.ensures.uri;
    }) c.in-Some.ensures.some (c.in-Ok-query.ensures.answers u) c.put_routed.ensures.body
    c.put_routed.ensures.unavailable

pub returns-in-Err-query-clause-performs : goal.returns-in-Err-query-clause-performs
returns-in-Err-query-clause-performs g c =
    λ u. refused_query_carried c.in-Err-query.refusal
    (g.S.StoreModel.failed c.args.register.now.store)
    (g.S.StoreModel.failed c.query.new.self.store)
    (g.S.StoreModel.content c.args.register.now.store)
    (g.S.StoreModel.content c.query.new.self.store) c.args.caller.number c.args.text.now
    c.in-Some.tn.number (c.in-Err-query.ensures.answers u)
    (λ st s e. blamed c.in-Err-query.ensures.preserves u st s (ap Err e))
