use Rattle.json_api.proofs.PlainForms.{query_asked}
use Rattle.json_api.proofs.plain.plain_query.Goals as goal

pub returns : goal.returns
returns c =
    query_asked c.in_ok-uri.uri c.args.body.now c.in_ok-uri.rest.now c.in_ok-uri.ensures
    (c.is_end.ensures c.if-not-is_end.false)
