use Rattle.json_api.proofs.PlainForms.{acknowledgement_asked}
use Rattle.json_api.proofs.plain.plain_acknowledgement.Goals as goal

pub returns : goal.returns
returns c =
    acknowledgement_asked c.args.body c.in_ok-attempt.rest.now c.args.body.now c.in_ok-id.rest.now
    c.in_ok-attempt.attempt c.in_ok-id.id c.in_ok-attempt.ensures.value c.in_ok-id.ensures.value
    (c.is_end.ensures c.if-not-is_end.false) c.in_ok-attempt.ensures.small c.in_ok-id.ensures.small
