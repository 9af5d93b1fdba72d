use Rattle.json_api.proofs.PlainForms.{old_create}
use Rattle.json_api.proofs.plain.plain_old_provider_create.Goals as goal

pub returns : goal.returns
returns c =
    old_create c.args.body c.args.body.now c.in_ok-due.rest.now c.in_ok-due.due
    c.in_ok-due.ensures.small c.in_ok-create.create c.in_ok-create.ensures.port
    c.in_ok-create.ensures.rest.0 c.in_ok-authorized.authorized c.in_ok-authorized.rest.now
    c.in_ok-create.ensures.rest.1 c.in_ok-authorized.ensures c.in_ok-due.ensures.value
