use Rattle.json_api.proofs.PlainForms.{new_create}
use Rattle.json_api.proofs.plain.plain_new_provider_create.Goals as goal

pub returns : goal.returns
returns c =
    new_create c.args.body c.args.body.now c.in_ok-lrn.rest.now c.in_ok-due.due
    c.in_ok-due.ensures.small c.in_ok-create.create c.in_ok-create.ensures.port
    c.in_ok-create.ensures.rest.0 c.in_ok-lrn_of.field-0 c.in_ok-lrn.lrn c.in_ok-due.rest.now
    c.in_ok-create.ensures.rest.1 c.in_ok-due.ensures.value c.in_ok-lrn.ensures
    c.in_ok-lrn_of.ensures
