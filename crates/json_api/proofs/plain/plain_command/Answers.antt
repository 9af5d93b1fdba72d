use Rattle.version.specs.Commands.{command_model}
use Rattle.json_api.proofs.PlainForms.{command_asked}
use Rattle.json_api.proofs.plain.plain_command.Goals as goal

pub returns : goal.returns
returns c =
    command_asked c.args.body c.args.path c.args.body.now c.in_ok-id.rest.now c.in_ok-id.id
    (command_model c.in_ok-command.command) c.in_ok-id.ensures.value
    (c.is_end.ensures c.if-not-is_end.false) c.in_ok-id.ensures.small c.in_ok-command.ensures
