use Rattle.std.proofs.Common.{◌∙◌}
use Rattle.json_api.proofs.Members.{known, of_object}
use Rattle.json_api.proofs.fields.ValueFields.has_only.Goals as goal

pub returns-in-Some : goal.returns-in-Some
returns-in-Some c = c.are_known.ensures ∙ known c.args.allowed.now c.in-Some.members.now.entries
    ∙ of_object _ _ _ c.in-Some.ensures
