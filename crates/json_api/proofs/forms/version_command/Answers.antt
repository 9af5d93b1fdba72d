use Rattle.json_api.proofs.FormLemmas.{on_none, no_modify}
use Rattle.json_api.proofs.forms.version_command.Goals as goal

pub returns-in_err-routing-in-ModifyRouting-clause-none : goal.returns-in_err-routing-in-ModifyRouting-clause-none
returns-in_err-routing-in-ModifyRouting-clause-none g c =
    rw c.in-ModifyRouting.is
    (on_none _ (no_modify _ c.in_err-routing-in-ModifyRouting.ensures.none))
