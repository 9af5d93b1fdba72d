use Rattle.json_api.proofs.ClearLemmas.{same_form}
use Rattle.json_api.proofs.forms.body_asks_once.Goals as goal

pub returns : goal.returns
returns c = same_form
