use Rattle.api.proofs.PlainLemmas.{answers_are_plain}
use Rattle.api.proofs.laws.uris_need_no_escape.Goals as goal

pub returns : goal.returns
returns c = answers_are_plain
