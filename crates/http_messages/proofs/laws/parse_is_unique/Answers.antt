use Rattle.http_messages.proofs.ParseLemmas.{one_parse}
use Rattle.http_messages.proofs.laws.parse_is_unique.Goals as goal

pub returns : goal.returns
returns c = λ input. one_parse input
