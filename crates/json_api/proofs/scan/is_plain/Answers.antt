use Rattle.std.proofs.Common.{rules}
use Rattle.json_api.proofs.PlainBytes.{plain_at}
use Rattle.json_api.proofs.scan.is_plain.Goals as goal

pub returns : goal.returns
returns c = search (plain_at, rules)
