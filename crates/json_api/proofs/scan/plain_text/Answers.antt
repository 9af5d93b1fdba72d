use Rattle.json_api.proofs.ScanLemmas.{plain_utf8}
use Rattle.json_api.proofs.scan.plain_text.Goals as goal

pub from_utf8_unchecked-requires : goal.from_utf8_unchecked-requires
from_utf8_unchecked-requires c = plain_utf8 c.args.bytes.now c.requires
