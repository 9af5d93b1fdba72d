use Rattle.json_api.proofs.FlatLemmas.{text_then}
use Rattle.json_api.proofs.plain.text_after.Goals as goal

pub returns : goal.returns
returns g c = (
  c.in_ok-after.field-0.now,
  c.in_ok-after.ensures.some,
  text_then _ c.in_ok-text.text _ c.in_ok-text.ensures.utf8 c.in_ok-text.ensures.text,
)
