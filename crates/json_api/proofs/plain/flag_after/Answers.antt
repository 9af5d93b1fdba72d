use Rattle.std.proofs.Common.{sym}
use Rattle.json_api.proofs.plain.flag_after.Goals as goal

pub returns-in-Flag-default : goal.returns-in-Flag-default
returns-in-Flag-default g c = (
  c.in_ok-after.field-0.now,
  c.in_ok-after.ensures.some,
  rw (sym c.in-Flag-default.is-0) c.in_ok-flag.ensures,
)
