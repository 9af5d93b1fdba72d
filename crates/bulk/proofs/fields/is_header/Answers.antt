use Rattle.std.proofs.Common.{ap, length}
use Rattle.bulk.specs.Requests.{header}
use Rattle.bulk.proofs.fields.is_header.Goals as goal

pub returns-in-None : goal.returns-in-None
unfolding header
returns-in-None c = (λ h. cc, λ e. absurd (c.in-None.ensures.none (ap length e)))
