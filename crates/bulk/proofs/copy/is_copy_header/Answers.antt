use Rattle.std.proofs.Common.{ap, length}
use Rattle.bulk.specs.Audits.{copy_header}
use Rattle.bulk.proofs.copy.is_copy_header.Goals as goal

pub returns-in-None : goal.returns-in-None
unfolding copy_header
returns-in-None c = (λ h. cc, λ e. absurd (c.in-None.ensures.none (ap length e)))
