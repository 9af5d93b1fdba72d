use Rattle.std.proofs.Common.{length}
use Rattle.json_api.specs.Scanned.{IsAfterGap}
use Rattle.json_api.proofs.scan.skip_gap.Given as goal

abbrev pub invariant-gap : goal.invariant-gap
invariant-gap l = IsAfterGap l.bytes l.rest

abbrev pub decreases-gap : goal.decreases-gap
decreases-gap l = length l.rest
