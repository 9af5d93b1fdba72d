use Rattle.std.proofs.Common.{length}
use Rattle.json_api.proofs.ScanLemmas.{IsBefore}
use Rattle.json_api.proofs.scan.read_members.Given as goal

-- A member comes next, after the members read so far.
abbrev pub invariant-members : goal.invariant-members
invariant-members l = IsBefore l.body l.rest l.members.items

abbrev pub decreases-members : goal.decreases-members
decreases-members l = length l.rest
