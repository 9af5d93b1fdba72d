use Rattle.std.proofs.Common.{◌≡◌, ◌++◌}
use Rattle.bulk.specs.Sides.{found_in}
use Rattle.bulk.proofs.sides.findings_in.Given as goal

-- The findings so far, followed by those on the entries left, are all findings.
abbrev pub invariant-loop-subject : goal.invariant-loop-subject
invariant-loop-subject l = l.findings.items ++ found_in l.subject-iterator ≡ found_in l.all.entries
