use Rattle.std.proofs.Common.{◌≡◌, ◌++◌, map, drop}
use Rattle.settle.specs.Sending.{begun_of, begun_version}
use Rattle.settle.proofs.sending.rows_of_each.Given as goal
use Rattle.version.specs.Abstraction.{windows_of}

abbrev pub invariant-loop-id : goal.invariant-loop-id
invariant-loop-id l =
    l.rows.items ++ map begun_version (map (begun_of (windows_of l.windows))
    (drop l.id-index l.versions))
    ≡ map begun_version (map (begun_of (windows_of l.windows)) l.versions)
