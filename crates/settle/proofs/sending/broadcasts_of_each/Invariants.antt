use Rattle.std.proofs.Common.{◌≡◌, ◌++◌, map, drop}
use Rattle.model.specs.Abstraction.{send_of}
use Rattle.settle.specs.Sending.{begun_broadcast, begun_of, broadcast_model}
use Rattle.settle.proofs.sending.broadcasts_of_each.Given as goal
use Rattle.version.specs.Abstraction.{no_windows}

abbrev pub invariant-loop-id : goal.invariant-loop-id
invariant-loop-id l =
    map broadcast_model l.broadcasts.items ++ map (begun_broadcast l.minute.number (send_of l.send))
    (map (begun_of no_windows) (drop l.id-index l.versions))
    ≡ map (begun_broadcast l.minute.number (send_of l.send)) (map (begun_of no_windows) l.versions)
