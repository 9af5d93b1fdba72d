use Rattle.std.proofs.Common.{◌≡◌, ◌++◌, map, flat_map, drop}
use Rattle.settle.specs.Sending.{begun_of, begun_waits, wait_model}
use Rattle.settle.specs.Abstraction.{spid_of}
use Rattle.settle.proofs.sending.waits_of_each.Given as goal
use Rattle.version.specs.Abstraction.{no_windows}

abbrev pub invariant-loop-id : goal.invariant-loop-id
invariant-loop-id l =
    map wait_model l.waits.items ++ flat_map
    (begun_waits l.minute.number (map spid_of l.all_carriers))
    (map (begun_of no_windows) (drop l.id-index l.versions))
    ≡ flat_map (begun_waits l.minute.number (map spid_of l.all_carriers))
    (map (begun_of no_windows) l.versions)
