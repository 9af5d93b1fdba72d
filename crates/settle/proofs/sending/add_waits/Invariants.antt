use Rattle.std.proofs.Common.{◌≡◌, ◌++◌, map, drop}
use Rattle.numbers.specs.Abstraction.{subject_of}
use Rattle.settle.specs.Changes.{wait_put}
use Rattle.settle.specs.Sending.{wait_model}
use Rattle.settle.specs.Abstraction.{spid_of}
use Rattle.settle.proofs.sending.add_waits.Given as goal

abbrev pub invariant-loop-carrier : goal.invariant-loop-carrier
invariant-loop-carrier l =
    map wait_model l.waits.items ++ map (wait_put l.minute.number l.id l.version.attempt
    (subject_of l.version.subject)) (map spid_of (drop l.carrier-index l.all_carriers))
    ≡ map wait_model l.initial.waits.items ++ map (wait_put l.minute.number l.id l.version.attempt
    (subject_of l.version.subject)) (map spid_of l.all_carriers)
