use Rattle.std.proofs.Common.{◌≡◌}
use Rattle.std.specs.FinMap.{empty}
use Rattle.store.specs.QueueRows.{gathered, subjects_of}
use Rattle.store.proofs.waits.Waits.subjects_from.Given as goal

abbrev pub invariant-loop-key : goal.invariant-loop-key
invariant-loop-key l = gathered l.fn.self l.carrier.number l.key-iterator (subjects_of l.subjects)
    ≡ gathered l.fn.self l.carrier.number l.initial.key-iterator empty
