use Rattle.std.proofs.Common.{◌≡◌, ◌++◌, drop}
use Rattle.store.specs.Runs.{carriers_in}
use Rattle.store.proofs.waiting.carriers_in.Given as goal

abbrev pub invariant-loop-key : goal.invariant-loop-key
invariant-loop-key l = l.carriers.items ++ carriers_in (drop l.key-index l.downloads)
    ≡ carriers_in l.downloads
