use Rattle.std.proofs.Common.{◌≡◌, ◌+◌, drop}
use Rattle.numbers.specs.Abstraction.{subject_of}
use Rattle.settle.specs.Abstraction.{wait_key_of}
use Rattle.store.specs.Runs.{run_length}
use Rattle.store.specs.WaitRows.{download_of}
use Rattle.store.proofs.runs.run_length.Given as goal

abbrev pub invariant-loop-key : goal.invariant-loop-key
invariant-loop-key l = record {
  passed : l.count ≡ l.key-index;
  rest : l.key-index + run_length (download_of (wait_key_of l.first)) (subject_of l.subject) l.from
      (drop l.key-index l.downloads)
      ≡ run_length (download_of (wait_key_of l.first)) (subject_of l.subject) 0 l.downloads;
}
