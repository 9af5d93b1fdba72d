use Rattle.std.proofs.Common.{ℕ, ◌<◌, get_or}
use Rattle.std.specs.Prelude.{◌≢◌}
use Rattle.model.specs.Windows.{Windows}
use Rattle.repair.specs.Contents.{entries_of}
use Rattle.repair.specs.Entries.{Entry, WindowSet}
use Rattle.repair.proofs.row.RegisterRows.present_set.Given as goal

-- No row so far is the present set.
abbrev pub invariant-loop-row : goal.invariant-loop-row
invariant-loop-row l = (k : ℕ) (d : Entry) (w : Windows) → k < l.row-index
    → get_or (entries_of l.self.rows.items) k d ≢ WindowSet l.self.present w
