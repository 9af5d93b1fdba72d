-- Feeding a new register: the answers are those of the machine from its first state on.
--
-- No minute is supplied for a message, and the device of a store in memory never fails: its count
-- of failures is 0 before and after.
use Rattle.std.specs.Prelude.{◌≡◌, ◌≤◌, ℕ, ◌⊎◌, List, [], Option, Some, Result, Ok, Err, true}
use Rattle.std.specs.Io.KnownBytes.{append_known}
use Rattle.model.specs.Content.{Content, empty_content}
use Rattle.model.specs.State.{State, first_state}
use Rattle.model.specs.Windows.{Windows}
use Rattle.settle.specs.Reads.{HasDeviceFailed}
use Rattle.api.specs.Serving.{EndsAt, FailsAt, Serves, IoTrace}
use Rattle.api.specs.declared.serving.End.{End}
use Rattle.api.specs.declared.serving.End.TheVariants.{Input, Closed, Refused}
use Rattle.api.specs.declared.serving.Served.{Served}
use Rattle.api.specs.declared.serving.Fault.{Fault as ServingFault}
use Rattle.api.specs.declared.serving.Fault.TheVariants as serving
use Rattle.hub.specs.Feeding.{FeedsTo}
use Rattle.hub.specs.declared.feeding.FeedFault.{FeedFault}
use Rattle.hub.specs.declared.feeding.FeedFault.TheVariants as feeding
use Rattle.register.specs.declared.register.OpenFault.TheVariants as opening
use Rattle.cli.specs.declared.fault.Fault.{Fault}
use Rattle.cli.specs.declared.fault.Fault.TheVariants as fault

-- The trace of serving without supplied minutes.
abbrev pub io_of_feed : (input : List ℕ) → (unread had has : Option (List ℕ)) → IoTrace
io_of_feed input unread had has = record {
  input = input;
  unread = unread;
  ticks_before = Some [];
  ticks_after = Some [];
  written_before = had;
  written_after = has;
}

-- Holds if serving ended so after some messages, with some content.
abbrev pub Ended : Windows → IoTrace → End → Type 0
Ended w trace end = (new : Content) × (k : ℕ) × EndsAt end true 0 0 (first_state w) new trace k

-- Holds if serving failed so after some messages.
abbrev pub Failed : Windows → IoTrace → (ℕ → ServingFault) → Type 0
Failed w trace fault_after =
    (new : Content) × (k : ℕ) × FailsAt (fault_after k) true 0 0 (first_state w) new trace

-- Holds if the input was fed to a new register of these windows through a buffer, with this result.
-- The trace is that of the writer after the buffer, and `unwritten` is what the buffer still holds.
-- If a write failed, `unwritten` follows what was written, and both together are all that serving
-- answered, however it ended. In all other cases everything is written. If there was no memory to
-- open the register, nothing was answered.
abbrev pub Feeds : Windows → IoTrace → (unwritten : List ℕ) → Result (Unit {0}) Fault → Type 0
Feeds w trace unwritten (Ok done) = Ended w trace Input ⊎ Ended w trace Closed
Feeds w trace unwritten (Err (fault.Message refused)) = Ended w trace (Refused refused)
Feeds w trace unwritten (Err fault.Read) = Failed w trace serving.Read
Feeds w trace unwritten (Err fault.Write) = (served : Result Served ServingFault) × (new : Content)
    × Serves served true 0 0 (first_state w) new (record trace {
      written_after =
          append_known trace.written_after unwritten;
    })
Feeds w trace unwritten (Err fault.NoMemory) = Failed w trace serving.Memory
Feeds w trace unwritten (Err (fault.Open opening.NoMemory)) =
    append_known trace.written_after unwritten ≡ trace.written_before
Feeds w trace unwritten (Err (fault.Open opening.Storage)) = ⊥
Feeds w trace unwritten (Err (fault.Open opening.WindowsDiffer)) = ⊥
Feeds w trace unwritten (Err (fault.Windows refused)) = ⊥
Feeds w trace unwritten (Err (fault.File refused)) = ⊥
Feeds w trace unwritten (Err fault.RowsRefused) = ⊥
Feeds w trace unwritten (Err fault.Listen) = ⊥

-- The program's outcome when serving ends so.
abbrev pub fault_of_end : End → Result (Unit {0}) Fault
fault_of_end Input = Ok tt
fault_of_end Closed = Ok tt
fault_of_end (Refused refused) = Err (fault.Message refused)

abbrev pub outcome_of : Result Served ServingFault → Result (Unit {0}) Fault
outcome_of (Ok served) = fault_of_end served.end
outcome_of (Err (serving.Read k)) = Err fault.Read
outcome_of (Err (serving.Write k)) = Err fault.Write
outcome_of (Err (serving.Memory k)) = Err fault.NoMemory

-- ---- in groups of commits

-- Holds if feeding ended so after some messages, from the state `st`. The device's failures are
-- counted before the register was opened (`from`), then (`opened`), and afterwards (`to`).
abbrev pub FedInGroups : (from to : ℕ) → State → (new : Content) → IoTrace → Result End FeedFault
    → Type 0
FedInGroups from to st new trace ended =
    (opened : ℕ) × (from ≤ opened) × (opened ≤ to) × FeedsTo ended opened to st new trace

-- Holds if nothing was executed, since a register over an empty store could not be opened.
abbrev pub IsUnopened : (new : Content) → IoTrace → Type 0
IsUnopened new trace = (new ≡ empty_content) × (trace.written_after ≡ trace.written_before)

-- Holds if the input was fed in groups of commits to a register in the state `st`, with this
-- result, and `new` is the content afterwards. If a write failed, what was written is a prefix of
-- what answers the messages that had their steps. `Open` comes only of a register over an empty
-- store, and its `Storage` only if a failure was counted.
abbrev pub FeedsInGroups : (from to : ℕ) → State → (new : Content) → IoTrace
    → Result (Unit {0}) Fault → Type 0
FeedsInGroups from to st new trace (Ok done) =
    FedInGroups from to st new trace (Ok Input) ⊎ FedInGroups from to st new trace (Ok Closed)
FeedsInGroups from to st new trace (Err (fault.Message refused)) =
    FedInGroups from to st new trace (Ok (Refused refused))
FeedsInGroups from to st new trace (Err fault.Read) =
    FedInGroups from to st new trace (Err feeding.Read)
FeedsInGroups from to st new trace (Err fault.Write) =
    FedInGroups from to st new trace (Err feeding.Write)
FeedsInGroups from to st new trace (Err fault.NoMemory) =
    FedInGroups from to st new trace (Err feeding.NoMemory)
FeedsInGroups from to st new trace (Err (fault.Open opening.NoMemory)) = IsUnopened new trace
FeedsInGroups from to st new trace (Err (fault.Open opening.Storage)) =
    HasDeviceFailed from to × IsUnopened new trace
FeedsInGroups from to st new trace (Err (fault.Open opening.WindowsDiffer)) = ⊥
FeedsInGroups from to st new trace (Err (fault.Windows refused)) = ⊥
FeedsInGroups from to st new trace (Err (fault.File refused)) = ⊥
FeedsInGroups from to st new trace (Err fault.RowsRefused) = ⊥
FeedsInGroups from to st new trace (Err fault.Listen) = ⊥

abbrev pub outcome_of_groups : Result End FeedFault → Result (Unit {0}) Fault
outcome_of_groups (Ok end) = fault_of_end end
outcome_of_groups (Err feeding.Read) = Err fault.Read
outcome_of_groups (Err feeding.Write) = Err fault.Write
outcome_of_groups (Err feeding.NoMemory) = Err fault.NoMemory
