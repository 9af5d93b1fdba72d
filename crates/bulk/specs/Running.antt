-- The results of running tasks.
use Rattle.std.specs.Prelude.{◌≡◌, ◌≢◌, ◌⊎◌, ℕ, ◌+◌, List, [], ◌∷◌, ◌++◌, length, take, Option, Result, Ok, Err}
use Rattle.std.specs.List.{concat}
use Rattle.std.specs.Io.KnownBytes.{Appends}
use Rattle.model.specs.Content.{Content}
use Rattle.model.specs.Machine.{state_after as machine_after}
use Rattle.model.specs.State.{State}
use Rattle.model.specs.Refusals.{Input}
use Rattle.http_messages.specs.Sending.{AppendsPrefix}
use Rattle.register.specs.Refinement.{Refines}
use Rattle.bulk.specs.Faults.{IsUnavailableKind, IsUnread}
use Rattle.bulk.specs.Files.{AreSent}
use Rattle.bulk.specs.Requests.{header}
use Rattle.bulk.specs.Report.{AreRead, Task, line_of, lines_of, report_header, next_state, state_after, tasks_from}
use Rattle.bulk.specs.Rows.{Row, AreRowsOf}
use Rattle.bulk.specs.declared.request.BulkRequest.{BulkRequest}
use Rattle.bulk.specs.declared.fault.BulkFault.{BulkFault}
use Rattle.bulk.specs.declared.fault.FaultKind.{FaultKind}
use Rattle.bulk.specs.declared.fault.FaultKind.TheVariants.{BadHeader, BadFile, UnknownCarrier, Storage, NoMemory, Read, Write}

-- Holds if a line was sent after `count` others, or the writer failed in it.
abbrev pub SendsOne : (had has : Option (List ℕ)) → (text : List ℕ) → (count : ℕ)
    → Result ℕ BulkFault → Type 0
SendsOne had has text count (Ok k) = Appends had has text × (k ≡ count + 1)
SendsOne had has text count (Err fault) = AppendsPrefix had has text × (fault.kind ≡ Write)
    × (fault.rows ≡ count)

-- Holds if all tasks were executed, after `from` lines.
pub record DoesAll (st : State) (tasks : List Task) (new : Content) (had has : Option (List ℕ))
    (from k : ℕ) : Type 0 where
  pub refines : Refines new (state_after st tasks)
  pub sent : AreSent had has (lines_of st tasks)
  pub count : k ≡ from + length tasks

-- Holds if only the first tasks were executed.
pub record DoesFirst (st : State) (tasks : List Task) (new : Content) (had has : Option (List ℕ))
    (from k : ℕ) : Type 0 where
  pub first : List Task
  pub others : List Task
  pub all : tasks ≡ first ++ others
  pub done : DoesAll st first new had has from k

-- Holds if the first tasks and one more were executed, and a prefix of the last one's line was
-- written.
pub record BreaksAt (st : State) (tasks : List Task) (new : Content) (had has : Option (List ℕ))
    (from k : ℕ) : Type 0 where
  pub first : List Task
  pub task : Task
  pub others : List Task
  pub all : tasks ≡ first ++ task ∷ others
  pub refines : Refines new (next_state (state_after st first) task)
  pub part : ℕ
  pub sent : Appends had has (concat (lines_of st first) ++ take part
      (line_of (state_after st first) task))
  pub count : k ≡ from + length first

abbrev pub FailsIn : FaultKind → State → List Task → Content → (had has : Option (List ℕ))
    → (from k : ℕ) → Type 0
FailsIn Write st tasks new had has from k = BreaksAt st tasks new had has from k
FailsIn Storage st tasks new had has from k = DoesFirst st tasks new had has from k
FailsIn NoMemory st tasks new had has from k = DoesFirst st tasks new had has from k
FailsIn Read st tasks new had has from k = DoesFirst st tasks new had has from k
FailsIn BadHeader st tasks new had has from k = ⊥
FailsIn BadFile st tasks new had has from k = ⊥
FailsIn UnknownCarrier st tasks new had has from k = ⊥

-- Holds if a run from the state `st`, after `from` lines, has this result.
abbrev pub RunsTo : State → List Task → Content → (had has : Option (List ℕ)) → (from : ℕ)
    → Result ℕ BulkFault → Type 0
RunsTo st tasks new had has from (Ok k) = DoesAll st tasks new had has from k
RunsTo st tasks new had has from (Err fault) =
    FailsIn fault.kind st tasks new had has from fault.rows

-- Holds if only the lines of the first tasks were sent, after `from` lines.
pub record SendsFirst (st : State) (tasks : List Task) (had has : Option (List ℕ))
    (from k : ℕ) : Type 0 where
  pub first : List Task
  pub others : List Task
  pub all : tasks ≡ first ++ others
  pub sent : AreSent had has (lines_of st first)
  pub count : k ≡ from + length first

-- Holds if a run from the state `st`, after `from` lines, ended with `storage` or `no_memory` after
-- the lines of the first tasks. Not said: what the content is.
abbrev pub RunsUntil : State → List Task → (had has : Option (List ℕ)) → (from : ℕ)
    → Result ℕ BulkFault → Type 0
RunsUntil st tasks had has from (Ok k) = ⊥
RunsUntil st tasks had has from (Err fault) =
    IsUnavailableKind fault.kind × SendsFirst st tasks had has from fault.rows

-- ---- the rows of a file

-- Holds if all rows were run from the state `st`.
pub record RunsAll (st : State) (rows : List Row) (new : Content) (had has : Option (List ℕ))
    (k : ℕ) : Type 0 where
  pub requests : List (Option BulkRequest)
  pub read : AreRead rows requests
  pub done : DoesAll st (tasks_from 1 requests) new had has 0 k

-- Holds if only the first rows were run, the last of them perhaps in part.
pub record RunsFirst (kind : FaultKind) (st : State) (rows : List Row) (new : Content)
    (had has : Option (List ℕ)) (k : ℕ) : Type 0 where
  pub first : List Row
  pub others : List Row
  pub all : rows ≡ first ++ others
  pub requests : List (Option BulkRequest)
  pub read : AreRead first requests
  pub failed : FailsIn kind st (tasks_from 1 requests) new had has 0 k

abbrev pub RunsRows : State → List Row → Content → (had has : Option (List ℕ)) → Result ℕ BulkFault
    → Type 0
RunsRows st rows new had has (Ok k) = RunsAll st rows new had has k
RunsRows st rows new had has (Err fault) = RunsFirst fault.kind st rows new had has fault.rows

-- Holds if only lines of the first rows were sent, those of the last of them perhaps in part.
pub record SendsFirstRows (st : State) (rows : List Row) (had has : Option (List ℕ))
    (k : ℕ) : Type 0 where
  pub first : List Row
  pub others : List Row
  pub all : rows ≡ first ++ others
  pub requests : List (Option BulkRequest)
  pub read : AreRead first requests
  pub sent : SendsFirst st (tasks_from 1 requests) had has 0 k

abbrev pub RunsRowsUntil : State → List Row → (had has : Option (List ℕ)) → Result ℕ BulkFault
    → Type 0
RunsRowsUntil st rows had has (Ok k) = ⊥
RunsRowsUntil st rows had has (Err fault) =
    IsUnavailableKind fault.kind × SendsFirstRows st rows had has fault.rows

-- Holds if the content refines a state that the machine can reach from `st`.
abbrev pub RefinesReachable : State → Content → Type 0
RefinesReachable st new = (inputs : List Input) × Refines new (machine_after st inputs)

-- ---- a file

-- Holds if the writer failed in the report's header.
pub record IsHeaderBroken (st : State) (new : Content) (had has : Option (List ℕ))
    (fault : BulkFault) : Type 0 where
  pub kind : fault.kind ≡ Write
  pub rows : fault.rows ≡ 0
  pub refines : Refines new st
  pub part : ℕ
  pub sent : Appends had has (take part report_header)

abbrev pub BreaksHeader : State → Content → (had has : Option (List ℕ)) → Result ℕ BulkFault
    → Type 0
BreaksHeader st new had has (Ok k) = ⊥
BreaksHeader st new had has (Err fault) = IsHeaderBroken st new had has fault

abbrev pub Reports : State → List Row → Content → (had has : Option (List ℕ)) → Result ℕ BulkFault
    → Type 0
Reports st rows new had has result =
    ((behind : Option (List ℕ)) × Appends had behind report_header
    × RunsRows st rows new behind has result)
    ⊎ BreaksHeader st new had has result

abbrev pub ReportsUntil : State → List Row → (had has : Option (List ℕ)) → Result ℕ BulkFault
    → Type 0
ReportsUntil st rows had has result = (behind : Option (List ℕ)) × Appends had behind report_header
    × RunsRowsUntil st rows behind has result

-- Holds if the rows do not begin with the header of a bulk file.
abbrev pub LacksHeader : List Row → Type 0
LacksHeader rows = (others : List Row) → rows ≢ header ∷ others

-- Holds if nothing was run or written, because the header is missing or the first row could not be
-- read.
pub record RunsNothing (st : State) (bytes : List ℕ) (new : Content) (had has : Option (List ℕ))
    (fault : BulkFault) : Type 0 where
  pub rows : fault.rows ≡ 0
  pub refines : Refines new st
  pub sent : Appends had has []
  pub why : ((fault.kind ≡ BadHeader) × ((rows : List Row) × AreRowsOf bytes rows
      × LacksHeader rows)) ⊎ IsUnread fault.kind

abbrev pub StopsFirst : State → (bytes : List ℕ) → Content → (had has : Option (List ℕ))
    → Result ℕ BulkFault → Type 0
StopsFirst st bytes new had has (Ok k) = ⊥
StopsFirst st bytes new had has (Err fault) = RunsNothing st bytes new had has fault

-- Holds if the run of a file of these bytes from the state `st` has this result.
abbrev pub RunsFile : State → (bytes : List ℕ) → Content → (had has : Option (List ℕ))
    → Result ℕ BulkFault → Type 0
RunsFile st bytes new had has result =
    ((rows : List Row) × AreRowsOf bytes (header ∷ rows) × Reports st rows new had has result)
    ⊎ StopsFirst st bytes new had has result

-- Holds if the run of a file of these bytes from the state `st` ended with `storage` or
-- `no_memory`, and the report has the machine's answers to its first commands, as many as are
-- counted.
abbrev pub RunsFileUntil : State → (bytes : List ℕ) → (had has : Option (List ℕ))
    → Result ℕ BulkFault → Type 0
RunsFileUntil st bytes had has result =
    (rows : List Row) × AreRowsOf bytes (header ∷ rows) × ReportsUntil st rows had has result
