-- The report of the program as it ends, and its exit status.
use Rattle.std.specs.Prelude.{◌≡◌, ◌≢◌, ◌⊎◌, ℕ, Bool, true, false, List, [], ◌∷◌, ◌++◌, codes, Option, Result, Ok, Err}
use Rattle.std.specs.Io.KnownBytes.{Appends, Keeps}
use Rattle.http_messages.specs.Sending.{AppendsPrefix}
use Rattle.command_line.specs.CommandLine.{IsLine}
use Rattle.command_line.specs.Usage.{AsksForHelp, ExplainsMistake}
use Rattle.cli.specs.Faults.{MayEndAs, exit_status, fault_name}
use Rattle.cli.specs.declared.fault.Fault.{Fault}
use Rattle.cli.specs.declared.fault.Fault.TheVariants as fault
use Rattle.command_line.specs.declared.parse.Parsed.{Parsed}

-- The line on standard error for a fault's name.
abbrev pub line_of : List ℕ → List ℕ
line_of name = codes "npacd: " ++ name ++ 10 ∷ []

-- Holds if a text was written whole and the status is `wanted`, or only a prefix of it and the
-- status is 3.
abbrev pub ReportsText : List ℕ → ℕ → (had has : Option (List ℕ)) → (status : ℕ) → Type 0
ReportsText text wanted had has status = ((status ≡ wanted) × Appends had has text)
    ⊎ ((status ≡ 3) × AppendsPrefix had has text)

-- Holds if a fault was reported with its own status.
abbrev pub ReportsFault : Fault → (had has : Option (List ℕ)) → (status : ℕ) → Type 0
ReportsFault refused had has status =
    ReportsText (line_of (fault_name refused)) (exit_status refused) had has status

-- Holds if a mistake in the command line was reported.
abbrev pub ReportsMistake : List ℕ → (had has : Option (List ℕ)) → (status : ℕ) → Type 0
ReportsMistake text had has status = ReportsText text 2 had has status

-- Holds if success is not reported, and a fault is.
abbrev pub ReportsOutcome : Result (Unit {0}) Fault → (had has : Option (List ℕ)) → (status : ℕ)
    → Type 0
ReportsOutcome (Ok done) had has status = (status ≡ 0) × Keeps had has
ReportsOutcome (Err refused) had has status = ReportsFault refused had has status

-- Holds if help was written and nothing was reported; or if help could not be written, and that was
-- reported.
abbrev pub ReportsHelp : List ℕ → (wrote written had has : Option (List ℕ)) → (status : ℕ) → Type 0
ReportsHelp text wrote written had has status =
    ((status ≡ 0) × Appends wrote written text × Keeps had has)
    ⊎ ReportsFault fault.Write had has status

-- Holds if the report is the one for this status of the usage.
pub record ReportsUsage (wanted : ℕ) (text : List ℕ) (wrote written had has : Option (List ℕ))
    (status : ℕ) : Type 0 where
  pub help : wanted ≡ 0 → ReportsHelp text wrote written had has status
  pub mistake : wanted ≡ 2 → ReportsMistake text had has status
  pub memory : wanted ≡ 3 → ReportsFault fault.NoMemory had has status

-- Holds if the words are a command line, which was executed, or ask for help, and nothing was
-- reported.
abbrev pub EndsWell : (words : List (List ℕ)) → (had has : Option (List ℕ)) → (status : ℕ) → Type 0
EndsWell words had has status =
    (status ≡ 0) × (((parsed : Parsed) × IsLine words parsed) ⊎ AsksForHelp words) × Keeps had has

-- Holds if the words are a command line that may end with this fault; if they ask for help, which
-- could not be written; or if an allocation failed.
abbrev pub MayEndWith : (words : List (List ℕ)) → Fault → Type 0
MayEndWith words refused = ((parsed : Parsed) × IsLine words parsed × MayEndAs parsed refused)
    ⊎ (AsksForHelp words × (refused ≡ fault.Write)) ⊎ (refused ≡ fault.NoMemory)

-- Holds if such a fault was reported: its line with its own status, or only a prefix of the line
-- with status 3.
abbrev pub EndsFailed : (words : List (List ℕ)) → (had has : Option (List ℕ)) → (status : ℕ)
    → Type 0
EndsFailed words had has status =
    (refused : Fault) × MayEndWith words refused × ReportsFault refused had has status

-- Holds if the words are a mistake, and a text that explains it was reported: the text with status
-- 2, or only a prefix of it with status 3.
abbrev pub EndsMistaken : (words : List (List ℕ)) → (had has : Option (List ℕ)) → (status : ℕ)
    → Type 0
EndsMistaken words had has status =
    (text : List ℕ) × ExplainsMistake words text × ReportsMistake text had has status

-- Holds if the program ends so, by what it reported on the errors.
abbrev pub Ends : (words : List (List ℕ)) → (had has : Option (List ℕ)) → (status : ℕ) → Type 0
Ends words had has status = EndsWell words had has status ⊎ EndsFailed words had has status
    ⊎ EndsMistaken words had has status
