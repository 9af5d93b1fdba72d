-- The faults of a command line: their names on standard error, and their exit statuses.
use Rattle.std.specs.Prelude.{◌≡◌, ◌⊎◌, ◌&&◌, ℕ, Bool, true, false, if◌then◌else◌, List, Option, codes, Result, Ok, Err, ⊤, IsSome}
use Rattle.windows.specs.File.{name_of}
use Rattle.windows.specs.declared.window.WindowFault.TheVariants as windows
use Rattle.http_messages.specs.Faults.{message_name}
use Rattle.register.specs.declared.register.OpenFault.TheVariants as opening
use Rattle.sql_store.specs.declared.file_fault.FileFault.{FileFault}
use Rattle.sql_store.specs.declared.file_fault.FileFault.TheVariants as file
use Rattle.bulk.specs.Faults.{kind_name}
use Rattle.bulk.specs.Noting.{ReportsNoting}
use Rattle.bulk.specs.declared.fault.BulkFault.{BulkFault}
use Rattle.bulk.specs.declared.fault.FaultKind.TheVariants as kind
use Rattle.cli.specs.declared.fault.Fault.{Fault}
use Rattle.cli.specs.declared.fault.Fault.TheVariants as fault
use Rattle.command_line.specs.declared.parse.CommandLine.{CommandLine}
use Rattle.command_line.specs.declared.parse.Parsed.{Parsed}
use Rattle.command_line.specs.declared.parse.WindowsSource.{WindowsSource}
use Rattle.command_line.specs.declared.parse.WindowsSource.TheVariants as source
use Rattle.command_line.specs.declared.parse.Parsed.TheVariants as parsed
use Rattle.command_line.specs.declared.parse.Subcommand.{Subcommand}
use Rattle.command_line.specs.declared.parse.Subcommand.TheVariants as sub

abbrev pub fault_name : Fault → List ℕ
fault_name (fault.Windows refused) = name_of refused
fault_name (fault.Open opening.WindowsDiffer) = codes "windows_differ"
fault_name (fault.Open opening.Storage) = codes "storage"
fault_name (fault.Open opening.NoMemory) = codes "no_memory"
fault_name (fault.Message refused) = message_name refused
fault_name (fault.File refused) = kind_name refused
fault_name fault.RowsRefused = codes "rows_refused"
fault_name fault.Listen = codes "listen"
fault_name fault.Read = codes "read"
fault_name fault.Write = codes "write"
fault_name fault.NoMemory = codes "no_memory"

-- The exit status: 1 if a file or a message was refused, 3 if the machine failed.
abbrev pub exit_status : Fault → ℕ
exit_status (fault.Windows windows.NoMemory) = 3
exit_status (fault.Windows windows.Syntax) = 1
exit_status (fault.Windows windows.MissingKey) = 1
exit_status (fault.Windows windows.UnknownKey) = 1
exit_status (fault.Windows windows.NotWhole) = 1
exit_status (fault.Windows windows.OutOfRange) = 1
exit_status (fault.Open opening.WindowsDiffer) = 1
exit_status (fault.Open opening.Storage) = 3
exit_status (fault.Open opening.NoMemory) = 3
exit_status (fault.Message refused) = 1
exit_status fault.RowsRefused = 1
exit_status (fault.File kind.BadHeader) = 1
exit_status (fault.File kind.BadFile) = 1
exit_status (fault.File kind.UnknownCarrier) = 1
exit_status (fault.File kind.Storage) = 3
exit_status (fault.File kind.NoMemory) = 3
exit_status (fault.File kind.Read) = 3
exit_status (fault.File kind.Write) = 3
exit_status fault.Listen = 3
exit_status fault.Read = 3
exit_status fault.Write = 3
exit_status fault.NoMemory = 3

-- The fault for a database file that could not be opened.
abbrev pub fault_of_opening : FileFault → Fault
fault_of_opening file.WindowsDiffer = fault.Open opening.WindowsDiffer
fault_of_opening file.Storage = fault.Open opening.Storage
fault_of_opening file.NoMemory = fault.Open opening.NoMemory

-- Holds for the faults of reading a file.
abbrev pub IsOfReading : Fault → Type 0
IsOfReading fault.Read = ⊤
IsOfReading fault.NoMemory = ⊤
IsOfReading other = ⊥

-- Holds for the faults of a windows file.
abbrev pub IsOfWindows : Fault → Type 0
IsOfWindows (fault.Windows refused) = ⊤
IsOfWindows other = IsOfReading other

-- Holds for the faults of serving messages.
abbrev pub IsOfServing : Fault → Type 0
IsOfServing (fault.Message refused) = ⊤
IsOfServing fault.Read = ⊤
IsOfServing fault.Write = ⊤
IsOfServing fault.NoMemory = ⊤
IsOfServing other = ⊥

-- Holds for the faults of opening a register.
abbrev pub IsOfOpening : Fault → Type 0
IsOfOpening (fault.Open refused) = ⊤
IsOfOpening other = ⊥

-- Holds for the faults of opening a register and serving messages to it.
abbrev pub IsOfFeeding : Fault → Type 0
IsOfFeeding (fault.Open refused) = ⊤
IsOfFeeding other = IsOfServing other

-- Holds for those of a new register in memory: its device never fails, and it has no other windows.
abbrev pub IsOfNewFeeding : Fault → Type 0
IsOfNewFeeding (fault.Open opening.NoMemory) = ⊤
IsOfNewFeeding (fault.Open opening.WindowsDiffer) = ⊥
IsOfNewFeeding (fault.Open opening.Storage) = ⊥
IsOfNewFeeding other = IsOfServing other

-- Holds for the faults of a file of commands, an export or an audit.
abbrev pub IsOfFile : Fault → Type 0
IsOfFile (fault.File refused) = ⊤
IsOfFile other = ⊥

-- Holds for the faults of a file of commands. A refused row is one only if `strict`.
abbrev pub IsOfCommands : (strict : Bool) → Fault → Type 0
IsOfCommands true fault.RowsRefused = ⊤
IsOfCommands strict other = IsOfFile other

-- Holds for the faults of listening to a port.
abbrev pub IsOfListening : Fault → Type 0
IsOfListening fault.Listen = ⊤
IsOfListening fault.Read = ⊤
IsOfListening fault.Write = ⊤
IsOfListening fault.NoMemory = ⊤
IsOfListening other = ⊥

-- Holds for the faults of listening to a port and serving its connections.
abbrev pub MayEndListening : Fault → Type 0
MayEndListening (fault.Open opening.Storage) = ⊤
MayEndListening other = IsOfListening other

-- Holds for the faults of writing the present windows of a file, or a page about it.
abbrev pub IsOfShowing : Fault → Type 0
IsOfShowing (fault.Open refused) = ⊤
IsOfShowing fault.Write = ⊤
IsOfShowing fault.NoMemory = ⊤
IsOfShowing other = ⊥

-- Holds for the faults of copying a file.
abbrev pub IsOfCopying : Fault → Type 0
IsOfCopying fault.Read = ⊤
IsOfCopying fault.Write = ⊤
IsOfCopying fault.NoMemory = ⊤
IsOfCopying other = ⊥

-- Holds for the faults of copying a register.
abbrev pub IsOfBackup : Fault → Type 0
IsOfBackup (fault.Open refused) = ⊤
IsOfBackup other = IsOfCopying other

-- Holds for the faults of a subcommand over an open register.
abbrev pub IsOfSubcommand : Subcommand → Fault → Type 0
IsOfSubcommand sub.Feed refused = IsOfServing refused
IsOfSubcommand (sub.Serve port connections limits log) refused = IsOfListening refused
IsOfSubcommand (sub.Bulk strict) refused = IsOfCommands strict refused
IsOfSubcommand sub.Export refused = IsOfFile refused
IsOfSubcommand (sub.Audit spid) refused = IsOfFile refused

-- Holds if the windows are a database's.
abbrev pub IsOfDatabase : WindowsSource → Type 0
IsOfDatabase (source.File path) = ⊥
IsOfDatabase (source.Database path) = ⊤

-- Holds if the command line is over a file.
abbrev pub HasFile : CommandLine → Type 0
HasFile line = IsSome line.db ⊎ IsOfDatabase line.windows

-- Holds if executing this command line may end with this fault: one of the windows file, of opening
-- the register, of the file of `--feed`, or of the subcommand. Only a file has other windows, and a
-- device that fails as it is opened or while connections are served.
abbrev pub MayEnd : CommandLine → Fault → Type 0
MayEnd line (fault.Windows refused) = ⊤
MayEnd line (fault.Open opening.NoMemory) = ⊤
MayEnd line (fault.Open opening.WindowsDiffer) = HasFile line
MayEnd line (fault.Open opening.Storage) = HasFile line
MayEnd line fault.Read = ⊤
MayEnd line fault.NoMemory = ⊤
MayEnd line other =
    (IsSome line.feed × IsOfServing other) ⊎ IsOfSubcommand line.subcommand other

-- Holds if executing this command line over a file may end with this fault.
abbrev pub MayEndOverFile : CommandLine → Fault → Type 0
MayEndOverFile line (fault.Open refused) = ⊤
MayEndOverFile line other = MayEnd line other

-- Holds if executing this command line, perhaps over a copy of its file, may end with this fault.
abbrev pub MayEndLine : CommandLine → Fault → Type 0
MayEndLine line refused =
    MayEnd line refused ⊎ ((line.snapshot ≡ true) × IsOfBackup refused)

-- Holds if executing what the words ask for may end with this fault.
abbrev pub MayEndAs : Parsed → Fault → Type 0
MayEndAs (parsed.Windows line) refused = IsOfShowing refused
MayEndAs (parsed.Check line) refused = IsOfShowing refused
MayEndAs (parsed.Backup line to) refused = IsOfBackup refused
MayEndAs (parsed.Repair line to) refused = IsOfBackup refused
MayEndAs (parsed.Report line to number) refused = IsOfShowing refused
MayEndAs (parsed.Line line) refused = MayEndLine line refused

-- The outcome of a run of a file of commands. A refused row is a fault if `strict`.
abbrev pub outcome_of_commands : (strict : Bool) → Result ℕ BulkFault → (has_refusal : Bool)
    → Result (Unit {0}) Fault
outcome_of_commands strict (Err refused) has_refusal = Err (fault.File refused.kind)
outcome_of_commands strict (Ok lines) has_refusal =
    if strict && has_refusal then Err fault.RowsRefused else Ok tt

-- Holds if a run of a file of commands ended as its report says: without a fault only if no row was
-- refused, when `strict`, and for a refused row only if one was.
abbrev pub JudgesRows : (strict : Bool) → (had has : Option (List ℕ)) → Result (Unit {0}) Fault
    → Type 0
JudgesRows true had has (Ok done) = ReportsNoting had has false
JudgesRows strict had has (Err fault.RowsRefused) = ReportsNoting had has true
JudgesRows strict had has other = ⊤
