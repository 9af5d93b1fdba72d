-- A bulk file as the list of its commands, and its report: the machine's answers in order.
use Rattle.std.specs.Prelude.{ℕ, zero, suc, ◌+◌, ◌-◌, List, [], ◌∷◌, ◌++◌, map, codes, decimal, Option, Some, None, option_map}
use Rattle.numbers.specs.Subjects.{Number}
use Rattle.numbers.specs.Texts.{tn_text}
use Rattle.model.specs.Commands.{Command, OnVersion}
use Rattle.model.specs.History.{CommandRequest}
use Rattle.model.specs.Machine.{Reply, Refused, Shown, out, next}
use Rattle.model.specs.State.{State, View, record_now}
use Rattle.model.specs.Refusals.{Input, RequestFrom}
use Rattle.model.specs.Versions.{Version, version_in_force, open_version}
use Rattle.model.specs.declared.refusal.Refusal.{Refusal}
use Rattle.json_api.specs.Failures.{refusal_name}
use Rattle.json_api.specs.RefusalTexts.{refusal_of}
use Rattle.version.specs.Commands.{command_model}
use Rattle.version.specs.Creates.{command_by}
use Rattle.version.specs.declared.command.VersionCommand.{VersionCommand}
use Rattle.version.specs.declared.command.VersionCommand.TheVariants as command
use Rattle.bulk.specs.Requests.{ParsesRow}
use Rattle.bulk.specs.Rows.{Row}
use Rattle.bulk.specs.declared.request.BulkRequest.{BulkRequest}
use Rattle.bulk.specs.declared.request.Operation.{Operation}
use Rattle.bulk.specs.declared.request.Operation.TheVariants as operation
use Rattle.bulk.specs.declared.range.Numbers.{Numbers}

-- ---- commands

-- The id, or 0, which no version has.
abbrev pub id_or_none : Option ℕ → ℕ
id_or_none None = 0
id_or_none (Some id) = id

abbrev pub first_id : Option ℕ → Option ℕ → ℕ
first_id (Some id) other = id
first_id None other = id_or_none other

-- The id of the version that a command applies to: the open one, or else the one in force; for a
-- disconnect and a modify, the one in force.
abbrev pub id_taken : VersionCommand → (in_force opened : Option ℕ) → ℕ
id_taken (command.Disconnect release) in_force opened = id_or_none in_force
id_taken (command.ModifyRouting routing) in_force opened = id_or_none in_force
id_taken command.Activate in_force opened = first_id opened in_force
id_taken command.PutInConflict in_force opened = first_id opened in_force
id_taken command.RemoveFromConflict in_force opened = first_id opened in_force
id_taken command.Cancel in_force opened = first_id opened in_force
id_taken command.OldProviderCancellationAcknowledge in_force opened = first_id opened in_force
id_taken command.NewProviderCancellationAcknowledge in_force opened = first_id opened in_force

abbrev pub in_force_id : State → (tn : ℕ) → Option ℕ
in_force_id st tn =
    option_map (λ (v : Version). v.id) (version_in_force (record_now st (Number tn)))

abbrev pub open_id : State → (tn : ℕ) → Option ℕ
open_id st tn =
    option_map (λ (v : Version). v.id) (open_version (Number tn) (record_now st (Number tn)))

-- The command for an operation on a number.
abbrev pub command_for : State → (tn : ℕ) → Operation → Command
command_for st tn (operation.Create old_provider new_provider due by) =
    command_by by tn old_provider.number new_provider.number due.number
command_for st tn (operation.OnVersion command) =
    OnVersion (id_taken command (in_force_id st tn) (open_id st tn)) (command_model command)

-- ---- the commands of a file

-- A bad row, or an operation for one number, with the number of its row.
pub data Task : Type 0 where
  Bad : (row : ℕ) → Task
  CommandTask : (row caller tn : ℕ) (operation : Operation) → Task

-- The next `many` numbers from `first`.
abbrev pub rising : (first many : ℕ) → List ℕ
rising first zero = []
rising first (suc many) = first ∷ rising (first + 1) many

abbrev pub numbers_of : Numbers → List ℕ
numbers_of numbers = rising numbers.first.number (numbers.last.number + 1 - numbers.first.number)

-- The tasks of the row with this number: one for each telephone number, ascending.
abbrev pub tasks_of : (row : ℕ) → Option BulkRequest → List Task
tasks_of row None = Bad row ∷ []
tasks_of row (Some request) =
    map (λ tn. CommandTask row request.caller.number tn request.operation)
    (numbers_of request.numbers)

-- The tasks of all rows, numbered from `row`.
abbrev pub tasks_from : (row : ℕ) → List (Option BulkRequest) → List Task
tasks_from row [] = []
tasks_from row (o ∷ os) = tasks_of row o ++ tasks_from (row + 1) os

-- Holds if each row parses as this request, or as none.
abbrev pub AreRead : List Row → List (Option BulkRequest) → Type 0
AreRead [] [] = Unit {0}
AreRead (row ∷ rows) (o ∷ os) = ParsesRow row o × AreRead rows os
AreRead [] (o ∷ os) = ⊥
AreRead (row ∷ rows) [] = ⊥

-- ---- the report

unfoldable pub report_header : List ℕ
report_header = codes "row,subject,result,id\n"

-- A line of row, subject, result and id.
abbrev pub report_line : (row : ℕ) → (subject result id : List ℕ) → List ℕ
report_line row subject result id =
    decimal row ++ 44 ∷ (subject ++ 44 ∷ (result ++ 44 ∷ (id ++ 10 ∷ [])))

abbrev pub name_of : Option Refusal → List ℕ
name_of None = []
name_of (Some refusal) = refusal_name refusal

abbrev pub shown_line : (row tn : ℕ) → Option View → List ℕ
shown_line row tn None = []
shown_line row tn (Some view) = report_line row (tn_text tn) (codes "ok") (decimal view.id)

-- The line for the machine's reply to a create or a command on a version: a refusal or a version.
abbrev pub reply_line : (row tn : ℕ) → Reply → List ℕ
reply_line row tn (Refused number) = report_line row (tn_text tn) (name_of (refusal_of number)) []
reply_line row tn (Shown view) = shown_line row tn view
reply_line row tn _ = []

abbrev pub input_for : State → (caller tn : ℕ) → Operation → Input
input_for st caller tn operation = RequestFrom caller (CommandRequest (command_for st tn operation))

-- The line of a task, and the state after it.
abbrev pub line_of : State → Task → List ℕ
line_of st (Bad row) = report_line row [] (codes "bad_row") []
line_of st (CommandTask row caller tn operation) =
    reply_line row tn (out st (input_for st caller tn operation))

abbrev pub next_state : State → Task → State
next_state st (Bad row) = st
next_state st (CommandTask row caller tn operation) = next st (input_for st caller tn operation)

-- The lines of tasks in order, and the state after them.
abbrev pub lines_of : State → List Task → List (List ℕ)
lines_of st [] = []
lines_of st (task ∷ tasks) = line_of st task ∷ lines_of (next_state st task) tasks

abbrev pub state_after : State → List Task → State
state_after st [] = st
state_after st (task ∷ tasks) = state_after (next_state st task) tasks
