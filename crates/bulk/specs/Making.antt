-- The results of a bulk file's commands.
use Rattle.std.specs.Prelude.{◌≡◌, ℕ, Bool, true, false, List, [], codes, decimal}
use Rattle.numbers.specs.Texts.{tn_text}
use Rattle.model.specs.Commands.{Command, RegisterCarrier, RegisterRoutingNumber, OpenCode, OldProviderCreate, NewProviderCreate, OnVersion, Donate, Assign, Release, SetWindows}
use Rattle.model.specs.Machine.{Reply, Refused, Shown}
use Rattle.json_api.specs.Failures.{refusal_name}
use Rattle.bulk.specs.Report.{report_line, reply_line}
use Rattle.bulk.specs.declared.command_result.CommandResult.{CommandResult}
use Rattle.bulk.specs.declared.command_result.CommandResult.TheVariants as outcome

-- Whether a command is a create or a command on a version.
abbrev pub is_of_number : Command → Bool
is_of_number (OldProviderCreate tn old_provider new_provider due authorized) = true
is_of_number (NewProviderCreate tn old_provider new_provider due lrn cic) = true
is_of_number (OnVersion id command) = true
is_of_number (RegisterCarrier spid) = false
is_of_number (RegisterRoutingNumber lrn) = false
is_of_number (OpenCode code spid) = false
is_of_number (SetWindows windows) = false
is_of_number (Donate block used lrn cic) = false
is_of_number (Assign block holder lrn cic) = false
is_of_number (Release block) = false

-- The report's line for a result.
abbrev pub outcome_line : (row tn : ℕ) → CommandResult → List ℕ
outcome_line row tn (outcome.Version id) = report_line row (tn_text tn) (codes "ok") (decimal id)
outcome_line row tn (outcome.Refused refusal) = report_line row (tn_text tn) (refusal_name refusal)
    []

-- Whether the result is a refusal.
abbrev pub is_refusal : CommandResult → Bool
is_refusal (outcome.Version id) = false
is_refusal (outcome.Refused refusal) = true

-- Holds if the result is that of the reply.
abbrev pub IsResultOf : CommandResult → Reply → Type 0
IsResultOf outcome reply = (row tn : ℕ) → outcome_line row tn outcome ≡ reply_line row tn reply

-- Holds if the reply is one to a create or a command on a version: a refusal or a version.
abbrev pub IsCommandReply : Reply → Type 0
IsCommandReply (Refused number) = Unit {0}
IsCommandReply (Shown view) = Unit {0}
IsCommandReply _ = ⊥
