-- The encoding of a request in the fields of a bulk file's row.
use Rattle.std.specs.Prelude.{◌≡◌, ◌⊎◌, ℕ, Bool, List, [], ◌∷◌, ◌++◌, Option, Some, None, codes, if◌then◌else◌}
use Rattle.numbers.specs.Texts.{spid_text, tn_text, lrn_text, cic_text, minute_text}
use Rattle.numbers.specs.declared.cic.Cic.{Cic}
use Rattle.numbers.specs.declared.minute.Minute.{Minute}
use Rattle.version.specs.declared.create.Creator.{Creator}
use Rattle.version.specs.declared.create.Creator.TheVariants as creator
use Rattle.version.specs.declared.command.VersionCommand.{VersionCommand}
use Rattle.version.specs.declared.command.VersionCommand.TheVariants as command
use Rattle.bulk.specs.Rows.{Row}
use Rattle.bulk.specs.declared.request.ActionName.{ActionName}
use Rattle.bulk.specs.declared.request.ActionName.TheVariants.{OldProviderCreate, NewProviderCreate, Activate, PutInConflict, RemoveFromConflict, Cancel, OldProviderCancellationAcknowledge, NewProviderCancellationAcknowledge, Disconnect, ModifyRouting}
use Rattle.bulk.specs.declared.range.Numbers.{Numbers}
use Rattle.bulk.specs.declared.request.BulkRequest.{BulkRequest}
use Rattle.bulk.specs.declared.request.Operation.{Operation}
use Rattle.bulk.specs.declared.request.Operation.TheVariants as operation

-- The first row of a bulk file.
unfoldable pub header : Row
header = codes "caller" ∷ codes "action" ∷ codes "subject" ∷ codes "old" ∷ codes "new" ∷ codes "due"
    ∷ codes "lrn" ∷ codes "cic" ∷ codes "flag" ∷ []

-- ---- actions

-- The name of an action in the NPAC interface.
unfoldable pub action_name : ActionName → List ℕ
action_name OldProviderCreate = codes "subscriptionVersionOldSP-Create"
action_name NewProviderCreate = codes "subscriptionVersionNewSP-Create"
action_name Activate = codes "subscriptionVersionActivate"
action_name PutInConflict = codes "subscriptionVersionConflict"
action_name RemoveFromConflict = codes "subscriptionVersionRemoveFromConflict"
action_name Cancel = codes "subscriptionVersionCancel"
action_name OldProviderCancellationAcknowledge =
    codes "subscriptionVersionOldSP-CancellationAcknowledge"
action_name NewProviderCancellationAcknowledge =
    codes "subscriptionVersionNewSP-CancellationAcknowledge"
action_name Disconnect = codes "subscriptionVersionDisconnect"
action_name ModifyRouting = codes "subscriptionVersionModify"

abbrev pub command_action : VersionCommand → ActionName
command_action command.Activate = Activate
command_action command.PutInConflict = PutInConflict
command_action command.RemoveFromConflict = RemoveFromConflict
command_action command.Cancel = Cancel
command_action command.OldProviderCancellationAcknowledge = OldProviderCancellationAcknowledge
command_action command.NewProviderCancellationAcknowledge = NewProviderCancellationAcknowledge
command_action (command.Disconnect release) = Disconnect
command_action (command.ModifyRouting routing) = ModifyRouting

abbrev pub create_action : Creator → ActionName
create_action (creator.OldProvider authorized) = OldProviderCreate
create_action (creator.NewProvider routing) = NewProviderCreate

abbrev pub action_of : Operation → ActionName
action_of (operation.Create old_provider new_provider due by) = create_action by
action_of (operation.OnVersion command) = command_action command

-- ---- subjects

-- Holds if the text is a single number, or the first and the last with a hyphen between them.
abbrev pub Names : List ℕ → Numbers → Type 0
Names text numbers =
    ((text ≡ tn_text numbers.first.number) × (numbers.last.number ≡ numbers.first.number))
    ⊎ (text ≡ tn_text numbers.first.number ++ 45 ∷ tn_text numbers.last.number)

-- ---- the other fields: old, new, due, lrn, cic and flag

abbrev pub flag_text : Bool → List ℕ
flag_text authorized = if authorized then codes "yes" else codes "no"

-- An optional field; empty if there is no value.
abbrev pub optional_cic : Option Cic → List ℕ
optional_cic None = []
optional_cic (Some cic) = cic_text cic.number

abbrev pub optional_minute : Option Minute → List ℕ
optional_minute None = []
optional_minute (Some minute) = minute_text minute.number

-- The fields lrn, cic and flag of a create.
abbrev pub create_fields : Creator → Row
create_fields (creator.OldProvider authorized) = [] ∷ [] ∷ flag_text authorized ∷ []
create_fields (creator.NewProvider routing) =
    lrn_text routing.lrn.number ∷ optional_cic routing.cic ∷ [] ∷ []

-- The fields due, lrn and cic of a command on a version.
abbrev pub release_field : VersionCommand → List ℕ
release_field (command.Disconnect release) = optional_minute release
release_field command.Activate = []
release_field command.PutInConflict = []
release_field command.RemoveFromConflict = []
release_field command.Cancel = []
release_field command.OldProviderCancellationAcknowledge = []
release_field command.NewProviderCancellationAcknowledge = []
release_field (command.ModifyRouting routing) = []

abbrev pub lrn_field : VersionCommand → List ℕ
lrn_field (command.ModifyRouting routing) = lrn_text routing.lrn.number
lrn_field command.Activate = []
lrn_field command.PutInConflict = []
lrn_field command.RemoveFromConflict = []
lrn_field command.Cancel = []
lrn_field command.OldProviderCancellationAcknowledge = []
lrn_field command.NewProviderCancellationAcknowledge = []
lrn_field (command.Disconnect release) = []

abbrev pub cic_field : VersionCommand → List ℕ
cic_field (command.ModifyRouting routing) = optional_cic routing.cic
cic_field command.Activate = []
cic_field command.PutInConflict = []
cic_field command.RemoveFromConflict = []
cic_field command.Cancel = []
cic_field command.OldProviderCancellationAcknowledge = []
cic_field command.NewProviderCancellationAcknowledge = []
cic_field (command.Disconnect release) = []

abbrev pub operation_fields : Operation → Row
operation_fields (operation.Create old_provider new_provider due by) =
    spid_text old_provider.number ∷ spid_text new_provider.number ∷ minute_text due.number
    ∷ create_fields by
operation_fields (operation.OnVersion command) =
    [] ∷ [] ∷ release_field command ∷ lrn_field command ∷ cic_field command ∷ [] ∷ []

-- ---- rows

-- Holds if the row encodes the request.
pub record EncodesRequest (row : Row) (request : BulkRequest) : Type 0 where
  pub subject : List ℕ
  pub names : Names subject request.numbers
  pub fields : row ≡ spid_text request.caller.number ∷ action_name (action_of request.operation)
      ∷ subject
      ∷ operation_fields request.operation

-- Holds if the row encodes the request, or for none if it encodes no request.
abbrev pub ParsesRow : Row → Option BulkRequest → Type 0
ParsesRow row (Some request) = EncodesRequest row request
ParsesRow row None = (request : BulkRequest) → ¬ (EncodesRequest row request)
