-- The operations of an action.
use Rattle.std.proofs.Common.{◌≡◌, ◌≢◌, ℕ, List, ◌∷◌}
use Rattle.version.specs.declared.create.Creator.{Creator}
use Rattle.version.specs.declared.create.Creator.TheVariants as creator
use Rattle.version.specs.declared.command.VersionCommand.{VersionCommand}
use Rattle.version.specs.declared.command.VersionCommand.TheVariants as command
use Rattle.numbers.specs.Spids.{IsSpid}
use Rattle.numbers.specs.Texts.{spid_text}
use Rattle.bulk.specs.Rows.{Row}
use Rattle.bulk.specs.Requests.{EncodesRequest, action_name, action_of, command_action, create_action, operation_fields}
use Rattle.bulk.specs.declared.request.ActionName.{ActionName}
use Rattle.bulk.specs.declared.request.BulkRequest.{BulkRequest}
use Rattle.bulk.specs.declared.request.Operation.{Operation}
use Rattle.bulk.specs.declared.request.Operation.TheVariants as operation
use Rattle.bulk.proofs.Names.{one_name}

-- A create is not a command on a version.
pub no_command : (c : VersionCommand) (by : Creator) → command_action c ≢ create_action by
no_command command.Activate (creator.OldProvider a) = λ e. cc
no_command command.Activate (creator.NewProvider r) = λ e. cc
no_command command.PutInConflict (creator.OldProvider a) = λ e. cc
no_command command.PutInConflict (creator.NewProvider r) = λ e. cc
no_command command.RemoveFromConflict (creator.OldProvider a) = λ e. cc
no_command command.RemoveFromConflict (creator.NewProvider r) = λ e. cc
no_command command.Cancel (creator.OldProvider a) = λ e. cc
no_command command.Cancel (creator.NewProvider r) = λ e. cc
no_command command.OldProviderCancellationAcknowledge (creator.OldProvider a) = λ e. cc
no_command command.OldProviderCancellationAcknowledge (creator.NewProvider r) = λ e. cc
no_command command.NewProviderCancellationAcknowledge (creator.OldProvider a) = λ e. cc
no_command command.NewProviderCancellationAcknowledge (creator.NewProvider r) = λ e. cc
no_command (command.Disconnect release) (creator.OldProvider a) = λ e. cc
no_command (command.Disconnect release) (creator.NewProvider r) = λ e. cc
no_command (command.ModifyRouting routing) (creator.OldProvider a) = λ e. cc
no_command (command.ModifyRouting routing) (creator.NewProvider r) = λ e. cc

-- The fields of a create name its new provider.
pub no_new_provider :
    (old new due : List ℕ) (last : Row) (by : Creator) → ((n : ℕ) → IsSpid n → new ≢ spid_text n) →
    (w : Operation) → action_of w ≡ create_action by → old ∷ new ∷ due ∷ last ≢ operation_fields w
no_new_provider old new due last by none (operation.Create o n d creator) e =
    λ same. none n.number n.valid cc
no_new_provider old new due last by none (operation.OnVersion c) e = λ same. no_command c by e

-- If no operation of the action has these fields, the row encodes no request.
pub no_request :
    (row : Row) (caller name subject : List ℕ) (six : Row) (a : ActionName)
    → row ≡ caller ∷ name ∷ subject ∷ six → name ≡ action_name a →
    ((w : Operation) → action_of w ≡ a → six ≢ operation_fields w) → (o : BulkRequest)
    → ¬ (EncodesRequest row o)
no_request row caller name subject six a e named none o says =
    let same : action_name (action_of o.operation) ≡ action_name a = cc in
    none o.operation (one_name (action_of o.operation) a same) cc
