-- Definitions for the parsing of fields.
use Rattle.std.specs.Prelude.{ℕ, Bool, List, [], ◌∷◌}
use Rattle.std.specs.Str.{bytes_eq}
use Rattle.bulk.specs.Rows.{Row}
use Rattle.bulk.specs.declared.fields.Fields.{Fields}
use Rattle.bulk.specs.Requests.{action_name}
use Rattle.bulk.specs.declared.request.ActionName.{ActionName}
use Rattle.bulk.specs.declared.request.ActionName.TheVariants.{OldProviderCreate, NewProviderCreate, Activate, PutInConflict, RemoveFromConflict, Cancel, OldProviderCancellationAcknowledge, NewProviderCancellationAcknowledge, Disconnect, ModifyRouting}

-- All actions.
abbrev pub actions : List ActionName
actions = OldProviderCreate ∷ NewProviderCreate ∷ Activate ∷ PutInConflict ∷ RemoveFromConflict
    ∷ Cancel ∷ OldProviderCancellationAcknowledge ∷ NewProviderCancellationAcknowledge ∷ Disconnect
    ∷ ModifyRouting ∷ []

-- Whether a field is the name of the action.
abbrev pub is_action : List ℕ → ActionName → Bool
is_action field action = bytes_eq field (action_name action)

-- The fields of a row: the last three, the last six, and all nine.
abbrev pub last_fields : Fields → Row
last_fields f = f.lrn.now ∷ f.cic.now ∷ f.flag.now ∷ []

abbrev pub six_fields : Fields → Row
six_fields f = f.old_provider.now ∷ f.new_provider.now ∷ f.due.now ∷ last_fields f

abbrev pub all_fields : Fields → Row
all_fields f = f.caller.now ∷ f.action.now ∷ f.subject.now ∷ six_fields f
