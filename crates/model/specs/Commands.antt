-- The commands of a caller.
use Rattle.std.specs.Prelude.{ℕ, Bool, List, Option}
use Rattle.model.specs.Windows.{Windows}

-- A command on one version.
pub data VersionCommand : Type 0 where
  Activate : VersionCommand
  PutInConflict : VersionCommand
  RemoveFromConflict : VersionCommand
  Cancel : VersionCommand
  OldProviderCancellationAcknowledge : VersionCommand
  NewProviderCancellationAcknowledge : VersionCommand
  Disconnect : (release : Option ℕ) → VersionCommand
  ModifyRouting : (lrn : ℕ) (cic : Option ℕ) → VersionCommand

-- A command, with everything that it names.
pub data Command : Type 0 where
  RegisterCarrier : (spid : ℕ) → Command
  RegisterRoutingNumber : (lrn : ℕ) → Command
  OpenCode : (code : ℕ) (spid : ℕ) → Command
  OldProviderCreate : (tn : ℕ) (old_provider : ℕ) (new_provider : ℕ) (due : ℕ) (authorized : Bool)
      → Command
  NewProviderCreate : (tn : ℕ) (old_provider : ℕ) (new_provider : ℕ) (due : ℕ) (lrn : ℕ)
      (cic : Option ℕ) → Command
  OnVersion : (id : ℕ) (command : VersionCommand) → Command
  Donate : (block : ℕ) (used : List ℕ) (lrn : ℕ) (cic : Option ℕ) → Command
  Assign : (block : ℕ) (holder : ℕ) (lrn : ℕ) (cic : Option ℕ) → Command
  Release : (block : ℕ) → Command
  SetWindows : (windows : Windows) → Command
