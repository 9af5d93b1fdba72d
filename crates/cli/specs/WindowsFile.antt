-- The windows file of a command line: its bytes, and the windows or the fault that they are.
use Rattle.std.specs.Prelude.{◌≡◌, ◌⊎◌, ℕ, List, None, IsUtf8}
use Rattle.toml.specs.Parse.{parse_document}
use Rattle.windows.specs.File.{Gives, IsFaultOf, fault_of}
use Rattle.windows.specs.declared.window.Windows.{Windows}
use Rattle.windows.specs.declared.window.WindowFault.TheVariants.{Syntax}
use Rattle.cli.specs.declared.fault.Fault.{Fault}
use Rattle.cli.specs.declared.fault.Fault.TheVariants as fault

-- Holds if the bytes are a text that defines these windows, without a fault.
pub record DefinesWindows (bytes : List ℕ) (windows : Windows) : Type 0 where
  pub text : IsUtf8 bytes
  pub gives : Gives (parse_document bytes) windows
  pub faultless : fault_of (parse_document bytes) ≡ None

-- Holds if this is the fault of the bytes: `syntax` if they are no text, otherwise the text's.
abbrev pub IsFaultOfBytes : List ℕ → Fault → Type 0
IsFaultOfBytes bytes (fault.Windows refused) = (¬ (IsUtf8 bytes) × (refused ≡ Syntax))
    ⊎ (IsUtf8 bytes × IsFaultOf (parse_document bytes) refused)
IsFaultOfBytes bytes other = ⊥
