-- The faults of a text, each defined by itself, and the least of them.
use Rattle.std.specs.Prelude.{◌≡◌, ◌≤◌, ℤ, false, Option, Some, None, Any}
use Rattle.toml.specs.Data.{Data, Members, get_member, as_integer}
use Rattle.windows.specs.declared.window.WindowFault.{WindowFault}
use Rattle.windows.specs.declared.window.WindowFault.TheVariants.{Syntax, MissingKey, UnknownKey, NotWhole, OutOfRange, NoMemory}
use Rattle.windows.specs.File.{is_window, is_window_name, keys_of, number_of, fault_of, window_names}

-- Holds if the value exists and is not a whole number.
abbrev pub IsNotWhole : Option Data → Type 0
IsNotWhole None = ⊥
IsNotWhole (Some d) = as_integer d ≡ None

-- Holds if the value is a whole number but not the length of a window.
abbrev pub IsOutOfRange : Option Data → Type 0
IsOutOfRange None = ⊥
IsOutOfRange (Some d) = (z : ℤ) × (as_integer d ≡ Some z) × (is_window z ≡ false)

-- Holds if the value at a key has the fault.
abbrev pub IsFaultAt : WindowFault → Option Data → Type 0
IsFaultAt Syntax v = ⊥
IsFaultAt MissingKey v = v ≡ None
IsFaultAt UnknownKey v = ⊥
IsFaultAt NotWhole v = IsNotWhole v
IsFaultAt OutOfRange v = IsOutOfRange v
IsFaultAt NoMemory v = ⊥

-- Holds if the table has the fault: at one of the nine keys, or in a key that is not one of them.
abbrev pub HasFault : Members → WindowFault → Type 0
HasFault ms Syntax = ⊥
HasFault ms MissingKey = Any (λ name. IsFaultAt MissingKey (get_member name ms)) window_names
HasFault ms UnknownKey = Any (λ key. is_window_name key ≡ false) (keys_of ms)
HasFault ms NotWhole = Any (λ name. IsFaultAt NotWhole (get_member name ms)) window_names
HasFault ms OutOfRange = Any (λ name. IsFaultAt OutOfRange (get_member name ms)) window_names
HasFault ms NoMemory = ⊥

-- Holds if the text has the fault.
abbrev pub Holds : Option Members → WindowFault → Type 0
Holds None f = f ≡ Syntax
Holds (Some ms) f = HasFault ms f

-- Holds if the text has the fault, and none with a smaller number.
pub record IsLeastFault (document : Option Members) (f : WindowFault) : Type 0 where
  pub holds : Holds document f
  pub least : (g : WindowFault) → Holds document g → number_of f ≤ number_of g

-- Holds if `fault_of` is the least fault of a text, and `None` if the text has no fault.
pub record IsFaultOfLeast : Type 0 where
  pub some : (document : Option Members) (f : WindowFault) → fault_of document ≡ Some f
      → IsLeastFault document f
  pub none : (document : Option Members) (f : WindowFault) → fault_of document ≡ None
      → ¬ (Holds document f)
