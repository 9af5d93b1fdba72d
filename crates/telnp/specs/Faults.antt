-- Why a text is not a tel URI, by the order of tests.
use Rattle.std.specs.Prelude.{◌≡◌, ℕ, ◌==◌, nat_lt, if◌then◌else◌, List, [], length, codes, Option, Some, None, option_map}
use Rattle.std.specs.List.{list_all, slice_split}
use Rattle.std.specs.Option.{option_map_or}
use Rattle.telnp.specs.Grammar.{cut, is_global, is_local, is_parameter, has_repetition, same_name}
use Rattle.telnp.specs.declared.fault.TelFault.{TelFault}
use Rattle.telnp.specs.declared.fault.TelFault.TheVariants.{NotTel, BadNumber, BadParameter, ParameterTwice, LocalNumber, TooLong}

-- The parts of the bytes between the marks.
abbrev pub parts : ℕ → List ℕ → List (List ℕ)
parts mark bs = slice_split (λ b. b == mark) bs

-- The rest after the `:`, if the scheme is `tel`.
abbrev pub after_tel : Option (List ℕ × List ℕ) → Option (List ℕ)
after_tel None = None
after_tel (Some p) = if same_name p.0 (codes "tel") then Some p.1 else None

-- The rest of a text after `tel:`, if it begins with that.
abbrev pub rest_of : List ℕ → Option (List ℕ)
rest_of text = after_tel (cut 58 text)

-- The number part: everything before the first `;`.
abbrev pub number_of : List ℕ → List ℕ
number_of rest = option_map_or (λ p. p.0) (cut 59 rest) rest

-- The parameters: the parts after the number part, between the `;`.
abbrev pub parameter_parts : List ℕ → List (List ℕ)
parameter_parts rest = option_map_or (λ p. parts 59 p.1) (cut 59 rest) []

-- The fault of a number part, if it is not a global number.
abbrev pub fault_in_number : List ℕ → Option TelFault
fault_in_number bs = if is_global bs then None else if is_local bs then Some LocalNumber
    else Some BadNumber

-- The fault of the parameters. The form of each is tested before any is tested for repetition.
abbrev pub fault_in_parts : List (List ℕ) → Option TelFault
fault_in_parts ps = if list_all is_parameter ps then (if has_repetition ps then Some ParameterTwice
    else None) else Some BadParameter

abbrev pub first_fault : Option TelFault → Option TelFault → Option TelFault
first_fault None second = second
first_fault (Some f) second = Some f

-- The fault of the rest after `tel:`, the number part's first.
abbrev pub fault_in_rest : Option (List ℕ) → Option TelFault
fault_in_rest None = Some NotTel
fault_in_rest (Some rest) =
    first_fault (fault_in_number (number_of rest)) (fault_in_parts (parameter_parts rest))

-- The first fault of a text, if it has one.
abbrev pub fault_of : List ℕ → Option TelFault
fault_of text = if nat_lt 2048 (length text) then Some TooLong else fault_in_rest (rest_of text)

-- Holds if the text has no fault, and these are its number part and its parameters.
pub record IsRead (text number : List ℕ) (parameters : List (List ℕ)) : Type 0 where
  pub none_holds : fault_of text ≡ None
  pub number_is : option_map number_of (rest_of text) ≡ Some number
  pub parameters_are : option_map parameter_parts (rest_of text) ≡ Some parameters

-- The name of a fault, in lower case.
abbrev pub fault_name : TelFault → List ℕ
fault_name NotTel = codes "not_tel"
fault_name BadNumber = codes "bad_number"
fault_name BadParameter = codes "bad_parameter"
fault_name ParameterTwice = codes "parameter_twice"
fault_name LocalNumber = codes "local_number"
fault_name TooLong = codes "too_long"
