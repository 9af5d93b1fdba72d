-- Theorems about the definitions, beyond the contracts of the functions.
use Rattle.std.specs.Prelude.{◌≡◌, ◌↔◌, ℕ, ◌<◌, ◌≤◌, Bool, true, false, not, ◌==◌, List, ◌∷◌, ◌++◌, length, codes, Option, Some}
use Rattle.std.specs.List.{list_all}
use Rattle.std.specs.List.Sorted.{IsPermutation, IsSortedByKey}
use Rattle.std.specs.Ordering.{nat_cmp}
use Rattle.std.specs.Cmp.Lexicographic.{slice_cmp}
use Rattle.numbers.specs.Routings.{Routing}
use Rattle.telnp.specs.Grammar.{is_global, is_local, is_parameter, lower, has_repetition}
use Rattle.telnp.specs.Uri.{IsTelUri, written}
use Rattle.telnp.specs.Faults.{IsRead, fault_of}
use Rattle.telnp.specs.declared.fault.TelFault.{TelFault}
use Rattle.telnp.specs.declared.fault.TelFault.TheVariants.{NotTel, BadNumber, BadParameter, ParameterTwice, LocalNumber, TooLong}
use Rattle.telnp.specs.Answer.{order_key, kept, added, answer_parameters}

-- Holds if each text of the grammar has no fault, and is read into exactly these parts.
abbrev pub TelUrisAreRead : Type 0
TelUrisAreRead = (text number : List ℕ) (parameters : List (List ℕ))
    → IsTelUri text number parameters → IsRead text number parameters

-- Whether none of the bytes is the mark.
abbrev pub is_free_of : ℕ → List ℕ → Bool
is_free_of mark = list_all (λ b. not (b == mark))

-- Holds if the text has at most 2,048 bytes and begins with `tel:`, and these are its parts between
-- semicolons: the number part before the first, and the parameters after each.
pub record IsCutUp (text number : List ℕ) (parameters : List (List ℕ)) : Type 0 where
  pub scheme : List ℕ
  pub whole : text ≡ scheme ++ 58 ∷ (number ++ written parameters)
  pub scheme_is : lower scheme ≡ codes "tel"
  pub short : length text ≤ 2048
  pub number_uncut : is_free_of 59 number ≡ true
  pub parameters_uncut : list_all (is_free_of 59) parameters ≡ true

-- Holds if the text begins with `tel:` and its number part and parameters satisfy a relation.
abbrev pub CutsInto : List ℕ → (List ℕ → List (List ℕ) → Type 0) → Type 0
CutsInto text Holds = (number : List ℕ) × (parameters : List (List ℕ))
    × (IsCutUp text number parameters) × (Holds number parameters)

-- Holds if the text has this fault, and none that is tested before it.
abbrev pub HasFault : TelFault → List ℕ → Type 0
HasFault TooLong text = 2048 < length text
HasFault NotTel text = (length text ≤ 2048) × ((scheme rest : List ℕ) → text ≡ scheme ++ 58 ∷ rest
    → lower scheme ≡ codes "tel" → ⊥)
HasFault LocalNumber text = CutsInto text (λ number parameters. (is_global number ≡ false)
    × (is_local number ≡ true))
HasFault BadNumber text = CutsInto text (λ number parameters. (is_global number ≡ false)
    × (is_local number ≡ false))
HasFault BadParameter text = CutsInto text (λ number parameters. (is_global number ≡ true)
    × (list_all is_parameter parameters ≡ false))
HasFault ParameterTwice text = CutsInto text (λ number parameters.
    (is_global number ≡ true) × (list_all is_parameter parameters ≡ true)
    × (has_repetition parameters ≡ true))

-- Holds if each fault is reported exactly in the order of tests.
abbrev pub FaultsAreInOrder : Type 0
FaultsAreInOrder = (text : List ℕ) (fault : TelFault)
    → (fault_of text ≡ Some fault) ↔ HasFault fault text

-- Holds if the second list has the same parameters, unchanged, ordered by the ranks of their names,
-- and by their names in lower case if the ranks are equal.
pub record IsInOrder (parameters ordered : List (List ℕ)) : Type 0 where
  pub same : IsPermutation parameters ordered
  pub sorted : IsSortedByKey order_key (slice_cmp nat_cmp) ordered

-- Holds if the parameters of an answer are those kept and those added, in order.
abbrev pub AnswersAreInOrder : Type 0
AnswersAreInOrder = (parameters : List (List ℕ)) (routing : Option Routing) →
    IsInOrder (kept parameters ++ added parameters routing) (answer_parameters parameters routing)
