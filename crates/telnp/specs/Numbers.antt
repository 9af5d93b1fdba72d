-- The telephone number in a number part.
use Rattle.std.specs.Prelude.{◌≡◌, ℕ, List, ◌∷◌}
use Rattle.std.specs.List.{filter}
use Rattle.numbers.specs.Texts.{tn_text}
use Rattle.telnp.specs.Bytes.{is_digit}

-- The digits of a number part, without its `+` and its separators.
abbrev pub digits_in : List ℕ → List ℕ
digits_in = filter is_digit

-- Holds if the digits are the country code 1 and the ten digits of this telephone number.
abbrev pub HasTn : List ℕ → ℕ → Type 0
HasTn number n = digits_in number ≡ 49 ∷ tn_text n
