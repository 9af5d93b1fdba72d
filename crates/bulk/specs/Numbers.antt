-- The numbers that one row may name.
use Rattle.std.specs.Prelude.{◌≡◌, ℕ, ◌+◌, ◌<◌, ◌≤◌}
use Rattle.numbers.specs.Digits.{code_of}

-- Holds if the two numbers are of one code, the second is not below the first, and the range has at
-- most a thousand numbers.
pub record AreNumbers (first last : ℕ) : Type 0 where
  pub one_code : code_of last ≡ code_of first
  pub rise : first ≤ last
  pub few : last < first + 1000
