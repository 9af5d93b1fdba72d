-- The valid numbers of each kind, and the parts of a telephone number.
use Rattle.std.specs.Prelude.{ℕ, ◌*◌, ◌+◌, ◌/◌, ◌%◌, ◌^◌, ◌≤◌, ◌<◌}

-- Holds if n is a telephone number: ten digits, the first and the fourth 2 to 9.
abbrev pub IsTn : ℕ → Type 0
IsTn n = (n < 10000000000) × (2 ≤ n / 1000000000) × (2 ≤ n / 1000000 % 10)

-- Holds if n is a block: the first seven digits of a telephone number.
abbrev pub IsBlock : ℕ → Type 0
IsBlock n = (n < 10000000) × (2 ≤ n / 1000000) × (2 ≤ n / 1000 % 10)

-- Holds if n is a code: the first six digits of a telephone number.
abbrev pub IsCode : ℕ → Type 0
IsCode n = (n < 1000000) × (2 ≤ n / 100000) × (2 ≤ n / 100 % 10)

-- Holds if n is a line: at most three digits.
abbrev pub IsLine : ℕ → Type 0
IsLine n = n < 1000

-- Holds if n is a routing number: at most ten digits.
abbrev pub IsLrn : ℕ → Type 0
IsLrn n = n < 10000000000

-- Holds if n is a carrier identification code: at most four digits.
abbrev pub IsCic : ℕ → Type 0
IsCic n = n < 10000

-- Holds if n is a minute: below 1,099,511,627,776.
abbrev pub IsMinute : ℕ → Type 0
IsMinute n = n < 2 ^ 40

-- The code, the block and the line of a telephone number.
abbrev pub code_of : ℕ → ℕ
code_of n = n / 10000

abbrev pub block_of : ℕ → ℕ
block_of n = n / 1000

abbrev pub line_of : ℕ → ℕ
line_of n = n % 1000

-- The code of a block.
abbrev pub block_code_of : ℕ → ℕ
block_code_of b = b / 10

-- The number of a block with this line.
abbrev pub number_in : ℕ → ℕ → ℕ
number_in b line = b * 1000 + line
