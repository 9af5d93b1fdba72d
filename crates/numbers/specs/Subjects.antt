-- Subjects: their order and their equality.
use Rattle.std.specs.Prelude.{ℕ, ◌*◌, ◌+◌, Bool, false, ◌==◌, nat_lt}
use Rattle.numbers.specs.Digits.{IsTn, IsBlock, block_of, line_of}

-- What is ported: a number, or a whole block.
pub data Subject : Type 0 where
  Number : (n : ℕ) → Subject
  Block : (n : ℕ) → Subject

-- Holds if the subject is a valid telephone number or a valid block.
abbrev pub IsSubject : Subject → Type 0
IsSubject (Number n) = IsTn n
IsSubject (Block b) = IsBlock b

-- The key that orders subjects as their texts: a block just before its numbers.
abbrev pub subject_key : Subject → ℕ
subject_key (Number n) = block_of n * 1001 + 1 + line_of n
subject_key (Block b) = b * 1001

abbrev pub subject_eq : Subject → Subject → Bool
subject_eq (Number n) (Number m) = n == m
subject_eq (Block b) (Block c) = b == c
subject_eq (Number n) (Block c) = false
subject_eq (Block b) (Number m) = false

abbrev pub subject_lt : Subject → Subject → Bool
subject_lt s t = nat_lt (subject_key s) (subject_key t)
