-- Files of lines, and what is written of one that ends early.
use Rattle.std.specs.Prelude.{◌≡◌, ℕ, ◌⊎◌, List, ◌∷◌, ◌++◌, length, take, Option}
use Rattle.std.specs.List.{concat}
use Rattle.std.specs.Io.KnownBytes.{Appends}

-- The text of a file with this first line and these lines.
abbrev pub file_text : (first : List ℕ) → (lines : List (List ℕ)) → List ℕ
file_text first lines = first ++ concat lines

-- Holds if the writer got these lines.
abbrev pub AreSent : (had has : Option (List ℕ)) → (lines : List (List ℕ)) → Type 0
AreSent had has lines = Appends had has (concat lines)

-- Holds if the writer got the first `k` lines in full, and a prefix of the next.
pub record IsSentPart (had has : Option (List ℕ)) (lines : List (List ℕ)) (k : ℕ) : Type 0 where
  pub before : List (List ℕ)
  pub line : List ℕ
  pub behind : List (List ℕ)
  pub all : lines ≡ before ++ line ∷ behind
  pub count : length before ≡ k
  pub part : ℕ
  pub written : Appends had has (concat before ++ take part line)

-- Holds if the writer got a prefix of the first line; or the first line, then `k` lines in full and
-- a prefix of the next.
abbrev pub EndsWithin : (had has : Option (List ℕ)) → (first : List ℕ) → (lines : List (List ℕ))
    → (k : ℕ) → Type 0
EndsWithin had has first lines k =
    ((k ≡ 0) × ((part : ℕ) × Appends had has (take part first)))
    ⊎ ((mid : Option (List ℕ)) × Appends had mid first × IsSentPart mid has lines k)
