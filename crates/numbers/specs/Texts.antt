-- The one text of each value.
use Rattle.std.specs.Prelude.{◌≡◌, ℕ, zero, suc, ◌+◌, ◌/◌, ◌%◌, List, [], ◌∷◌, ◌++◌, decimal}
use Rattle.std.specs.Cmp.Lexicographic.{slice_cmp}
use Rattle.std.specs.Ordering.{nat_cmp}
use Rattle.numbers.specs.Subjects.{IsSubject, subject_key, Subject, Number, Block}

-- The last `width` decimal digits of n, as ASCII codes.
unfoldable pub digits_of : ℕ → ℕ → List ℕ
digits_of zero n = []
digits_of (suc width) n = digits_of width (n / 10) ++ (48 + n % 10) ∷ []

-- The ten digits of a telephone number.
abbrev pub tn_text : ℕ → List ℕ
tn_text n = digits_of 10 n

-- The six digits of a code.
abbrev pub code_text : ℕ → List ℕ
code_text n = digits_of 6 n

-- The seven digits of a block.
abbrev pub block_text : ℕ → List ℕ
block_text n = digits_of 7 n

-- The three digits of a line.
abbrev pub line_text : ℕ → List ℕ
line_text n = digits_of 3 n

-- The ten digits of a routing number.
abbrev pub lrn_text : ℕ → List ℕ
lrn_text n = digits_of 10 n

-- The four digits of a carrier identification code.
abbrev pub cic_text : ℕ → List ℕ
cic_text n = digits_of 4 n

-- The four bytes of the number, the highest first.
abbrev pub spid_text : ℕ → List ℕ
spid_text n = n / 16777216 ∷ n / 65536 % 256 ∷ n / 256 % 256 ∷ n % 256 ∷ []

-- The minute in decimal, without leading zeros.
abbrev pub minute_text : ℕ → List ℕ
minute_text n = decimal n

-- The text of the number, or of the block.
abbrev pub subject_text : Subject → List ℕ
subject_text (Number n) = tn_text n
subject_text (Block b) = block_text b

-- Holds if the keys of subjects are ordered as the bytes of their texts.
abbrev pub AreInOrderOfTexts : Type 0
AreInOrderOfTexts =
    (s t : Subject) → IsSubject s → IsSubject t →
    nat_cmp (subject_key s) (subject_key t) ≡ slice_cmp nat_cmp (subject_text s) (subject_text t)
