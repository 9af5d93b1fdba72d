-- Words for rows of files that are refused.
use Rattle.std.specs.Prelude.{ℕ, nat_lt, ◌&&◌, ◌==◌, Option, Some, None, List, [], ◌∷◌, ◌++◌, codes, decimal, length, map, take, if◌then◌else◌}
use Rattle.numbers.specs.declared.ported.Subject.{Subject}
use Rattle.numbers.specs.declared.ported.Subject.TheVariants as subject
use Rattle.bulk.specs.Mistakes.{column_name}
use Rattle.bulk.specs.declared.mistake.Expected.{Expected}
use Rattle.bulk.specs.declared.mistake.Expected.TheVariants as expected
use Rattle.bulk.specs.declared.mistake.RowMistake.{RowMistake}
use Rattle.bulk.specs.declared.mistake.RowMistake.TheVariants as mistake

-- ---- a field

-- The character that shows a byte: itself if it is printable ASCII, otherwise `?`.
abbrev pub shown_byte : ℕ → ℕ
shown_byte byte = if nat_lt 31 byte && nat_lt byte 127 then byte else 63

abbrev pub shown_cut : List ℕ → List ℕ
shown_cut field = if nat_lt 40 (length field) then codes "..." else []

-- The text that shows a field: printable ASCII, cut after forty bytes.
abbrev pub shown_field : List ℕ → List ℕ
shown_field [] = codes "empty"
shown_field (byte ∷ field) = map shown_byte (take 40 (byte ∷ field)) ++ shown_cut (byte ∷ field)

-- ---- a mistake

abbrev pub expected_words : Expected → List ℕ
expected_words expected.Name = codes "the name of the column is expected"
expected_words expected.Action = codes "an action is expected, as subscriptionVersionActivate"
expected_words expected.Carrier = codes "four capital letters or digits are expected"
expected_words expected.Numbers =
    codes "a number is expected, of ten digits, the first and the fourth 2 to 9, or a range of one code"
expected_words expected.Subject = codes "a number of ten digits or a block of seven is expected, the first and the fourth 2 to 9"
expected_words expected.Minute = codes "a minute is expected, in digits without leading zeros"
expected_words expected.MinuteIfAny =
    codes "a minute is expected, in digits without leading zeros, or nothing"
expected_words expected.Lrn = codes "ten digits are expected"
expected_words expected.CicIfAny = codes "four digits are expected, or nothing"
expected_words expected.Flag = codes "yes or no is expected"
expected_words expected.Nothing = codes "nothing is expected here of this action"

-- The words for a mistake of a row.
abbrev pub mistake_words : RowMistake → List ℕ
mistake_words (mistake.FieldCount found expected) =
    codes "fields are " ++ (decimal found ++ (codes ": " ++ (decimal expected
    ++ codes " are expected")))
mistake_words (mistake.Field column field expected) =
    column_name column ++ (codes " is " ++ (shown_field field.now ++ (codes ": "
    ++ expected_words expected)))

-- ---- a row

abbrev pub numbered_row : (row : ℕ) → Option ℕ → List ℕ
numbered_row row (Some line) =
    codes "row " ++ (decimal row ++ (codes ", line " ++ decimal line))
numbered_row row None = codes "row " ++ decimal row

-- The name of a row: the header, or the row's number and the line of the file where it begins.
abbrev pub row_name : (row : ℕ) → Option ℕ → List ℕ
row_name row line = if row == 0 then codes "the header" else numbered_row row line

-- The name under which a row is explained: the header is named so in each file.
abbrev pub bad_row_name : (bad_row : List ℕ) → (row : ℕ) → List ℕ
bad_row_name bad_row row = if row == 0 then codes "bad_header" else bad_row

-- The words for a subject that a copy has in two rows.
abbrev pub duplicate_words : Subject → List ℕ
duplicate_words (subject.Number tn) =
    codes "the number " ++ (decimal tn.number ++ codes " is in two rows")
duplicate_words (subject.Block block) =
    codes "the block " ++ (decimal block.number ++ codes " is in two rows")

-- The line for so many rows.
abbrev pub progress_line : (rows : ℕ) → List ℕ
progress_line rows = codes "npacd: " ++ (decimal rows ++ codes " rows\n")
