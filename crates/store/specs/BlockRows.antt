-- The numbers of a block that are in use, as the indexes show them.
use Rattle.std.specs.Prelude.{◌≡◌, ◌==◌, ◌||◌, ℕ, Bool, true, false, List, [], ◌∷◌, Option, Some, None, is_some, if◌then◌else◌}
use Rattle.std.specs.Ordering.{nat_cmp}
use Rattle.std.specs.BTreeMap.{BTreeMap}
use Rattle.std.specs.FinMap.{FinMap, get}
use Rattle.numbers.specs.Digits.{block_of, number_in}
use Rattle.numbers.specs.Subjects.{Subject, Number, Block}
use Rattle.numbers.specs.declared.tn.Tn.{Tn}
use Rattle.model.specs.Content.{Content, VersionRow}
use Rattle.version.specs.declared.in_use.NumberInUse.{NumberInUse}
use Rattle.settle.specs.Reads.{HasRowInForce, HasOpenRow, Reflects}
use Rattle.store.specs.Maps.{map_of, set}
use Rattle.store.specs.Tables.{SubjectVersion}
use Rattle.store.specs.declared.blocks.Marks.{Marks}
use Rattle.store.specs.declared.keys.SubjectVersion.{SubjectVersion as SubjectVersionImpl}

-- The least key that a version of the block's numbers can have; then the greatest.
abbrev pub lowest : ℕ → SubjectVersion
lowest block = record { subject = Number (number_in block 0); id = 0 }

abbrev pub highest : ℕ → SubjectVersion
highest block = record { subject = Number (number_in block 999); id = 18446744073709551615 }

abbrev pub tn_of : Tn → ℕ
tn_of t = t.number

-- ---- the number that a row is of

-- The number, if the subject is a number of the block.
abbrev pub own_number : ℕ → Subject → Option ℕ
own_number block (Number n) = if block_of n == block then Some n else None
own_number block (Block b) = None

abbrev pub number_of : ℕ → Option Subject → Option ℕ
number_of block None = None
number_of block (Some s) = own_number block s

-- The number of the block in this column of the row, if there is one.
abbrev pub number_at : (VersionRow → Option Subject) → ℕ → Option VersionRow → Option ℕ
number_at column block None = None
number_at column block (Some row) = number_of block (column row)

abbrev pub number_in_force : ℕ → Option VersionRow → Option ℕ
number_in_force = number_at (λ row. row.holds)

-- ---- the marks of a number

abbrev pub marked_in_force : Option Marks → Bool
marked_in_force None = false
marked_in_force (Some s) = s.is_in_force

abbrev pub marked_open : Option Marks → Bool
marked_open None = false
marked_open (Some s) = s.is_open

abbrev pub only_in_force : Option Marks → Marks
only_in_force known = record { is_in_force = true; is_open = false }

abbrev pub and_open : Option Marks → Marks
and_open known = record { is_in_force = marked_in_force known; is_open = true }

-- ---- the marks of all numbers

-- The map with the number marked, if there is one.
abbrev pub with_number : (Option Marks → Marks) → Option ℕ → FinMap nat_cmp Marks
    → FinMap nat_cmp Marks
with_number mark None m = m
with_number mark (Some n) m = set m n (Some (mark (get m n)))

-- The map with each number of the block marked that a row of these keys has in the column.
abbrev pub marked : (Option Marks → Marks) → (VersionRow → Option Subject) → ℕ
    → FinMap nat_cmp VersionRow → List (SubjectVersionImpl × Unit {0}) → FinMap nat_cmp Marks
    → FinMap nat_cmp Marks
marked mark column block versions [] m = m
marked mark column block versions (e ∷ es) m =
    marked mark column block versions es
    (with_number mark (number_at column block (get versions e.0.id)) m)

abbrev pub marks_of : BTreeMap Tn Marks → FinMap nat_cmp Marks
marks_of m = map_of tn_of (λ s. s) m

-- Holds if each number is marked as in force and as open exactly if it is so and is of the block,
-- and no other number is in the map.
pub record AreMarks (c : Content) (block : ℕ)
    (marks : FinMap nat_cmp Marks) : Type 0 where
  pub in_force : (n : ℕ) → Reflects (marked_in_force (get marks n)) ((block_of n ≡ block)
      × HasRowInForce c (Number n))
  pub opened : (n : ℕ) → Reflects (marked_open (get marks n)) ((block_of n ≡ block)
      × HasOpenRow c (Number n))
  pub in_use : (n : ℕ)
      → is_some (get marks n) ≡ (marked_in_force (get marks n) || marked_open (get marks n))

abbrev pub number_in_use : Tn × Marks → NumberInUse
number_in_use e = record { tn = e.0; is_in_force = e.1.is_in_force; is_open = e.1.is_open }
