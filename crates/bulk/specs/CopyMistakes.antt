-- The mistakes of a copy's rows.
use Rattle.std.specs.Prelude.{◌≡◌, ◌≢◌, ◌⊎◌, ℕ, List, [], ◌∷◌, length}
use Rattle.bulk.specs.Mistakes.{IsAs}
use Rattle.bulk.specs.Rows.{Row}
use Rattle.bulk.specs.declared.copy.EntryFields.{EntryFields}
use Rattle.bulk.specs.declared.copy_mistake.EntryWants.{EntryWants}
use Rattle.bulk.specs.declared.mistake.Column.{Column}
use Rattle.bulk.specs.declared.mistake.Column.TheVariants as column
use Rattle.bulk.specs.declared.mistake.Expected.{Expected}
use Rattle.bulk.specs.declared.mistake.Expected.TheVariants as expected
use Rattle.bulk.specs.declared.mistake.RowMistake.{RowMistake}
use Rattle.bulk.specs.declared.mistake.RowMistake.TheVariants as mistake

-- What is expected of the fields of an entry, and of those of the header.
abbrev pub entry_wants : EntryWants
entry_wants = record { subject = expected.Subject; lrn = expected.Lrn; cic = expected.CicIfAny }

abbrev pub header_wants : EntryWants
header_wants = record { subject = expected.Name; lrn = expected.Name; cic = expected.Name }

-- The row with these fields.
abbrev pub entry_row : EntryFields → Row
entry_row fields = fields.subject.now ∷ fields.lrn.now ∷ fields.cic.now ∷ []

-- Holds if each field is as expected.
pub record AreAs (wants : EntryWants) (fields : EntryFields) : Type 0 where
  pub subject : IsAs column.Subject wants.subject fields.subject.now
  pub lrn : IsAs column.Lrn wants.lrn fields.lrn.now
  pub cic : IsAs column.Cic wants.cic fields.cic.now

-- Holds if the row has three fields, each as expected.
abbrev pub IsRowAs : EntryWants → Row → Type 0
IsRowAs wants row = (fields : EntryFields) × (row ≡ entry_row fields) × AreAs wants fields

-- Holds if the column has this field, and this is expected of it.
abbrev pub IsFieldIn : EntryWants → EntryFields → Column → List ℕ → Expected → Type 0
IsFieldIn wants fields at field want =
    ((at ≡ column.Subject) × (field ≡ fields.subject.now) × (want ≡ wants.subject))
    ⊎ ((at ≡ column.Lrn) × (field ≡ fields.lrn.now) × (want ≡ wants.lrn))
    ⊎ ((at ≡ column.Cic) × (field ≡ fields.cic.now) × (want ≡ wants.cic))

-- Holds if the row has this mistake: it has not three fields, or this field is not as expected.
abbrev pub HasCopyMistake : EntryWants → Row → RowMistake → Type 0
HasCopyMistake wants row (mistake.FieldCount found want) =
    (found ≡ length row) × (want ≡ 3) × (length row ≢ 3)
HasCopyMistake wants row (mistake.Field at field want) =
    (fields : EntryFields) × (row ≡ entry_row fields)
    × IsFieldIn wants fields at field.now want × (¬ (IsAs at want field.now))
