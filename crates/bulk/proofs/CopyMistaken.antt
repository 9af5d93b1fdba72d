-- A row encodes an entry of a copy exactly if each of its fields is as expected.
use Rattle.std.proofs.Common.{◌≡◌, ◌≢◌, ◌∙◌, ℕ, List, [], ◌∷◌, Option, Some, None, IfSome, inl, inr, length, ap, subst, sym}
use Rattle.delivery.specs.declared.mirror.RoutedRow.{RoutedRow}
use Rattle.bulk.specs.Audits.{IsEntry, IsNoEntry, copy_header}
use Rattle.bulk.specs.CopyMistakes.{HasCopyMistake, IsRowAs, entry_wants, header_wants}
use Rattle.bulk.specs.Mistakes.{IsAs}
use Rattle.bulk.specs.Rows.{Row}
use Rattle.bulk.specs.declared.mistake.Column.{Column}
use Rattle.bulk.specs.declared.mistake.Column.TheVariants as column
use Rattle.bulk.specs.declared.mistake.Expected.{Expected}
use Rattle.bulk.specs.declared.mistake.Expected.TheVariants as expected
use Rattle.bulk.specs.declared.mistake.RowMistake.{RowMistake}
use Rattle.bulk.specs.declared.mistake.RowMistake.TheVariants as mistake

pub if_some_of : {X : Type 0} {P Q : X → Type 0} (o : Option X) → ((x : X) → P x → Q x)
    → IfSome o P → IfSome o Q
if_some_of None f p = tt
if_some_of (Some x) f p = f x p

three : {a b c a' b' c' : List ℕ} → a ≡ a' → b ≡ b' → c ≡ c' → a ∷ b ∷ c ∷ [] ≡ a' ∷ b' ∷ c' ∷ []
three p q r = cc

is_as_of : (at a : Column) (want w : Expected) (field : List ℕ) → at ≡ a → want ≡ w
    → IsAs a w field → IsAs at want field
is_as_of at a want w field same wanted is =
    subst (λ x. IsAs x want field) (sym same) (subst (λ x. IsAs a x field) (sym wanted) is)

-- ---- entries

pub entry_of : (row : Row) → IsRowAs entry_wants row → (entry : RoutedRow) × IsEntry row entry
entry_of row (fields, is, fits) =
    let subject = fits.subject in
    let lrn = fits.lrn in
    let cic = fits.cic in (
      record { subject = subject.0; routing = record { lrn = lrn.0; cic = cic.0 } },
      is ∙ three subject.1 lrn.1 cic.1,
    )

no_entry : (row : Row) (m : RowMistake) → HasCopyMistake entry_wants row m → IsNoEntry row
no_entry row (mistake.FieldCount found want) (count, wanted, other) entry e = other (ap length e)
no_entry row (mistake.Field at field want) (fields, is, inl (same, text, wanted), wrong) entry e =
    wrong (is_as_of at column.Subject want expected.Subject field.now same wanted
    (entry.subject, cc))
no_entry row (mistake.Field at field want) (fields, is, inr (inl (same, text, wanted)), wrong) entry
    e =
    wrong (is_as_of at column.Lrn want expected.Lrn field.now same wanted (entry.routing.lrn, cc))
no_entry row (mistake.Field at field want) (fields, is, inr (inr (same, text, wanted)), wrong) entry
    e =
    wrong (is_as_of at column.Cic want expected.CicIfAny field.now same wanted
    (entry.routing.cic, cc))

pub entry_mistaken : (row : Row) (m : RowMistake) → HasCopyMistake entry_wants row m
    → HasCopyMistake entry_wants row m × IsNoEntry row
entry_mistaken row m has = (has, no_entry row m has)

-- ---- the header

pub copy_named : (row : Row) → IsRowAs header_wants row → row ≡ copy_header
unfolding copy_header
copy_named row (fields, is, fits) = is ∙ three fits.subject fits.lrn fits.cic

no_header : (row : Row) (m : RowMistake) → HasCopyMistake header_wants row m → row ≢ copy_header
unfolding copy_header
no_header row (mistake.FieldCount found want) (count, wanted, other) e = other (ap length e)
no_header row (mistake.Field at field want) (fields, is, inl (same, text, wanted), wrong) e =
    wrong (is_as_of at column.Subject want expected.Name field.now same wanted cc)
no_header row (mistake.Field at field want) (fields, is, inr (inl (same, text, wanted)), wrong) e =
    wrong (is_as_of at column.Lrn want expected.Name field.now same wanted cc)
no_header row (mistake.Field at field want) (fields, is, inr (inr (same, text, wanted)), wrong) e =
    wrong (is_as_of at column.Cic want expected.Name field.now same wanted cc)

pub header_mistaken : (row : Row) (m : RowMistake) → HasCopyMistake header_wants row m
    → HasCopyMistake header_wants row m × (row ≢ copy_header)
header_mistaken row m has = (has, no_header row m has)
