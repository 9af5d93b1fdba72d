-- What a register holds, and why a file is refused, as `check` writes them.
use Rattle.std.specs.Prelude.{◌≡◌, ℕ, List, [], ◌∷◌, ◌++◌, length, codes, decimal, Option, Some, None, option_map}
use Rattle.std.specs.FinMap.{keys}
use Rattle.std.specs.Io.KnownBytes.{Appends}
use Rattle.model.specs.Content.{ClockRow, Content}
use Rattle.settle.specs.Reads.{IsLeastDue}
use Rattle.settle.specs.declared.rows.NumberedRow.{NumberedRow}
use Rattle.diagnosis.specs.Words.{cause_words}
use Rattle.diagnosis.specs.declared.cause.Cause.{Cause}
use Rattle.invariants.specs.Flaws.{JudgesRows}
use Rattle.invariants.specs.Words.{flaw_words}
use Rattle.invariants.specs.declared.flaw.Flaw.{Flaw}
use Rattle.cli.specs.declared.checking.Summary.{Summary}

-- Holds if this is the least due version's id at the minute, or `None` if no version is due.
abbrev pub IsDue : Content → (minute : ℕ) → Option ℕ → Type 0
IsDue content minute due =
    (version : Option NumberedRow) × IsLeastDue content minute version
    × (due ≡ option_map (λ (v : NumberedRow). v.id) version)

-- Holds if the summary is the content's.
pub record IsSummary (content : Content) (summary : Summary) : Type 0 where
  pub clock : ClockRow
  pub has_clock : content.clock ≡ Some clock
  pub minute : summary.minute.number ≡ clock.minute
  pub set : summary.set ≡ clock.present.number
  pub next_id : summary.next_id ≡ clock.next_id
  pub carriers : summary.carriers ≡ length (keys content.carriers)
  pub due : IsDue content clock.minute summary.due

abbrev pub due_line : Option ℕ → List ℕ
due_line None = codes "due none\n"
due_line (Some id) = codes "due " ++ (decimal id ++ 10 ∷ [])

-- The text of a summary: a name and a value on each line.
abbrev pub summary_text : Summary → List ℕ
summary_text summary =
    codes "minute " ++ (decimal summary.minute.number ++ (codes "\nset " ++ (decimal summary.set
    ++ (codes "\nnext_id " ++ (decimal summary.next_id ++ (codes "\ncarriers "
    ++ (decimal summary.carriers ++ (10 ∷ due_line summary.due))))))))

-- Holds if the summary of the content was written.
pub record ShowsSummary (content : Content) (had has : Option (List ℕ)) : Type 0 where
  pub summary : Summary
  pub is : IsSummary content summary
  pub written : Appends had has (summary_text summary)

-- The line for a refused file.
abbrev pub refusal_line : Cause → List ℕ
refusal_line cause = codes "refused " ++ (cause_words cause ++ 10 ∷ [])

-- The line about the rows.
abbrev pub rows_line : Option Flaw → List ℕ
rows_line None = codes "rows sound\n"
rows_line (Some flaw) = codes "rows " ++ (flaw_words flaw ++ 10 ∷ [])

-- Holds if it was written that the rows keep the invariants, and they do, or which flaw they have,
-- and they have it.
pub record ShowsRows (content : Content) (had has : Option (List ℕ))
    (flaw : Option Flaw) : Type 0 where
  pub judges : JudgesRows content flaw
  pub written : Appends had has (rows_line flaw)
