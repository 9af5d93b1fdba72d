-- When nothing is due: in the rows, and in a state.
use Rattle.std.specs.Prelude.{◌≡◌, ◌<◌, ℕ, Some}
use Rattle.std.specs.FinMap.{get}
use Rattle.numbers.specs.Subjects.{Subject}
use Rattle.model.specs.Laws.{IsQuiet}
use Rattle.model.specs.State.{State, record_now}
use Rattle.model.specs.Content.{Content, VersionRow, RowsMatch}

-- Holds if the deadline of every row is later than now.
abbrev pub NoRowIsDue : Content → ℕ → Type 0
NoRowIsDue c now = (id : ℕ) (row : VersionRow) → get c.versions id ≡ Some row → (d : ℕ)
    → row.deadline ≡ Some d → now < d

-- Holds if a content is settled: the rows of each subject match its record as it is now, and no
-- timer in that record has expired.
pub record NothingIsDue (c : Content) (st : State) : Type 0 where
  pub rows_match : (s : Subject) → RowsMatch c s (record_now st s)
  pub quiet : (s : Subject) → IsQuiet st.now (record_now st s).versions
