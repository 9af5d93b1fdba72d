-- Rows that are read one at a time.
use Rattle.std.specs.Prelude.{◌≡◌, ◌⊎◌, Bool, true, ℕ, List, [], ◌∷◌, ◌++◌, Option, Some, None}
use Rattle.sqlite.specs.Given.{HasGiven}
use Rattle.sqlite.specs.Held.{Held, state}
use Rattle.sqlite.specs.Order.{Row}
use Rattle.sqlite.specs.State.{IsUnchanged, Shown, State}
use Rattle.sqlite.specs.Store.{Ghosts}
use Rattle.sql_rows.specs.Found.{AreRead}

-- Holds if one more row was returned and reads as this, or the rows so far are the whole answer.
abbrev pub ReadsOn : {S X : Type 0} → Ghosts S → (Row → Option X) → List ℕ → (old new : Held S)
    → (given : List Row) → Option X → Type 0
ReadsOn g read sql old new given (Some x) = (row : Row) × HasGiven g sql [] new (given ++ row ∷ [])
    × (read row ≡ Some x)
ReadsOn g read sql old new given None = Shown sql [] (state g old) (state g new) given

-- Holds if the rows are the answer, each reads, and `P` holds of the values read.
abbrev pub HasReadAll : {X : Type 0} → (Row → Option X) → List ℕ → (old new : State)
    → (List X → Type 0) → Type 0
HasReadAll {X} read sql old new P = (rows : List Row) × (xs : List X) × Shown sql [] old new rows
    × AreRead read rows xs × P xs

-- Holds if `blank` implies that there are none.
abbrev pub BlankMeansNone : {X : Type 0} → Bool → List X → Type 0
BlankMeansNone blank xs = blank ≡ true → xs ≡ []

-- Holds if nothing was read, or reading changed nothing.
abbrev pub IsOnlyRead : {S : Type 0} → Ghosts S → (old new : Held S) → Type 0
IsOnlyRead g old new = (new ≡ old) ⊎ IsUnchanged (state g old) (state g new)
