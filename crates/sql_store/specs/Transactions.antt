-- Statements in a transaction, and how a transaction ends.
use Rattle.std.specs.Prelude.{◌≡◌, ◌⊎◌, List, ℕ, false, IfOk, IsTrue, ⊤}
use Rattle.sqlite.specs.Command.{Command}
use Rattle.sqlite.specs.Command.TheVariants.{Begin, Commit, Rollback, Savepoint, Release, RollbackTo}
use Rattle.sqlite.specs.Listing.{understood}
use Rattle.sqlite.specs.Schema.{Schema}
use Rattle.sqlite.specs.State.{State, IsRolledBack, IsUnchanged}

-- Holds if the command neither begins nor ends a transaction or a savepoint.
abbrev pub Stays : Command → Type 0
Stays Begin = ⊥
Stays Commit = ⊥
Stays Rollback = ⊥
Stays (Savepoint name) = ⊥
Stays (Release name) = ⊥
Stays (RollbackTo name) = ⊥
Stays _ = ⊤

-- Holds if, under each schema, the text neither begins nor ends a transaction or a savepoint.
abbrev pub StaysInside : List ℕ → Type 0
StaysInside text = (schema : Schema) → IfOk (understood schema text) (λ c. Stays c.command)

-- Holds if nothing changed outside a transaction, or the transaction was rolled back.
abbrev pub HasEnded : State → State → Type 0
HasEnded old new = ((old.in_transaction ≡ false) × IsUnchanged old new) ⊎ IsRolledBack old new

-- Holds if there is no transaction, and the database is that of the last commit.
pub record IsUndone (old new : State) : Type 0 where
  pub was_open : IsTrue new.is_open → IsTrue old.is_open
  pub now : IsTrue new.is_open → new.now ≡ old.committed
  pub committed : IsTrue new.is_open → new.committed ≡ old.committed
  pub autocommit : new.in_transaction ≡ false
