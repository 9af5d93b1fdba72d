-- The invariant of the store's connection, and what its calls leave.
use Rattle.std.specs.Prelude.{◌≡◌, ◌≢◌, ◌⊎◌, ℕ, pos, [], ◌∷◌, Option, Some, None, false, true, Bool, IsTrue, refl, not}
use Rattle.std.proofs.Common.{sym, ap, ◌∙◌, true≢false}
use Rattle.sqlite.specs.Store.{Ghosts}
use Rattle.sqlite.specs.Schema.{Schema}
use Rattle.sqlite_schema.specs.contracts.schema.Schema.{the_row}
use Rattle.sqlite_trees.specs.Props.{Trees-set, IsShaped-prop}
use Rattle.sqlite_trees.proofs.Doubt.{no_doubt}
use Rattle.std.proofs.Math.Bool.{Bool-set}
use base.Stored.{Coded-set}
use mathlib.Core.HLevel.{Π_prop}
use Rattle.sqlite.specs.View.{doubt}
use Rattle.sqlite.specs.Effect.{Database}
use Rattle.sqlite.specs.Tree.{Trees}
use Rattle.sqlite_trees.specs.declared.store.Shape.TheVariants.{Table as AsTable}
use Rattle.sqlite.specs.State.{State, HasCleanDisk, Survives}
use Rattle.sqlite.specs.Held.{Held, state}
use Rattle.model.specs.Content.{Content}
use Rattle.sql_rows.specs.Tables.{the_schema}
use Rattle.sql_rows.specs.Shaped.{AreShaped}
use Rattle.sql_rows.specs.Content.{clock_entry, content_in, next_entry, next_params, set_entry, stored}
use Rattle.sql_rows.specs.Written.{Removed, Replaced}
use Rattle.sql_rows.specs.Statements.{tree_of}
use Rattle.sql_rows.specs.declared.statement.Table.{Table}
use Rattle.sql_rows.specs.declared.statement.Table.TheVariants.{Clock, NextRouting, WindowSet}
use Rattle.sql_store.specs.Transactions.{IsUndone}
use Rattle.sql_store.specs.Whole.{EachReads}
use Rattle.numbers.specs.Routings.{Routing}
use Rattle.sqlite.specs.declared.types.Value.TheVariants.{Int}

-- ---- between calls

-- Holds if the tables are the store's, and those of the last commit are too.
pub record HasStoreTables (s : State) : Type 0 where
  pub schema : s.now.schema ≡ the_schema
  pub shaped : AreShaped s.now.trees
  pub last_schema : s.committed.schema ≡ the_schema
  pub last_shaped : AreShaped s.committed.trees

-- Holds if no transaction has begun, and so nothing is uncommitted.
pub record IsIdle (s : State) : Type 0 where
  pub mode : s.in_transaction ≡ false
  pub same_schema : s.now.schema ≡ s.committed.schema
  pub same_trees : s.now.trees ≡ s.committed.trees

pub settled : (s : State) → IsIdle s → s.now ≡ s.committed
settled s idle i = record { schema = idle.same_schema i; trees = idle.same_trees i }

Schema-set : IsSet Schema
Schema-set = Coded-set the_row.coded

pub AreShaped-prop : (db : Trees) → IsProp (AreShaped db)
AreShaped-prop db = Π_prop (λ t. IsShaped-prop AsTable _)

HasStoreTables-prop : (s : State) → IsProp (HasStoreTables s)
HasStoreTables-prop s a b i = record {
  schema = Schema-set _ _ a.schema b.schema i;
  shaped = AreShaped-prop s.now.trees a.shaped b.shaped i;
  last_schema = Schema-set _ _ a.last_schema b.last_schema i;
  last_shaped = AreShaped-prop s.committed.trees a.last_shaped b.last_shaped i;
}

pub IsIdle-prop : (s : State) → IsProp (IsIdle s)
IsIdle-prop s a b i = record {
  mode = Bool-set _ _ a.mode b.mode i;
  same_schema = Schema-set _ _ a.same_schema b.same_schema i;
  same_trees = Trees-set _ _ a.same_trees b.same_trees i;
}

-- The type of a ghost field must be a proposition.
pub ours_if_open : (s : State) → IsProp (IsTrue s.is_open → HasStoreTables s)
ours_if_open s = Π_prop (λ _. HasStoreTables-prop s)

-- The content of the tables.
abbrev pub content_at : State → Content
content_at s = content_in s.now.trees

-- Holds if the store is unchanged.
pub record IsSame (old new : State) : Type 0 where
  pub was_open : IsTrue old.is_open
  pub now : new.now ≡ old.now
  pub committed : new.committed ≡ old.committed

-- Holds if nothing was committed, whether or not the call failed.
pub record HasCommittedNothing (old new : State) : Type 0 where
  pub was_open : IsTrue old.is_open
  pub committed : new.committed ≡ old.committed

-- Holds if a call committed nothing, and the tables are as they were or as at the last commit.
pub record IsSameOrUndone (old new : State) : Type 0 where
  pub was_open : IsTrue old.is_open
  pub now : (new.now ≡ old.now) ⊎ (new.now ≡ old.committed)
  pub committed : new.committed ≡ old.committed

-- Holds if a call only read. If it failed, it may have undone a transaction. A shut connection
-- answers no such call.
pub record HasQueried (old new : State) (answered : Bool) : Type 0 where
  pub same : IsTrue answered → IsTrue new.is_open → IsSame old new
  pub undone : IsTrue new.is_open → IsSameOrUndone old new
  pub mode : IsTrue new.is_open → old.in_transaction ≡ false → new.in_transaction ≡ false
  pub honest : HasCleanDisk new → HasCleanDisk old
  pub stays : IsTrue answered → HasCleanDisk new → IsTrue new.is_open
  pub survives : Survives old new (λ _. ⊥)

-- Holds if a call committed this, or nothing.
pub record HasCommitted (old new : State) (done : Bool) (Becomes : Content → Content
    → Type 0) : Type 0 where
  pub becomes : IsTrue done → IsTrue new.is_open → Becomes (content_at old) (content_at new)
  pub same : IsTrue (not done) → IsTrue new.is_open → IsSame old new
  pub was_open : IsTrue new.is_open → IsTrue old.is_open
  pub idle : IsTrue new.is_open → IsIdle new
  pub honest : HasCleanDisk new → HasCleanDisk old
  pub stays : IsTrue done → HasCleanDisk new → IsTrue new.is_open
  pub crash : Survives old new (λ db. IsTrue old.is_open → Becomes (content_at old) (content_in db))

-- Holds if a call wrote this in a transaction, which is not committed, or undid the transaction. A
-- shut connection answers no such call.
pub record HasWritten (old new : State) (done : Bool) (Becomes : Content → Content
    → Type 0) : Type 0 where
  pub becomes : IsTrue done → IsTrue new.is_open → Becomes (content_at old) (content_at new)
  pub inside : IsTrue done → IsTrue new.is_open → IsTrue new.in_transaction
  pub undone : IsTrue (not done) → IsTrue new.is_open → IsSameOrUndone old new
  pub mode : IsTrue (not done) → IsTrue new.is_open → old.in_transaction ≡ false
      → new.in_transaction ≡ false
  pub kept : IsTrue new.is_open → HasCommittedNothing old new
  pub honest : HasCleanDisk new → HasCleanDisk old
  pub stays : IsTrue done → HasCleanDisk new → IsTrue new.is_open
  pub survives : Survives old new (λ _. ⊥)

-- Holds if a call committed what a group wrote, or undid it.
pub record HasEndedGroup (old new : State) (done : Bool) : Type 0 where
  pub same : IsTrue done → IsTrue new.is_open → new.now ≡ old.now
  pub undone : IsTrue (not done) → IsTrue new.is_open → new.now ≡ old.committed
  pub was_open : IsTrue new.is_open → IsTrue old.is_open
  pub idle : IsTrue new.is_open → IsIdle new
  pub honest : HasCleanDisk new → HasCleanDisk old
  pub stays : IsTrue done → HasCleanDisk new → IsTrue new.is_open
  pub crash : Survives old new (λ db. IsTrue old.is_open × (db ≡ old.now.trees))

-- Holds if a crash leaves what it could leave before, or what the call made. This covers a shut
-- connection too.
abbrev pub CommitLeaves : (old new : State) → (Content → Content → Type 0) → Type 0
CommitLeaves old new Becomes = HasCleanDisk new → (db : Trees) → new.may_leave db → old.may_leave db
    ⊎ Becomes (content_at old) (content_in db)

-- ---- in a transaction

-- Holds if a transaction writes the store's tables.
pub record IsInTransaction (s : State) : Type 0 where
  pub is_open : IsTrue s.is_open
  pub inside : IsTrue s.in_transaction
  pub schema : s.now.schema ≡ the_schema
  pub shaped : AreShaped s.now.trees

-- Holds if statements were executed, and the tables have this content now.
pub record Stepped (old new : State) (content : Content) : Type 0 where
  pub inside : IsInTransaction new
  pub committed : new.committed ≡ old.committed
  pub is : content_at new ≡ content

-- Holds if a statement changed the tables so.
pub record Wrote (old new : State) (Did : Database → Database → Type 0) : Type 0 where
  pub is_open : IsTrue new.is_open
  pub inside : IsTrue new.in_transaction
  pub committed : new.committed ≡ old.committed
  pub did : Did old.now new.now

-- Holds if a call in a transaction changes the tables so, unless it fails.
pub record WritesInTransaction (old new : State) (done : Bool) (Did : Database → Database
    → Type 0) : Type 0 where
  pub wrote : IsTrue done → HasCleanDisk new → IsInTransaction old → Wrote old new Did
  pub kept : IsTrue new.is_open → HasCommittedNothing old new
  pub survives : Survives old new (λ _. ⊥)

-- Holds if the routing that a version sends was written, or the stored one deleted.
abbrev pub IsNextPut : ℕ → Option Routing → Database → Database → Type 0
IsNextPut id None old new = Removed NextRouting (Int (pos id) ∷ []) old new
IsNextPut id (Some r) old new = Replaced NextRouting (Int (pos id) ∷ []) (next_params id r) old new
    × (next_entry (stored (next_params id r)) ≡ Some (id, r))

-- Holds if only the tables of the sets of windows and of the clock changed, and their rows are
-- readable if they were.
pub record IsSetPut (old new : Database) : Type 0 where
  pub others : (t : Table) → tree_of t ≢ tree_of WindowSet → tree_of t ≢ tree_of Clock
      → new.trees (tree_of t) ≡ old.trees (tree_of t)
  pub sets : EachReads set_entry (old.trees 17) → EachReads set_entry (new.trees 17)
  pub clock : EachReads clock_entry (old.trees 21) → EachReads clock_entry (new.trees 21)

-- Holds if a call in a transaction changes the content so, unless it fails.
pub record AppliesInTransaction (old new : State) (done : Bool) (change : Content
    → Content) : Type 0 where
  pub made : IsTrue done → HasCleanDisk new → IsInTransaction old
      → Stepped old new (change (content_at old))
  pub kept : IsTrue new.is_open → HasCommittedNothing old new
  pub survives : Survives old new (λ _. ⊥)

-- Holds if a call made this change of the content in a transaction, which it began if there was
-- none, or undid the transaction.
pub record HasWrittenOver (old new : State) (done : Bool) (change : Content
    → Content) : Type 0 where
  pub made : IsTrue done → HasCleanDisk new → IsTrue old.is_open
      → Stepped old new (change (content_at old))
  pub undone : IsTrue (not done) → HasCleanDisk new → IsUndone old new
  pub kept : IsTrue new.is_open → HasCommittedNothing old new
  pub survives : Survives old new (λ _. ⊥)

-- Holds if the calls so far, with the change `left` after them, make the change `whole`.
pub record IsTransactionProgress (old new : State) (left whole : Content → Content) : Type 0 where
  pub inside : HasCleanDisk new → IsInTransaction old → IsInTransaction new
  pub committed : HasCleanDisk new → IsInTransaction old → new.committed ≡ old.committed
  pub is : HasCleanDisk new → IsInTransaction old → left (content_at new) ≡ whole (content_at old)
  pub kept : IsTrue new.is_open → HasCommittedNothing old new
  pub survives : Survives old new (λ _. ⊥)

-- ---- a crash

-- Holds of the contents of the databases that a crash may leave.
abbrev pub left_by : {S : Type 0} → Ghosts S → Held S → Content → Type 0
left_by g h m = (db : Trees) × (state g h).may_leave db × (m ≡ content_in db)

-- An open connection has a clean disk.
pub clean_if_open : (clean is_open : Bool) → (clean ≡ false → is_open ≡ false) → IsTrue is_open
    → doubt clean ≡ 0
clean_if_open true is_open law h = no_doubt true refl
clean_if_open false is_open law h = absurd (let e = law refl in let f : is_open ≡ true = h in
    true≢false (sym f ∙ e))

-- If a crash leaves one database, it leaves one content.
pub left_one : (m : Content) (db committed now : Trees) → m ≡ content_in db → db ≡ committed
    → now ≡ committed → m ≡ content_in now
left_one m db committed now is left same = is ∙ ap content_in (left ∙ sym same)

-- Inside a group, a crash leaves the content of its beginning.
pub left_start : (start m : Content) (db committed : Trees) → start ≡ content_in committed
    → m ≡ content_in db → db ≡ committed → m ≡ start
left_start start m db committed begun is left = is ∙ ap content_in left ∙ sym begun
