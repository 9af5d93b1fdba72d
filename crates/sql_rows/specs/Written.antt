-- The effects of writing statements on the tables.
use Rattle.std.specs.Prelude.{◌≡◌, ◌≢◌, ◌/◌, length, List, [], ◌∷◌, not, filter, map, false, Bool}
use Rattle.sqlite.specs.Order.{Row, column}
use Rattle.sqlite.specs.Tree.{Trees, put_row}
use Rattle.sqlite.specs.Edit.{edit_of, is_taken}
use Rattle.sqlite.specs.Rowids.TheVariants.{Chosen}
use Rattle.sqlite.specs.Rows.{stamped}
use Rattle.sqlite.specs.Effect.{Database, value_rows}
use Rattle.sqlite.specs.Term.{Term, holds}
use Rattle.std.specs.List.{list_all}
use Rattle.sql_rows.specs.Tables.{the_schema}
use Rattle.sql_rows.specs.Statements.{table_of, tree_of, key_places, key_test, insert_terms, width_of}
use Rattle.sql_rows.specs.declared.statement.Table.{Table}

-- Whether the row passes WHERE.
abbrev pub passes : List Term → Row → Row → Bool
passes test params r = list_all (holds (params ∷ r ∷ [])) test

-- Holds if every other table is unchanged.
abbrev pub IsFrame : Table → Trees → Trees → Type 0
IsFrame t db next = (u : Table) → tree_of u ≢ tree_of t → next (tree_of u) ≡ db (tree_of u)

-- Holds if the rows with a key were deleted.
pub record Removed (t : Table) (params : Row) (old new : Database) : Type 0 where
  pub schema : new.schema ≡ the_schema
  pub rows : new.trees (tree_of t) ≡ filter (λ r. not (passes (key_test t) params r))
      (old.trees (tree_of t))
  pub frame : IsFrame t old.trees new.trees

-- Holds if a row was inserted.
pub record Added (t : Table) (row : Row) (old new : Database) : Type 0 where
  pub schema : new.schema ≡ the_schema
  pub free : is_taken (old.trees (tree_of t)) row ≡ false
  pub rows : new.trees (tree_of t) ≡ put_row row (old.trees (tree_of t))
  pub frame : IsFrame t old.trees new.trees

-- The rows that the statement inserts, after casts and with a rowid.
abbrev pub cast_rows : Table → Row → Trees → List Row
cast_rows t params db =
    (edit_of db (table_of t) [] Chosen 0 (value_rows (stamped (table_of t) params) (width_of t)
    (length (insert_terms t) / width_of t) (insert_terms t))).news

-- Holds if the row in the parameters was inserted.
-- The key of a row.
abbrev pub key_of : Table → Row → Row
key_of t row = map (column row) (key_places t)

-- Holds if this is the key of the row that the statement inserts.
abbrev pub IsKeyOf : Table → (key params : Row) → Type 0
IsKeyOf t key params = (db : Trees) (row : Row) → cast_rows t params db ≡ row ∷ []
    → key_of t row ≡ key

-- Holds if a row was inserted. Its rowid may have been chosen before other rows were deleted.
pub record AddedBy (t : Table) (params : Row) (old new : Database) : Type 0 where
  pub base : Trees
  pub adds : (row : Row) → cast_rows t params base ≡ row ∷ [] → Added t row old new

-- Holds if the rows with a key were deleted, and then a row was inserted.
pub record Replaced (t : Table) (key params : Row) (old new : Database) : Type 0 where
  pub mid : Database
  pub removed : Removed t key old mid
  pub added : AddedBy t params mid new
