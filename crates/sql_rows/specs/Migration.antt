-- Migration of files with earlier schemas.
use Rattle.std.specs.Prelude.{◌≡◌, ⊤, ℕ, List, [], ◌∷◌, codes}
use Rattle.sqlite.specs.Command.{Command}
use Rattle.sqlite.specs.Command.TheVariants.{Delete}
use Rattle.sqlite.specs.Effect.{Database}
use Rattle.sqlite.specs.Schema.{Schema}
use Rattle.sqlite.specs.Table.{Table as SqlTable}
use Rattle.sqlite.specs.Term.{col}
use Rattle.sqlite.specs.Change.{KeepsRows}
use Rattle.sqlite_schema.specs.declared.schema.Index.{Index}
use Rattle.sql_rows.specs.Statements.{plain_query, slot_of, tree_of}
use Rattle.sql_rows.specs.Tables.{clock_table, first_schema, indexes_with, modify_schema, new_tables, next_routing_table, tables_with, the_schema, version_keys, version_table, window_set_table}
use Rattle.sql_rows.specs.Written.{IsFrame}
use Rattle.sql_rows.specs.declared.migration.SchemaVersion.{SchemaVersion}
use Rattle.sql_rows.specs.declared.migration.SchemaVersion.TheVariants.{First, Modify}
use Rattle.sql_rows.specs.declared.migration.NewTable.{NewTable}
use Rattle.sql_rows.specs.declared.migration.NewTable.TheVariants as made
use Rattle.sql_rows.specs.declared.migration.OldTable.{OldTable}
use Rattle.sql_rows.specs.declared.migration.OldTable.TheVariants as former
use Rattle.sql_rows.specs.declared.statement.Table.{Table}
use Rattle.sql_rows.specs.declared.statement.Table.TheVariants.{OldClock, OldVersion}
use Rattle.sql_rows.specs.declared.statement.Table.TheVariants as stored

abbrev pub schema_of : SchemaVersion → Schema
schema_of First = first_schema
schema_of Modify = modify_schema

-- ---- tables that are created

abbrev pub create_text : NewTable → List ℕ
create_text made.NextRouting =
    codes "CREATE TABLE next_routing (id INTEGER PRIMARY KEY, lrn INTEGER NOT NULL, cic INTEGER) STRICT"
create_text made.WindowSet =
    codes "CREATE TABLE window_set (number INTEGER PRIMARY KEY, initial_concurrence INTEGER NOT NULL, final_concurrence INTEGER NOT NULL, conflict_restriction INTEGER NOT NULL, conflict_resolution INTEGER NOT NULL, conflict_expiration INTEGER NOT NULL, cancellation_initial INTEGER NOT NULL, cancellation_final INTEGER NOT NULL, pending_retention INTEGER NOT NULL, broadcast INTEGER NOT NULL) STRICT"
create_text made.Version =
    codes "CREATE TABLE version2 (id INTEGER PRIMARY KEY, subject INTEGER NOT NULL, old TEXT NOT NULL, new TEXT NOT NULL, due INTEGER NOT NULL, lrn INTEGER, cic INTEGER, old_at INTEGER, new_at INTEGER, status TEXT NOT NULL, sends TEXT NOT NULL, since INTEGER NOT NULL, attempt INTEGER NOT NULL, release INTEGER, spent INTEGER NOT NULL, protective INTEGER NOT NULL, cancelled_by TEXT, deadline INTEGER, holds INTEGER NOT NULL UNIQUE, opens INTEGER NOT NULL UNIQUE, held INTEGER NOT NULL) STRICT"
create_text made.Clock =
    codes "CREATE TABLE clock2 (one INTEGER PRIMARY KEY, now INTEGER NOT NULL, next_id INTEGER NOT NULL, present INTEGER NOT NULL) STRICT"

abbrev pub made_table : NewTable → SqlTable
made_table made.NextRouting = next_routing_table
made_table made.WindowSet = window_set_table
made_table made.Version = version_table
made_table made.Clock = clock_table

abbrev pub schema_with : List SqlTable → List Index → Schema
schema_with tables indexes = record {
  tables = tables_with tables;
  indexes = indexes_with indexes;
  views = [];
}

abbrev pub schema_before : NewTable → Schema
schema_before made.NextRouting = first_schema
schema_before made.WindowSet = modify_schema
schema_before made.Version = schema_with (next_routing_table ∷ window_set_table ∷ []) []
schema_before made.Clock = schema_with (next_routing_table ∷ window_set_table ∷ version_table ∷ [])
    version_keys

abbrev pub schema_after : NewTable → Schema
schema_after made.NextRouting = modify_schema
schema_after made.WindowSet = schema_before made.Version
schema_after made.Version = schema_before made.Clock
schema_after made.Clock = schema_with new_tables version_keys

-- Holds if the table exists without rows, and the others keep their rows.
pub record IsMade (t : NewTable) (old new : Database) : Type 0 where
  pub schema : new.schema ≡ schema_after t
  pub blank : new.trees (made_table t).tree ≡ []
  pub others : KeepsRows (schema_before t).tables old.trees new.trees

abbrev pub index_text : List ℕ
index_text = codes "CREATE INDEX version2_deadline ON version2 (deadline)"

-- ---- tables that are read

-- Holds if a file with the schema has this table.
abbrev pub IsTableOf : Table → SchemaVersion → Type 0
IsTableOf stored.Carrier f = ⊤
IsTableOf stored.Lrn f = ⊤
IsTableOf stored.Code f = ⊤
IsTableOf stored.Block f = ⊤
IsTableOf stored.OldVersion f = ⊤
IsTableOf stored.Broadcast f = ⊤
IsTableOf stored.Wait f = ⊤
IsTableOf stored.OldClock f = ⊤
IsTableOf stored.NextRouting First = ⊥
IsTableOf stored.NextRouting Modify = ⊤
IsTableOf stored.WindowSet f = ⊥
IsTableOf stored.Version f = ⊥
IsTableOf stored.Clock f = ⊥

-- ---- the tables that are emptied

abbrev pub table_of_old : OldTable → Table
table_of_old former.Version = OldVersion
table_of_old former.Clock = OldClock

abbrev pub clear_text : OldTable → List ℕ
clear_text former.Version = codes "DELETE FROM version"
clear_text former.Clock = codes "DELETE FROM clock"

abbrev pub clear_command : OldTable → Command
clear_command t = Delete (slot_of (table_of_old t)) (record {
  lets = [];
  body = plain_query (tree_of (table_of_old t)) [] (col 1 0 ∷ []);
})

-- Holds if a table of an earlier schema has no row, and every other table is unchanged.
pub record IsCleared (t : OldTable) (old new : Database) : Type 0 where
  pub schema : new.schema ≡ the_schema
  pub rows : new.trees (tree_of (table_of_old t)) ≡ []
  pub frame : IsFrame (table_of_old t) old.trees new.trees
