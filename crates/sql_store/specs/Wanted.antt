-- Definitions for the check of a schema.
use Rattle.sqlite_schema.specs.declared.schema.Column.{Column}
use Rattle.sqlite_schema.specs.declared.schema.Index.{Index}
use Rattle.sqlite_value.specs.Keys.{plain}
use Rattle.sql_store.specs.declared.schema.Added.{Added}
use Rattle.sql_store.specs.declared.schema.WantedColumn.{WantedColumn}
use Rattle.sql_store.specs.declared.schema.WantedIndex.{WantedIndex}
use Rattle.sql_store.specs.declared.schema.WantedTable.{WantedTable}
use Rattle.std.specs.Prelude.{List, [], ◌∷◌, ◌++◌, map}
use Rattle.sqlite.specs.Schema.{Schema}
use Rattle.sqlite.specs.Table.{Table}
use Rattle.sql_rows.specs.Tables.{a_column, a_table, an_index}

abbrev pub column_of : WantedColumn → Column
column_of w = a_column w.name.now w.kind w.not_null

abbrev pub table_of : WantedTable → Table
table_of w =
    a_table w.tree w.name.now (map column_of w.columns.now) w.key w.primary.now
    (map (λ places. places.now) w.uniques.now) (map (λ places. plain) w.uniques.now)

abbrev pub index_of : WantedIndex → Index
index_of w = an_index w.name.now w.tree w.table w.columns.now w.is_unique

-- The tables of all steps.
abbrev pub tables_of : List Added → List Table
tables_of [] = []
tables_of (step ∷ steps) = map table_of step.tables.now ++ tables_of steps

abbrev pub indexes_of : List Added → List Index
indexes_of [] = []
indexes_of (step ∷ steps) = map index_of step.indexes.now ++ indexes_of steps

abbrev pub schema_by : List Added → Schema
schema_by steps = record { tables = tables_of steps; indexes = indexes_of steps; views = [] }
