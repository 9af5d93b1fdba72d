-- The shape of the tables.
use Rattle.sqlite.specs.Tree.{Trees}
use Rattle.sqlite.specs.View.{IsShaped}
use Rattle.sqlite_trees.specs.declared.store.Shape.TheVariants.{Table as AsTable}
use Rattle.sql_rows.specs.Statements.{tree_of}
use Rattle.sql_rows.specs.declared.statement.Table.{Table}

-- Holds if the rowids of each table are ascending whole numbers.
abbrev pub AreShaped : Trees → Type 0
AreShaped db = (t : Table) → IsShaped AsTable (db (tree_of t))
