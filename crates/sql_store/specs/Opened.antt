-- The databases that are taken as a store, and those that are refused.
use Rattle.std.specs.Prelude.{◌≡◌, ◌⊎◌}
use Rattle.sqlite.specs.State.{IsLive, Opens, State}
use Rattle.sqlite.specs.Store.{Ghosts}
use Rattle.sqlite.specs.Tree.{Trees}
use Rattle.sqlite_catalog.specs.Listing.{IsSound}
use Rattle.sqlite.specs.Schema.{Schema}
use Rattle.model.specs.Content.{empty_content}
use Rattle.model.specs.Windows.{Windows}
use Rattle.sql_rows.specs.Content.{content_in}
use Rattle.sql_rows.specs.Migration.{schema_of}
use Rattle.sql_rows.specs.Shaped.{AreShaped}
use Rattle.sql_rows.specs.Tables.{no_schema, the_schema}
use Rattle.sql_rows.specs.declared.migration.SchemaVersion.{SchemaVersion}
use Rattle.sql_store.specs.Migration.{AreOldShaped, IsMovedFrom, HasKnownSchema, HasDifferentWindows}
use Rattle.sql_store.specs.Refusal.{IsLeftClean, IsLeftUsable, may_leave_of, trees_of}
use Rattle.sql_store.specs.Whole.{IsBegunOrEmpty, IsWhole}
use Rattle.sql_store.specs.declared.file_fault.FileFault.{FileFault}
use Rattle.sql_store.specs.declared.file_fault.FileFault.TheVariants.{WindowsDiffer}
use Rattle.sql_store.specs.declared.refused.Refused.{Refused}

-- Holds of a newly opened connection: its tables have rows in order, if they are the present or an
-- earlier schema's.
pub record WasOpened (s : State) : Type 0 where
  pub opens : Opens s
  pub live : IsLive s
  pub shaped : IsSound the_schema s.now.trees → AreShaped s.now.trees
  pub old_shaped : (f : SchemaVersion) → IsSound (schema_of f) s.now.trees
      → AreOldShaped f s.now.trees

-- Holds if the database has an earlier schema, and was created with other windows.
pub record HadOtherWindows (w : Windows) (db : Trees) : Type 0 where
  pub form : SchemaVersion
  pub sound : IsSound (schema_of form) db
  pub others : HasDifferentWindows w db

-- Holds if every table has the rows that it had, readable or not.
abbrev pub HasSameRows : (old new : Trees) → Type 0
HasSameRows old new = new ≡ old

-- ---- databases that are taken

-- Holds if the database is taken so: without tables it is empty, with the present schema it keeps
-- every row, and has a clock's row if it has any, and with an earlier schema it is migrated.
pub record IsTakenAs (w : Windows) (db now : Trees) : Type 0 where
  pub new : IsSound no_schema db → content_in now ≡ empty_content
  pub found : IsSound the_schema db → HasSameRows db now
  pub begun : IsSound the_schema db → IsBegunOrEmpty now
  pub moved : (f : SchemaVersion) → IsSound (schema_of f) db → IsMovedFrom f w db now
  pub whole : IsWhole now
  pub schema : Schema
  pub sound : IsSound schema db
  pub known : HasKnownSchema schema

-- ---- databases that are refused

-- Holds if a crash may leave this of a database being opened: what it is, or, with an earlier
-- schema, its migration.
abbrev pub IsCrashStateOfOpen : Windows → (db left : Trees) → Type 0
IsCrashStateOfOpen w db left = HasSameRows db left ⊎ ((f : SchemaVersion) × IsSound (schema_of f) db
    × IsMovedFrom f w db left)

-- Holds if a database is refused so. If it lists tables, it keeps every row, and a crash leaves
-- what it might leave before, or its migration. `WindowsDiffer` implies other windows.
pub record IsRefusedAs {S : Type 0} (g : Ghosts S) (w : Windows) (db : Trees) (fault : FileFault)
    (left : Refused S) : Type 0 where
  pub kept : ¬ IsSound no_schema db → IsLeftUsable g left → HasSameRows db (trees_of g left)
  pub crash : ¬ IsSound no_schema db → IsLeftClean g left → (trees : Trees)
      → may_leave_of g left trees → IsCrashStateOfOpen w db trees
  pub differ : fault ≡ WindowsDiffer → IsLeftUsable g left → HadOtherWindows w db
