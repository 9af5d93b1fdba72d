-- The migration of a file with an earlier schema.
use Rattle.std.specs.Prelude.{◌≡◌, ◌≢◌, ℕ, pos, Bool, List, [], ◌∷◌, Option, Some, None, IsTrue, map, not, option_map}
use Rattle.std.specs.FinMap.{FinMap, empty, get, insert}
use Rattle.std.specs.List.{AllByRecursion}
use Rattle.std.specs.Ordering.{nat_cmp}
use Rattle.sqlite.specs.Change.{KeepsRows}
use Rattle.sqlite.specs.declared.types.Value.TheVariants.{Int}
use Rattle.sqlite.specs.Effect.{Database}
use Rattle.sqlite.specs.Schema.{Schema}
use Rattle.sqlite.specs.State.{HasCleanDisk, State, Survives}
use Rattle.sqlite.specs.Table.{Table as SqlTable}
use Rattle.sqlite.specs.Tree.{Trees}
use Rattle.sqlite.specs.View.{IsShaped}
use Rattle.sqlite_trees.specs.declared.store.Shape.TheVariants.{Table as AsTable}
use Rattle.model.specs.Content.{ClockRow, VersionRow}
use Rattle.model.specs.Windows.{Windows}
use Rattle.sql_rows.specs.Clocks.{old_clock_of}
use Rattle.sql_rows.specs.Content.{broadcast_entry, clock_entry, content_in, next_entry, old_clock_entry, set_entry, versions_in, wait_entry}
use Rattle.sql_rows.specs.OldSchemas.{content_with, next_rows, old_clock, old_content_in, old_versions_in}
use Rattle.sql_rows.specs.Found.{IsListAnswer}
use Rattle.sql_rows.specs.declared.statement.Query.TheVariants.{All}
use Rattle.sql_rows.specs.Migration.{schema_of}
use Rattle.sql_rows.specs.Shaped.{AreShaped}
use Rattle.sql_rows.specs.Tables.{no_schema, the_schema}
use Rattle.sql_rows.specs.Versions.{bare, old_version_entry, old_version_in, version_entry, version_params, version_row}
use Rattle.sql_rows.specs.Written.{IsFrame, Removed, Replaced}
use Rattle.sql_rows.specs.declared.keyed.OldClock.{OldClock}
use Rattle.sql_rows.specs.declared.migration.SchemaVersion.{SchemaVersion}
use Rattle.sql_rows.specs.declared.migration.SchemaVersion.TheVariants.{Modify}
use Rattle.sql_rows.specs.declared.statement.Table.TheVariants.{OldVersion as OldTable, Version}
use Rattle.sql_rows.specs.declared.version_row.OldVersion.{OldVersion}
use Rattle.sql_store.specs.Store.{HasCommittedNothing, HasStoreTables, IsIdle, IsSame, Wrote}
use Rattle.sql_store.specs.Whole.{AreRegistryRead, EachReads, HasPresentSet, IsMoved}

-- Holds if each table of the schema has ascending rowids.
abbrev pub AreOldShaped : SchemaVersion → Trees → Type 0
AreOldShaped f db =
    AllByRecursion (λ (t : SqlTable). IsShaped AsTable (db t.tree)) (schema_of f).tables

-- Holds if the tables are those of the schema, and nothing is uncommitted.
pub record HasSchemaVersion (f : SchemaVersion) (s : State) : Type 0 where
  pub schema : s.now.schema ≡ schema_of f
  pub shaped : AreOldShaped f s.now.trees
  pub same_schema : s.now.schema ≡ s.committed.schema
  pub same_trees : s.now.trees ≡ s.committed.trees

-- ---- the contract

-- Holds if the tables that are not migrated have the rows that they had, readable or not.
pub record HasStayingRows (f : SchemaVersion) (old new : Trees) : Type 0 where
  pub carriers : new 0 ≡ old 0
  pub lrns : new 2 ≡ old 2
  pub codes : new 3 ≡ old 3
  pub blocks : new 4 ≡ old 4
  pub broadcasts : new 8 ≡ old 8
  pub waits : new 10 ≡ old 10
  pub nexts : new 16 ≡ next_rows f old

-- Holds if the rows that were migrated are readable.
pub record AreNewRowsRead (db : Trees) : Type 0 where
  pub versions : EachReads version_entry (db 18)
  pub sets : EachReads set_entry (db 17)
  pub clock : EachReads clock_entry (db 21)

-- Holds if the new content is the old one with its windows as set 1, the tables of the earlier
-- schema are empty, the others keep their rows, and each new row is readable.
pub record IsCarriedOver (f : SchemaVersion) (old new : Trees) : Type 0 where
  pub content : content_in new ≡ old_content_in f old
  pub moved : IsMoved new
  pub staying : HasStayingRows f old new
  pub read : AreNewRowsRead new
  pub present : HasPresentSet new

-- ---- the rows read before anything is written

-- Holds if each routing that a version sends is readable, if the schema has a table of those.
abbrev pub AreNextsRead : SchemaVersion → Trees → Type 0
AreNextsRead f db = EachReads next_entry (next_rows f db)

-- Holds if each row of what is sent is readable.
pub record IsSentRead (f : SchemaVersion) (db : Trees) : Type 0 where
  pub broadcasts : EachReads broadcast_entry (db 8)
  pub waits : EachReads wait_entry (db 10)
  pub nexts : AreNextsRead f db

-- Holds if each row of the tables that are not migrated is readable.
pub record AreStayingRead (f : SchemaVersion) (db : Trees) : Type 0 where
  pub registry : AreRegistryRead db
  pub sent : IsSentRead f db

-- Holds if each row of the tables that are emptied is readable.
pub record AreMovedRead (db : Trees) : Type 0 where
  pub versions : EachReads old_version_entry (db 5)
  pub clock : EachReads old_clock_entry (db 12)

-- Holds if the versions and the clock were read and migrated.
pub record IsCarried (f : SchemaVersion) (old new : Trees) : Type 0 where
  pub read : AreMovedRead old
  pub over : IsCarriedOver f old new

-- Holds if the windows are those of the file, if it has a clock.
abbrev pub HasTheseWindows : Windows → Trees → Type 0
HasTheseWindows w db = (c : ClockRow) → old_clock (db 12) ≡ Some c → c.present.windows ≡ w

-- Holds if the file has a clock, and other windows.
abbrev pub HasDifferentWindows : Windows → Trees → Type 0
HasDifferentWindows w db = (c : ClockRow) × (old_clock (db 12) ≡ Some c) × (c.present.windows ≢ w)

-- Holds if the file was migrated from this schema: these windows are its own, and every row was
-- read.
pub record IsMovedFrom (f : SchemaVersion) (w : Windows) (old new : Trees) : Type 0 where
  pub staying : AreStayingRead f old
  pub windows : HasTheseWindows w old
  pub carried : IsCarried f old new

-- Holds if the call migrated the file or left it unchanged, and a crash leaves either.
pub record HasMigrated (Becomes : Trees → Trees → Type 0) (old new : State)
    (done : Bool) : Type 0 where
  pub becomes : IsTrue done → IsTrue new.is_open → Becomes old.now.trees new.now.trees
  pub ours : IsTrue done → IsTrue new.is_open → HasStoreTables new
  pub idle : IsTrue done → IsTrue new.is_open → IsIdle new
  pub same : IsTrue (not done) → IsTrue new.is_open → IsSame old new
  pub was_open : IsTrue new.is_open → IsTrue old.is_open
  pub honest : HasCleanDisk new → HasCleanDisk old
  pub stays : IsTrue done → IsTrue old.is_open → HasCleanDisk new → IsTrue new.is_open
  pub crash : Survives old new (λ db. IsTrue old.is_open → Becomes old.now.trees db)

-- A schema that is empty, the present one, or an earlier one.
pub data HasKnownSchema (k : Schema) : Type 0 where
  of_none : k ≡ no_schema → HasKnownSchema k
  of_ours : k ≡ the_schema → HasKnownSchema k
  of_earlier : (f : SchemaVersion) → k ≡ schema_of f → HasKnownSchema k

-- ---- in a transaction

-- Holds in a transaction over a database with this schema.
pub record IsBegun (k : Schema) (s : State) : Type 0 where
  pub is_open : IsTrue s.is_open
  pub inside : IsTrue s.in_transaction
  pub schema : s.now.schema ≡ k

pub record IsBegunAs (f : SchemaVersion) (s : State) : Type 0 where
  pub begun : IsBegun (schema_of f) s
  pub shaped : AreOldShaped f s.now.trees

-- Holds if the call in a transaction changes the database so, unless it fails.
pub record MigratesInTransaction (P : State → Type 0) (old new : State) (done : Bool)
    (Did : Database → Database
    → Type 0) : Type 0 where
  pub altered : IsTrue done → HasCleanDisk new → P old → Wrote old new Did
  pub kept : IsTrue new.is_open → HasCommittedNothing old new
  pub survives : Survives old new (λ _. ⊥)

-- Holds if the index exists, and all tables have the rows that they had.
abbrev pub IsIndexed : Database → Database → Type 0
IsIndexed old new = (new.schema ≡ the_schema) × KeepsRows the_schema.tables old.trees new.trees

-- Holds if the tables and the index exist, the new tables are empty, and the others have the rows
-- that they had.
pub record AreTablesCreated (f : SchemaVersion) (old new : Database) : Type 0 where
  pub schema : new.schema ≡ the_schema
  pub sets : new.trees 17 ≡ []
  pub versions : new.trees 18 ≡ []
  pub clock : new.trees 21 ≡ []
  pub nexts : new.trees 16 ≡ next_rows f old.trees
  pub same : KeepsRows (schema_of f).tables old.trees new.trees

-- Holds if the version's row was written, without the routing that it sends.
abbrev pub IsBarePut : ℕ → VersionRow → Database → Database → Type 0
IsBarePut id v old new = Replaced Version (Int (pos id) ∷ []) (version_params id v) old new
    × (version_entry (version_row id v) ≡ Some (id, bare v))

abbrev pub seen_of : List OldVersion → List (ℕ × VersionRow)
seen_of xs = map (λ (x : OldVersion). (x.version.id, x.version.row)) xs

abbrev pub ids_in : List OldVersion → List ℕ
ids_in xs = map (λ (x : OldVersion). x.version.id) xs

-- Holds if these are the ids of the versions.
abbrev pub AreIdsOf : List ℕ → List (ℕ × VersionRow) → Type 0
AreIdsOf ids seen = (xs : List OldVersion) × (seen ≡ seen_of xs) × (ids ≡ ids_in xs)

-- Holds if these are the ids of all versions in a file with an earlier schema, and each version is
-- readable.
abbrev pub HasIds : List ℕ → Trees → Type 0
HasIds ids db = (xs : List OldVersion) × IsListAnswer (All OldTable) old_version_in db []
    (seen_of xs) × (ids ≡ ids_in xs)

-- Holds if the version with this id was copied from the table of earlier schemas.
abbrev pub IsOldPut : ℕ → Database → Database → Type 0
IsOldPut id old new = (v : VersionRow) × (get (old_versions_in (old.trees 5)) id ≡ Some v)
    × IsBarePut id v old new

-- The map with the version of this id written, if there is one.
abbrev pub put_if : ℕ → Option VersionRow → FinMap nat_cmp VersionRow → FinMap nat_cmp VersionRow
put_if id None m = m
put_if id (Some v) m = insert m id (bare v)

abbrev pub all_of : FinMap nat_cmp VersionRow → List ℕ → FinMap nat_cmp VersionRow
    → FinMap nat_cmp VersionRow
all_of from [] m = m
all_of from (id ∷ ids) m = all_of from ids (put_if id (get from id) m)

-- The map with the versions of these ids written, from the table of earlier schemas.
abbrev pub all_old : Trees → List ℕ → FinMap nat_cmp VersionRow → FinMap nat_cmp VersionRow
all_old db = all_of (old_versions_in (db 5))

-- Holds if some versions were copied: copying those of `left` too gives what copying those of
-- `whole` would have given.
pub record ArePutBut (left whole : List ℕ) (old new : Database) : Type 0 where
  pub schema : old.schema ≡ the_schema → new.schema ≡ the_schema
  pub shaped : AreShaped old.trees → AreShaped new.trees
  pub versions : AreShaped old.trees → all_old old.trees left (versions_in (new.trees 18))
      ≡ all_old old.trees whole (versions_in (old.trees 18))
  pub read : EachReads version_entry (old.trees 18) → EachReads version_entry (new.trees 18)
  pub frame : IsFrame Version old.trees new.trees

-- Holds if the version with this id was deleted from the table of earlier schemas.
abbrev pub IsOldDeleted : ℕ → Database → Database → Type 0
IsOldDeleted id = Removed OldTable (Int (pos id) ∷ [])

-- Holds if rows may have been deleted from the table of earlier schemas, and all other tables stay.
pub record AreOldRowsDeleted (old new : Database) : Type 0 where
  pub schema : old.schema ≡ the_schema → new.schema ≡ the_schema
  pub shaped : AreShaped old.trees → AreShaped new.trees
  pub frame : IsFrame OldTable old.trees new.trees

-- Holds if the rows were copied, and the tables of the earlier schema emptied.
pub record AreRowsCopied (ids : List ℕ) (clock : Option OldClock)
    (old new : Database) : Type 0 where
  pub schema : new.schema ≡ the_schema
  pub shaped : AreShaped new.trees
  pub moved : IsMoved new.trees
  pub staying : HasStayingRows Modify old.trees new.trees
  pub read : old.trees 17 ≡ [] → old.trees 18 ≡ [] → old.trees 21 ≡ [] → AreNewRowsRead new.trees
  pub content : old.trees 17 ≡ [] → old.trees 18 ≡ [] → old.trees 21 ≡ []
      → content_in new.trees ≡ content_with Modify (all_old old.trees ids empty)
      (option_map old_clock_of clock) old.trees

-- Holds if the tables were created and the rows copied.
pub record IsMigrated (f : SchemaVersion) (ids : List ℕ) (clock : Option OldClock)
    (old new : Database) : Type 0 where
  pub schema : new.schema ≡ the_schema
  pub shaped : AreShaped new.trees
  pub moved : IsMoved new.trees
  pub staying : HasStayingRows f old.trees new.trees
  pub read : AreNewRowsRead new.trees
  pub content : content_in new.trees ≡ content_with f (all_old old.trees ids empty)
      (option_map old_clock_of clock) old.trees

-- Holds if the trees are migrated; says nothing of the schema.
pub record AreTreesMigrated (f : SchemaVersion) (ids : List ℕ) (clock : Option OldClock)
    (old new : Trees) : Type 0 where
  pub content : content_in new ≡ content_with f (all_old old ids empty)
      (option_map old_clock_of clock) old
  pub moved : IsMoved new
  pub staying : HasStayingRows f old new
  pub read : AreNewRowsRead new
