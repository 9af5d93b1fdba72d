-- What opening a store says of its tables.
use Rattle.std.proofs.Common.{◌≡◌, ◌≤◌, inl, inr, suc, Bool, List, [], ◌∷◌, arith, length, refl, sym, ap, subst, ◌∙◌}
use Rattle.std.specs.List.{AllByRecursion, AllZip}
use Rattle.sqlite.specs.State.{IsLive}
use Rattle.sqlite_trees.specs.Props.{AllByRecursion-prop, IsShaped-prop}
use Rattle.sqlite_trees.specs.declared.store.Shape.TheVariants.{Table as AsTable}
use Rattle.std.specs.Prelude.{filter}
use Rattle.sqlite.specs.Start.{FindsIn}
use Rattle.sqlite.specs.Recovery.{Image}
use Rattle.sqlite.specs.Store.{Ghosts}
use Rattle.sqlite.specs.Tree.{Trees}
use Rattle.sqlite_catalog.specs.Listing.{AreListed, IsIndexRow, IsTableRow, IsViewRow, is_table_row}
use Rattle.sqlite_schema.specs.declared.schema.Index.{Index}
use Rattle.sqlite_schema.specs.declared.schema.Table.{Table}
use Rattle.sqlite_schema.specs.declared.schema.View.{View as Stored}
use Rattle.model.specs.Content.{empty_content}
use Rattle.model.specs.Windows.{Windows}
use Rattle.settle.specs.declared.store.StoreFault.{StoreFault}
use Rattle.settle.specs.declared.store.StoreFault.TheVariants as told
use Rattle.sql_rows.specs.Content.{block_entry, broadcast_entry, carrier_entry, code_entry, content_in, lrn_entry, next_entry, wait_entry}
use Rattle.sql_store.specs.Faults.{opening_fault_of}
use Rattle.sql_store.specs.Opened.{IsRefusedAs, IsTakenAs, WasOpened}
use Rattle.sql_store.specs.Refusal.{IsLeftClean, IsLeftUsable}
use Rattle.sql_store.specs.Whole.{EachReads, IsBegunOrEmpty, IsWhole}
use Rattle.sql_store.specs.declared.file_fault.FileFault.{FileFault}
use Rattle.sql_store.specs.declared.file_fault.FileFault.TheVariants.{WindowsDiffer}
use Rattle.sql_store.specs.declared.refused.Refused.{Refused}
use Rattle.sql_store.specs.declared.refused.Refused.TheVariants.{Connection, Store}
use Rattle.sqlite.specs.View.{View, IsShaped}
use Rattle.sqlite.specs.Effect.{Database, IsDatabase}
use Rattle.sqlite.specs.State.{State, Opens}
use Rattle.sqlite_trees.specs.View.{IsOrdered, doubt}
use Rattle.sqlite_trees.proofs.Doubt.{clean_of, no_doubt, only_falls}
use Rattle.sqlite_trees.specs.Objects.{catalog_tree, IsListed}
use Rattle.sqlite_catalog.specs.Listing.{IsSound}
use Rattle.sqlite_catalog.proofs.LayoutLemmas.{laid_out, objects_rise}
use Rattle.sql_rows.specs.Tables.{no_schema, the_schema}
use Rattle.sqlite.specs.Schema.{Schema}
use Rattle.sql_rows.specs.Shaped.{AreShaped}
use Rattle.sql_rows.specs.declared.statement.Table.TheVariants.{Carrier, Lrn, Code, Block, OldVersion, Broadcast, Wait, OldClock, NextRouting, WindowSet, Version, Clock}
use Rattle.sql_rows.specs.Migration.{schema_of}
use Rattle.sql_rows.specs.declared.migration.SchemaVersion.{SchemaVersion}
use Rattle.sql_rows.specs.declared.migration.SchemaVersion.TheVariants.{First, Modify}
use Rattle.sql_store.specs.Migration.{AreOldShaped, IsMovedFrom, HasSchemaVersion, of_earlier, of_none, of_ours}
use Rattle.sql_store.specs.Store.{HasStoreTables, IsIdle}

-- The laws of a store with a clean disk give the shape of each table.
each_shaped : (v : View) → IsOrdered v.shape v.trees → (ts : List Table)
    → AllByRecursion (λ (t : Table). v.shape t.tree ≡ AsTable) ts
    → AllByRecursion (λ (t : Table). IsShaped AsTable (v.trees t.tree)) ts
each_shaped v ordered [] laid = tt
each_shaped v ordered (t ∷ ts) laid = (
  subst (λ s. IsShaped s (v.trees t.tree)) laid.0 (ordered t.tree),
  each_shaped v ordered ts laid.1,
)

tables_shaped : (k : Schema) (v : View) → IsListed (v.trees catalog_tree) v.shape v.reals
    → IsOrdered v.shape v.trees → IsSound k v.trees
    → AllByRecursion (λ (t : Table). IsShaped AsTable (v.trees t.tree)) k.tables
tables_shaped k v listed ordered sound =
    each_shaped v ordered k.tables (laid_out listed (objects_rise v listed ordered)
    sound.lists.listed).tables

pub shaped_by_laws : (v : View) → IsListed (v.trees catalog_tree) v.shape v.reals
    → IsOrdered v.shape v.trees → IsSound the_schema v.trees → AreShaped v.trees
shaped_by_laws v listed ordered sound = shaped (tables_shaped the_schema v listed ordered sound)
  where
    shaped : AllByRecursion (λ (t : Table). IsShaped AsTable (v.trees t.tree)) the_schema.tables
        → AreShaped v.trees
    shaped l Carrier = l.0
    shaped l Lrn = l.1.0
    shaped l Code = l.1.1.0
    shaped l Block = l.1.1.1.0
    shaped l OldVersion = l.1.1.1.1.0
    shaped l Broadcast = l.1.1.1.1.1.0
    shaped l Wait = l.1.1.1.1.1.1.0
    shaped l OldClock = l.1.1.1.1.1.1.1.0
    shaped l NextRouting = l.1.1.1.1.1.1.1.1.0
    shaped l WindowSet = l.1.1.1.1.1.1.1.1.1.0
    shaped l Version = l.1.1.1.1.1.1.1.1.1.1.0
    shaped l Clock = l.1.1.1.1.1.1.1.1.1.1.1.0

pub old_shaped_by_laws : (f : SchemaVersion) (v : View)
    → IsListed (v.trees catalog_tree) v.shape v.reals
    → IsOrdered v.shape v.trees → IsSound (schema_of f) v.trees → AreOldShaped f v.trees
old_shaped_by_laws f = tables_shaped (schema_of f)

pub AreOldShaped-prop : (f : SchemaVersion) (db : Trees) → IsProp (AreOldShaped f db)
AreOldShaped-prop f db = AllByRecursion-prop (λ (t : Table). IsShaped AsTable (db t.tree))
    (λ t. IsShaped-prop AsTable (db t.tree)) (schema_of f).tables

-- What was opened over a store with a clean disk is newly opened.
pub was_opened : (v : View) (s : State) → IsListed (v.trees catalog_tree) v.shape v.reals
    → IsOrdered v.shape v.trees → s.now.trees ≡ v.trees → Opens s → IsLive s → WasOpened s
was_opened v s listed ordered same opens live = record {
  opens = opens;
  live = live;
  shaped = λ ours. subst AreShaped (sym same) (shaped_by_laws v listed ordered
      (subst (IsSound the_schema) same ours));
  old_shaped =
      λ f old. subst (AreOldShaped f) (sym same) (old_shaped_by_laws f v listed ordered
      (subst (IsSound (schema_of f)) same old));
}

module _ (s : State) (was : WasOpened s) where
  -- Its tables are a database of the schema.
  pub sound_as : (k : Schema) → s.now.schema ≡ k → IsSound k s.now.trees
  sound_as k has = subst (λ k. IsSound k s.now.trees) has (was.live was.opens.is_open).0

  pub opened_form : (f : SchemaVersion) → s.now.schema ≡ schema_of f → HasSchemaVersion f s
  opened_form f has = record {
    schema = has;
    shaped = was.old_shaped f (sound_as (schema_of f) has);
    same_schema = ap (λ (d : Database). d.schema) was.opens.clean;
    same_trees = ap (λ (d : Database). d.trees) was.opens.clean;
  }

  pub opened_ours : s.now.schema ≡ the_schema → HasStoreTables s
  opened_ours has = record {
    schema = has;
    shaped = was.shaped (sound_as the_schema has);
    last_schema = ap (λ (d : Database). d.schema) (sym was.opens.clean) ∙ has;
    last_shaped = subst (λ (d : Database). AreShaped d.trees) was.opens.clean
        (was.shaped (sound_as the_schema has));
  }

  pub opened_idle : IsIdle s
  opened_idle = record {
    mode = was.opens.autocommit;
    same_schema = ap (λ (d : Database). d.schema) was.opens.clean;
    same_trees = ap (λ (d : Database). d.trees) was.opens.clean;
  }

-- If the disk is clean afterwards only if it was clean before, no fault is forgotten.
pub falls : (old new : Bool) → (doubt new ≡ 0 → doubt old ≡ 0) → doubt old ≤ doubt new
falls old new honest = only_falls old new (λ clean. clean_of old (honest (no_doubt new clean)))

-- ---- the tables that a database lists

zipped : {A B C : Type 0} (P : A → B → Type 0) (Q : A → C → Type 0) (xs : List A) (ys : List B)
    (zs : List C) → AllZip P xs ys → AllZip Q xs zs → length ys ≡ length zs
zipped P Q [] [] [] a b = refl
zipped P Q [] [] (z ∷ zs) a b = absurd b
zipped P Q [] (y ∷ ys) zs a b = absurd a
zipped P Q (x ∷ xs) [] zs a b = absurd a
zipped P Q (x ∷ xs) (y ∷ ys) [] a b = absurd b
zipped P Q (x ∷ xs) (y ∷ ys) (z ∷ zs) a b = ap suc (zipped P Q xs ys zs a.1 b.1)

-- All schemas of a database have as many tables.
as_many : (db : Trees) (k l : Schema) → IsSound k db → IsSound l db
    → length k.tables ≡ length l.tables
as_many db k l a b = zipped IsTableRow IsTableRow (filter is_table_row (db catalog_tree)) k.tables
    l.tables a.lists.listed.tables b.lists.listed.tables

-- If no object is listed, the schema is empty.
unlisted : (k : Schema) → AreListed [] k → k ≡ no_schema
unlisted k listed = tables k.tables k.indexes k.views listed.tables listed.indexes listed.views
  where
    tables : (ts : List Table) (is : List Index) (vs : List Stored) → AllZip IsTableRow [] ts
        → AllZip (IsIndexRow k.tables) [] is → AllZip IsViewRow [] vs → record {
          tables = ts;
          indexes = is;
          views = vs;
        } ≡ no_schema
    tables [] [] [] a b c = refl
    tables [] [] (v ∷ vs) a b c = absurd c
    tables [] (i ∷ is) vs a b c = absurd b
    tables (t ∷ ts) is vs a b c = absurd a

pub empty_is_unlisted : (d : Database) → IsDatabase d → d.trees catalog_tree ≡ []
    → d.schema ≡ no_schema
empty_is_unlisted d sound none =
    unlisted d.schema (subst (λ objects. AreListed objects d.schema) none sound.lists.listed)

-- Opening an empty file finds nothing.
pub empty_finds_none : (image : Image) (s : State) → image.db ≡ [] → FindsIn image s
    → s.committed.trees catalog_tree ≡ []
empty_finds_none image s none finds = elim finds.reads [
  | inl found ↦ absurd (let e = found.3.found.present in let f = ap length none in
      omega (arith, e, f))
  | inr nothing ↦ nothing.1.1
]

-- ---- databases that are taken

module _ (w : Windows) (db now : Trees) where
  pub taken_new : IsSound no_schema db → content_in now ≡ empty_content → IsWhole now
      → IsTakenAs w db now
  taken_new sound empty whole = record {
    new = λ _. empty;
    found = λ ours. absurd (let same = as_many db no_schema the_schema sound ours in
        omega (arith, same));
    begun = λ ours none. empty;
    moved = λ f old. absurd (never f (as_many db no_schema (schema_of f) sound old));
    whole = whole;
    schema = no_schema;
    sound = sound;
    known = of_none refl;
  }
    where
      never : (f : SchemaVersion) → length no_schema.tables ≡ length (schema_of f).tables → ⊥
      never First same = omega (arith, same)
      never Modify same = omega (arith, same)

  pub taken_found : IsSound the_schema db → now ≡ db → IsWhole now → IsBegunOrEmpty now
      → IsTakenAs w db now
  taken_found sound same whole begun = record {
    new = λ none. absurd (let same = as_many db the_schema no_schema sound none in
        omega (arith, same));
    found = λ _. same;
    begun = λ _. begun;
    moved = λ f old. absurd (never f (as_many db the_schema (schema_of f) sound old));
    whole = whole;
    schema = the_schema;
    sound = sound;
    known = of_ours refl;
  }
    where
      never : (f : SchemaVersion) → length the_schema.tables ≡ length (schema_of f).tables → ⊥
      never First same = omega (arith, same)
      never Modify same = omega (arith, same)

  -- Every row of a migrated database is readable.
  migrated_whole : (f : SchemaVersion) → IsMovedFrom f w db now → IsWhole now
  migrated_whole f it =
      let over = it.carried.over in
      let same = over.staying in
      let registry = it.staying.registry in
      let sent = it.staying.sent in
      record {
        registry = record {
          carriers = subst (EachReads carrier_entry) (sym same.carriers) registry.carriers;
          lrns = subst (EachReads lrn_entry) (sym same.lrns) registry.lrns;
          codes = subst (EachReads code_entry) (sym same.codes) registry.codes;
          blocks = subst (EachReads block_entry) (sym same.blocks) registry.blocks;
        };
        versions = record {
          versions = over.read.versions;
          broadcasts = subst (EachReads broadcast_entry) (sym same.broadcasts) sent.broadcasts;
          waits = subst (EachReads wait_entry) (sym same.waits) sent.waits;
          clock = over.read.clock;
        };
        added = record {
          nexts = subst (EachReads next_entry) (sym same.nexts) sent.nexts;
          sets = over.read.sets;
        };
        moved = over.moved;
        present = over.present;
      }

  pub taken_moved : (f : SchemaVersion) → IsSound (schema_of f) db → IsMovedFrom f w db now
      → IsTakenAs w db now
  taken_moved f sound it = record {
    new = λ none. absurd (no_table f (as_many db (schema_of f) no_schema sound none));
    found = λ ours. absurd (not_ours f (as_many db (schema_of f) the_schema sound ours));
    begun = λ ours. absurd (not_ours f (as_many db (schema_of f) the_schema sound ours));
    moved = λ g old. subst (λ h. IsMovedFrom h w db now)
        (same_form f g (as_many db (schema_of f) (schema_of g) sound old)) it;
    whole = migrated_whole f it;
    schema = schema_of f;
    sound = sound;
    known = of_earlier f refl;
  }
    where
      no_table : (f : SchemaVersion) → length (schema_of f).tables ≡ length no_schema.tables → ⊥
      no_table First same = omega (arith, same)
      no_table Modify same = omega (arith, same)

      not_ours : (f : SchemaVersion) → length (schema_of f).tables ≡ length the_schema.tables → ⊥
      not_ours First same = omega (arith, same)
      not_ours Modify same = omega (arith, same)

      same_form : (f g : SchemaVersion) → length (schema_of f).tables ≡ length (schema_of g).tables
          → f ≡ g
      same_form First First same = refl
      same_form Modify Modify same = refl
      same_form First Modify same = absurd (omega (arith, same))
      same_form Modify First same = absurd (omega (arith, same))

-- ---- databases that are refused

pub stands_clean : {S : Type 0} (g : Ghosts S) (left : Refused S) → IsLeftUsable g left
    → IsLeftClean g left
stands_clean g (Connection conn) it = it.0
stands_clean g (Store store) it = it.0

-- A fault of the store is never `WindowsDiffer`.
pub never_windows : (fault : StoreFault) → opening_fault_of fault ≡ WindowsDiffer → ⊥
never_windows told.Storage e = cc
never_windows told.NoMemory e = cc

-- The refusal holds for the database found, once it is known to be clean.
pub refused_of : {S : Type 0} (g : Ghosts S) (w : Windows) (db found : Trees) (fault : FileFault)
    (left : Refused S) → (IsLeftClean g left → found ≡ db)
    → (IsLeftClean g left → IsRefusedAs g w found fault left) → IsRefusedAs g w db fault left
refused_of g w db found fault left same it = record {
  kept = λ lists stands. (here (stands_clean g left stands)).kept lists stands;
  crash = λ lists clean. (here clean).crash lists clean;
  differ = λ told stands. (here (stands_clean g left stands)).differ told stands;
}
  where
    here : IsLeftClean g left → IsRefusedAs g w db fault left
    here clean = subst (λ t. IsRefusedAs g w t fault left) (same clean) (it clean)
