-- The trees that an opening of files found are well-formed.
use Rattle.std.proofs.Common.{◌≡◌, ◌∙◌, ℕ, ◌<◌, ◌^◌, inl, inr, refl, sym, ap, subst, arith}
use Rattle.std.proofs.Math.Logic.{∥∥₁_elim}
use Rattle.sqlite.specs.Effect.{Database}
use Rattle.sqlite.specs.Files.{AreFoundIn, IsEmpty, IsOpened, file_state}
use Rattle.sqlite.specs.FileStore.{view}
use Rattle.sqlite.specs.Held.{Held}
use Rattle.sqlite_disk.specs.declared.Disk.{Ghosts}
use Rattle.sqlite_store.specs.declared.store.FileStore.{FileStore}
use Rattle.sqlite.specs.Recovery.{Image}
use Rattle.sqlite.specs.Tree.{Trees}
use Rattle.sqlite.specs.View.{View, IsShaped}
use Rattle.sqlite_trees.specs.View.{IsOrdered}
use Rattle.sqlite_trees.specs.Objects.{catalog_tree, IsListed}
use Rattle.sqlite_trees.specs.declared.store.Shape.TheVariants.{Table as AsTable}
use Rattle.sqlite_catalog.specs.Listing.{IsSound}
use Rattle.sqlite_store.specs.Listed.{is_listed, catalog_rows}
use Rattle.sqlite_store.specs.Listing.{all_shapes, all_reals, listed_from}
use Rattle.sqlite_pool.specs.File.{in_use, version_in}
use Rattle.sqlite_store.proofs.ListingLemmas.{all_ordered}
use Rattle.sql_rows.specs.Shaped.{AreShaped}
use Rattle.sql_rows.specs.Migration.{schema_of}
use Rattle.sql_rows.specs.Tables.{the_schema}
use Rattle.sql_rows.specs.declared.migration.SchemaVersion.{SchemaVersion}
use Rattle.sql_rows.specs.declared.migration.SchemaVersion.TheVariants.{First, Modify}
use Rattle.sql_rows.specs.declared.statement.Table.TheVariants.{Carrier, Lrn, Code, Block, OldVersion, Broadcast, Wait, OldClock, NextRouting, WindowSet, Version, Clock}
use Rattle.sql_store.specs.Migration.{AreOldShaped}
use Rattle.sql_store.specs.Opened.{WasOpened}
use Rattle.sql_store.specs.Store.{AreShaped-prop}
use Rattle.sql_store.proofs.OpeningLemmas.{AreOldShaped-prop}
use Rattle.sql_store.proofs.OpeningLemmas.{old_shaped_by_laws, shaped_by_laws}

module _ (db : Trees) (none : IsEmpty db) where
  empty_at : (tree : ℕ) → tree < 2 ^ 32 → IsShaped AsTable (db tree)
  empty_at tree low = subst (IsShaped AsTable) (sym (none.0 tree low)) (tt, tt)

  empty_shaped : AreShaped db
  empty_shaped Carrier = empty_at 0 (omega arith)
  empty_shaped Lrn = empty_at 2 (omega arith)
  empty_shaped Code = empty_at 3 (omega arith)
  empty_shaped Block = empty_at 4 (omega arith)
  empty_shaped OldVersion = empty_at 5 (omega arith)
  empty_shaped Broadcast = empty_at 8 (omega arith)
  empty_shaped Wait = empty_at 10 (omega arith)
  empty_shaped OldClock = empty_at 12 (omega arith)
  empty_shaped NextRouting = empty_at 16 (omega arith)
  empty_shaped WindowSet = empty_at 17 (omega arith)
  empty_shaped Version = empty_at 18 (omega arith)
  empty_shaped Clock = empty_at 21 (omega arith)

  empty_old_shaped : (f : SchemaVersion) → AreOldShaped f db
  empty_old_shaped First = (
    empty_at 0 (omega arith),
    (
      empty_at 2 (omega arith),
      (
        empty_at 3 (omega arith),
        (
          empty_at 4 (omega arith),
          (
            empty_at 5 (omega arith),
            (
              empty_at 8 (omega arith),
              (empty_at 10 (omega arith), (empty_at 12 (omega arith), tt)),
            ),
          ),
        ),
      ),
    ),
  )
  empty_old_shaped Modify = (
    empty_at 0 (omega arith),
    (
      empty_at 2 (omega arith),
      (
        empty_at 3 (omega arith),
        (
          empty_at 4 (omega arith),
          (
            empty_at 5 (omega arith),
            (
              empty_at 8 (omega arith),
              (
                empty_at 10 (omega arith),
                (empty_at 12 (omega arith), (empty_at 16 (omega arith), tt)),
              ),
            ),
          ),
        ),
      ),
    ),
  )

-- The laws of a store hold for what was found in a file.
module _ (image : Image) (v : View) where
  by_laws : (A : Type 0) → IsProp A → AreFoundIn image v.trees → (IsEmpty v.trees → A)
      → ((w : View) → w.trees ≡ v.trees → IsListed (w.trees catalog_tree) w.shape w.reals
      → IsOrdered w.shape w.trees → A) → A
  by_laws A prop (inr nothing) empty listed = empty nothing.1
  by_laws A prop (inl found) empty listed = ∥∥₁_elim found.4 prop (λ ours.
      let size = found.0 in
      let pages = found.1 in
      let wanted = found.2 in
      let ordered : IsOrdered (all_shapes wanted) v.trees =
      subst (IsOrdered (all_shapes wanted)) (sym found.5)
      (all_ordered ours.file.db (version_in pages)) in
      let rows : v.trees catalog_tree ≡ listed_from 0 wanted =
      ap (λ (t : Trees). t catalog_tree) found.5 ∙ catalog_rows size wanted (in_use size pages) in
      let lists : IsListed (v.trees catalog_tree) (all_shapes wanted) (all_reals wanted) =
      subst (λ l. IsListed l (all_shapes wanted) (all_reals wanted)) (sym rows)
      (is_listed wanted) in
      listed (record v { shape = all_shapes wanted; reals = all_reals wanted }) refl lists ordered)

  shaped_in : AreFoundIn image v.trees → IsSound the_schema v.trees → AreShaped v.trees
  shaped_in found sound =
      by_laws (AreShaped v.trees) (AreShaped-prop v.trees) found (empty_shaped v.trees)
      (λ w same listed ordered. subst AreShaped same (shaped_by_laws w listed ordered
      (subst (IsSound the_schema) (sym same) sound)))

  old_shaped_in : (f : SchemaVersion) → AreFoundIn image v.trees → IsSound (schema_of f) v.trees
      → AreOldShaped f v.trees
  old_shaped_in f found sound = by_laws (AreOldShaped f v.trees) (AreOldShaped-prop f v.trees) found
      (λ none. empty_old_shaped v.trees none f) (λ w same listed ordered. subst (AreOldShaped f)
      same (old_shaped_by_laws f w listed ordered (subst (IsSound (schema_of f)) (sym same) sound)))

-- What was found in files is in order.
pub found_shaped : {D : Type 0} {g : Ghosts D} (image : Image) (c : Held (FileStore D g))
    → IsOpened c → AreFoundIn image (file_state c).committed.trees → WasOpened (file_state c)
found_shaped image c opened found =
    let here : AreFoundIn image (view c.store).trees =
    subst (AreFoundIn image) (sym (ap (λ (d : Database). d.trees) opened.0.clean)) found in
    record {
      opens = opened.0;
      live = opened.1;
      shaped = shaped_in image (view c.store) here;
      old_shaped = λ f. old_shaped_in image (view c.store) f here;
    }
