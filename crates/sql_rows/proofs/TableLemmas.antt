-- The effect of deleted and inserted rows on the maps.
use Rattle.std.proofs.Common.{◌≡◌, ◌==◌, inl, inr, List, [], ◌∷◌, Bool, true, false, cond, Option, Some, None, refl, sym, ap, subst, ◌∙◌}
use Rattle.std.proofs.lemmas.Bool.{cond-true, cond-false}
use Rattle.std.proofs.lemmas.Bool.Decides.{eqb_tells}
use Rattle.std.specs.declared.cmp.Ordering.{Ordering}
use Rattle.std.specs.Ordering.{eq_by_cmp}
use Rattle.std.specs.Cmp.{IsTotalOrder, eq_by_cmp_equiv}
use Rattle.std.specs.FinMap.{FinMap, get, insert, remove, get-insert, get-remove, same_map, IsAntisymmetric}
use Rattle.sqlite.specs.Order.{Row}
use Rattle.sqlite.specs.Tree.{Trees, rowid}
use Rattle.sqlite.specs.View.{IsShaped, is_int}
use Rattle.sqlite_trees.specs.declared.store.Shape.TheVariants.{Table as AsTable}
use Rattle.sqlite_trees.proofs.TreeLemmas.{IsShaped-put_row}
use Rattle.sqlite.specs.Effect.{Database}
use Rattle.sql_rows.specs.Content.{content_of, content_in}
use Rattle.sql_rows.specs.Shaped.{AreShaped}
use Rattle.sql_rows.specs.Statements.{tree_of, key_test}
use Rattle.sql_rows.specs.declared.statement.Table.{Table}
use Rattle.sql_rows.specs.declared.statement.Table.TheVariants.{Carrier, Lrn, Code, Block, Broadcast, Wait, NextRouting, WindowSet, Version, Clock}
use Rattle.sql_rows.proofs.QueryLemmas.{passes}
use Rattle.sql_rows.proofs.RowLemmas.{Tests, content_kept, content_added, put_adds}
use Rattle.sql_rows.proofs.DeleteLemmas.{filter_shaped}
use Rattle.sql_rows.specs.Written.{Removed, Replaced, IsFrame, cast_rows}

pub shaped_framed : (t : Table) (db next : Trees) → IsFrame t db next
    → IsShaped AsTable (next (tree_of t)) → AreShaped db → AreShaped next
shaped_framed t db next frame given shaped u = elim (eqb_tells (tree_of u) (tree_of t)) [
  | inl same ↦ subst (λ n. IsShaped AsTable (next n)) (sym same.1) given
  | inr other ↦ subst (IsShaped AsTable) (sym (frame u other.1)) (shaped u)
]

-- Deleting rows keeps the shape.
pub removed_shaped : (t : Table) (key : Row) (old new : Database) → AreShaped old.trees
    → Removed t key old new → AreShaped new.trees
removed_shaped t key old new shaped r =
    shaped_framed t old.trees new.trees r.frame (subst (IsShaped AsTable) (sym r.rows)
    (filter_shaped _ (old.trees (tree_of t)) (shaped t))) shaped

pub framed_twice : (t : Table) (a b c : Trees) → IsFrame t a b → IsFrame t b c → IsFrame t a c
framed_twice t a b c first second u other = second u other ∙ first u other

shadowed : {A : Type 0} (b : Bool) (x y z : A) → cond b x (cond b y z) ≡ cond b x z
shadowed true x y z = refl
shadowed false x y z = refl

-- Holds if the table's map is changed as wanted, and the other tables are unchanged.
pub record Leaves (t : Table) {K V : Type 0} (R : K → K → Ordering) (entry : Row
    → Option (K × V)) (wanted : FinMap R V → FinMap R V) (old new : Trees) : Type 0 where
  pub shaped : AreShaped new
  pub map : content_of R entry (new (tree_of t)) ≡ wanted (content_of R entry (old (tree_of t)))
  pub frame : IsFrame t old new

module _ (t : Table) {K V : Type 0} (R : K → K → Ordering) (o : IsTotalOrder R)
    (exact : IsAntisymmetric R) (entry : Row → Option (K × V)) (k : K) (key : Row)
    (tests : Tests R entry k (passes (key_test t) key)) where
  pub taken : (old new : Database) → AreShaped old.trees → Removed t key old new
      → Leaves t R entry (λ m. remove m k) old.trees new.trees
  taken old new shaped r = record {
    shaped = removed_shaped t key old new shaped r;
    map = ap (content_of R entry) r.rows ∙ content_kept R entry k (passes (key_test t) key) o tests
        exact (old.trees (tree_of t));
    frame = r.frame;
  }

  over : (m : FinMap R V) (v : V) → insert (remove m k) k v ≡ insert m k v
  over m v = same_map o exact _ _ (λ q.
      get-insert o (remove m k) k v q ∙ ap (cond (eq_by_cmp R q k) (Some v)) (get-remove o m k q)
      ∙ shadowed (eq_by_cmp R q k) (Some v) None (get m q) ∙ sym (get-insert o m k v q))

  -- A put row, with its rowid in the parameters or chosen, is inserted into the map.
  pub put : (params : Row) (row : Trees → Row) (v : V)
      → ((mid : Trees) → is_int (rowid (row mid)) ≡ true)
      → ((mid : Trees) → entry (row mid) ≡ Some (k, v)) → (old new : Database)
      → ((mid : Trees) → cast_rows t params mid ≡ row mid ∷ []) → AreShaped old.trees
      → Replaced t key params old new → Leaves t R entry (λ m. insert m k v) old.trees new.trees
  put params row v int reads old new news shaped r =
      let first = taken old r.mid shaped r.removed in
      let it = row r.added.base in
      let a = r.added.adds it (news r.added.base) in
      let free : get (content_of R entry (r.mid.trees (tree_of t))) k ≡ None =
      ap (λ (m : FinMap R V). get m k) first.map
      ∙ get-remove o (content_of R entry (old.trees (tree_of t))) k k
      ∙ ap (λ b. cond b None (get (content_of R entry (old.trees (tree_of t))) k))
      ((eq_by_cmp_equiv o).refl k) in
      record {
        shaped = shaped_framed t r.mid.trees new.trees a.frame
            (subst (IsShaped AsTable) (sym a.rows) (IsShaped-put_row it (r.mid.trees (tree_of t))
            (int r.added.base) (first.shaped t))) first.shaped;
        map = ap (content_of R entry) a.rows ∙ content_added o exact entry it k v
            (r.mid.trees (tree_of t)) _ (reads r.added.base) free
            (put_adds it (r.mid.trees (tree_of t)) a.free)
            ∙ ap (λ (m : FinMap R V). insert m k v) first.map
            ∙ over (content_of R entry (old.trees (tree_of t))) v;
        frame = framed_twice t old.trees r.mid.trees new.trees first.frame a.frame;
      }

-- ---- the content with one table changed

-- The trees with other rows in one table.
abbrev pub replaced : Table → List Row → Trees → Trees
replaced t rows db n = cond (n == tree_of t) rows (db n)

-- A change of one table changes the content only there.
pub content_framed : (t : Table) (db next : Trees) → IsFrame t db next
    → content_in next ≡ content_in (replaced t (next (tree_of t)) db)
content_framed t db next frame = rw (
  is Carrier,
  is Lrn,
  is Code,
  is Block,
  is Broadcast,
  is Wait,
  is NextRouting,
  is WindowSet,
  is Version,
  is Clock,
) refl
  where
    is : (u : Table) → next (tree_of u) ≡ replaced t (next (tree_of t)) db (tree_of u)
    is u = elim (eqb_tells (tree_of u) (tree_of t)) [
      | inl same ↦ ap next same.1
          ∙ sym (cond-true (tree_of u == tree_of t) (next (tree_of t)) (db (tree_of u)) same.0)
      | inr other ↦ frame u other.1
          ∙ sym (cond-false (tree_of u == tree_of t) (next (tree_of t)) (db (tree_of u)) other.0)
    ]
