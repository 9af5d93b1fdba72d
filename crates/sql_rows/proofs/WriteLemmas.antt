-- The effects of the writing statements on the tables.
use Rattle.std.proofs.Common.{◌≡◌, ◌≢◌, ℕ, List, [], ◌∷◌, map, filter, slice_get, Bool, true, false, not, Some, None, Ok, Result, refl, sym, ap, subst, ◌∙◌, ◌&&◌, true≢false}
use Rattle.std.specs.Prelude.{if◌then◌else◌, MatchBool}
use Rattle.std.specs.List.{AllByRecursion}
use Rattle.sqlite.specs.declared.types.Value.TheVariants.{Null}
use Rattle.std.specs.List.Sorted.{IsPermutation}
use Rattle.sqlite.specs.Order.{Row, column}
use Rattle.sqlite.specs.Table.{Table as SqlTable}
use Rattle.sqlite.specs.Query.{IsAnswer}
use Rattle.sqlite.specs.Program.{overlay}
use Rattle.sqlite.specs.Tree.{Trees}
use Rattle.sqlite.specs.View.{IsShaped}
use Rattle.sqlite.specs.Edit.{edit_of, put_all, are_fresh}
use Rattle.sqlite.specs.Rowids.TheVariants.{Chosen, Above, Given}
use Rattle.sqlite_trees.specs.declared.store.Shape.TheVariants.{Table as AsTable}
use Rattle.sqlite_rules.specs.Calls.{ids_of}
use Rattle.sqlite.specs.Does.{Tally, Does}
use Rattle.sqlite.specs.Source.{Source}
use Rattle.sqlite.specs.Source.TheVariants.{Values}
use Rattle.sqlite.specs.Rows.{Written, Task, Sourced, Edited, Inserts, count_of, stamped}
use Rattle.sqlite.specs.Effect.{Database}
use Rattle.sqlite.specs.Listing.{understood}
use Rattle.sqlite.specs.State.{State, mode_of, Executes}
use Rattle.sqlite.specs.Command.TheVariants.{Delete}
use Rattle.sqlite.specs.Term.{Term, col}
use Rattle.sqlite.proofs.Callers.{IsPlain, command_of, statement_of, runs_as, one_step}
use Rattle.sql_rows.specs.Migration.{IsCleared, clear_text, table_of_old}
use Rattle.sql_rows.specs.declared.migration.OldTable.{OldTable}
use Rattle.sql_rows.proofs.MigrationLemmas.{clear_is, clear_plain, went, same_value}
use Rattle.sql_rows.specs.Tables.{the_schema}
use Rattle.sql_rows.specs.Statements.{plain_query, slot_of, table_of, tree_of, key_test, delete_text, insert_text, insert_terms, width_of, insert_command}
use Rattle.sql_rows.specs.declared.statement.Table.{Table}
use Rattle.sql_rows.specs.declared.statement.Table.TheVariants.{Carrier, Lrn, Code, Block, OldVersion, Broadcast, Wait, OldClock, NextRouting, WindowSet, Version, Clock}
use Rattle.sql_rows.specs.Written.{IsFrame, Removed, Added, AddedBy, cast_rows}
use Rattle.sql_rows.proofs.StatementLemmas.{delete_is, delete_plain, insert_is, insert_plain}
use Rattle.sql_rows.proofs.QueryLemmas.{passes, plain_answer}
use Rattle.sql_rows.proofs.DeleteLemmas.{deleted}

pub slot_is : (t : Table) → slice_get the_schema.tables (slot_of t) ≡ Some (table_of t)
slot_is Carrier = refl
slot_is Lrn = refl
slot_is Code = refl
slot_is Block = refl
slot_is OldVersion = refl
slot_is Broadcast = refl
slot_is Wait = refl
slot_is OldClock = refl
slot_is NextRouting = refl
slot_is WindowSet = refl
slot_is Version = refl
slot_is Clock = refl

pub overlay_is : (t : Table) (db : Trees) → overlay db [] (tree_of t) ≡ db (tree_of t)
overlay_is Carrier db = refl
overlay_is Lrn db = refl
overlay_is Code db = refl
overlay_is Block db = refl
overlay_is OldVersion db = refl
overlay_is Broadcast db = refl
overlay_is Wait db = refl
overlay_is OldClock db = refl
overlay_is NextRouting db = refl
overlay_is WindowSet db = refl
overlay_is Version db = refl
overlay_is Clock db = refl

pub uncounted : (t : Table) → (table_of t).is_counted ≡ false
uncounted Carrier = refl
uncounted Lrn = refl
uncounted Code = refl
uncounted Block = refl
uncounted OldVersion = refl
uncounted Broadcast = refl
uncounted Wait = refl
uncounted OldClock = refl
uncounted NextRouting = refl
uncounted WindowSet = refl
uncounted Version = refl
uncounted Clock = refl

-- The effect of an INSERT on a table that counts no rowids.
record Unnumbered (task : Task) (from : Source) (db : Trees) (w : Written) : Type 0 where
  rows : List Row
  source : Sourced task.limit (record { schema = task.schema; trees = db })
      (stamped task.table task.params) from (Ok rows)
  next : Trees
  edited : Edited task.schema task.keys db (edit_of db task.table [] Chosen 0 rows) (Ok next)
  trees : w.trees ≡ next

-- The tables stay, if the table counts no rowids.
pub counts_nothing : (b : Bool) → b ≡ false → (c : Bool) (P : Type 0) (mid next : Trees)
    (E : Type 0)
    → MatchBool (if b then c else false) P (◌≡◌ {A = Result Trees E} (Ok next) (Ok mid))
    → mid ≡ next
counts_nothing false e c P mid next E h = sym (same_value h)
counts_nothing true e c P mid next E h = absurd (true≢false e)

unnumbered : (task : Task) → task.table.is_counted ≡ false
    → (from : Source) (db : Trees) (w : Written) → Inserts task from db (Ok w)
    → Unnumbered task from db w
unnumbered task none from db w h =
    let given = went h in
    let counter = went given.2 in
    let written = went counter.2 in
    let counted = went written.2 in
    let numbers = λ (b : Bool). if b then Above (count_of counter.0) else Chosen in
    let uncounted : written.0 ≡ counted.0 = counts_nothing task.table.is_counted none _ _ _ _ _
    counted.1 in
    record {
      rows = given.0;
      source = given.1;
      next = written.0;
      edited = subst (λ b. Edited task.schema task.keys db (edit_of db task.table [] (numbers b) 0
          given.0) (Ok written.0)) none written.1;
      trees = ap (λ (it : Written). it.trees) (same_value counted.2) ∙ sym uncounted;
    }

pub fresh_first : (taken rest : Bool) → (not taken && rest) ≡ true → taken ≡ false
fresh_first true rest h = absurd cc
fresh_first false rest h = refl

pub framed : (t : Table) (db next : Trees) → AllByRecursion (λ (s : SqlTable). s.tree ≢ tree_of t
    → next s.tree ≡ db s.tree) the_schema.tables → IsFrame t db next
framed t db next h Carrier = h.0
framed t db next h Lrn = h.1.0
framed t db next h Code = h.1.1.0
framed t db next h Block = h.1.1.1.0
framed t db next h OldVersion = h.1.1.1.1.0
framed t db next h Broadcast = h.1.1.1.1.1.0
framed t db next h Wait = h.1.1.1.1.1.1.0
framed t db next h OldClock = h.1.1.1.1.1.1.1.0
framed t db next h NextRouting = h.1.1.1.1.1.1.1.1.0
framed t db next h WindowSet = h.1.1.1.1.1.1.1.1.1.0
framed t db next h Version = h.1.1.1.1.1.1.1.1.1.1.0
framed t db next h Clock = h.1.1.1.1.1.1.1.1.1.1.1.0

module _ (t : Table) (params : Row) (old new : State) (has : old.now.schema ≡ the_schema)
    (count : ℕ) where
  -- The statement deletes the rows that pass the test.
  removes_by : (sql : List ℕ) (test : List Term) → command_of (understood the_schema sql)
      ≡ Delete (slot_of t) (record {
        lets = [];
        body = plain_query (tree_of t) test (col 1 0 ∷ []);
      }) → IsPlain (understood the_schema sql) →
      IsShaped AsTable (old.now.trees (tree_of t)) → Executes sql params old new (Ok count) →
      (new.now.schema ≡ the_schema)
      × (new.now.trees (tree_of t) ≡ filter (λ r. not (passes test params r))
      (old.now.trees (tree_of t))) × IsFrame t old.now.trees new.now.trees
  removes_by sql test is plain shaped h =
      let db = old.now.trees in
      let command = Delete (slot_of t) (record {
        lets = [];
        body = plain_query (tree_of t) test (col 1 0 ∷ []);
      }) in
      let w = runs_as sql params old new the_schema has command is plain count h in
      let text = statement_of sql (understood the_schema sql) in
      let did = subst (λ s. Does old.step_limit (mode_of old) params (record old.now { schema = s })
      text None command (Ok (w.tally, new.now))) has w.changed in
      let done = went (rw (slot_is t) at did) in
      let now = ap (λ (p : Tally × Database). p.1) (same_value (went (went done.2).2).2) in
      let found = went done.1 in
      let a : IsAnswer (plain_query (tree_of t) test (col 1 0 ∷ [])) (overlay db []) params
      found.0 = found.1.answer Null in
      let same = subst
      (λ rows. IsPermutation (map (λ r. column r 0 ∷ []) (filter (passes test params) rows))
      found.0) (overlay_is t db) (plain_answer (tree_of t) test _ (overlay db []) params found.0
      a) in
      let written = went found.2 in
      let trees : done.0.trees ≡ written.0 =
      ap (λ (it : Written). it.trees) (same_value written.2) in
      let applies =
      one_step the_schema _ db written.0 (edit_of db (table_of t) (ids_of found.0) Given 0 []) refl
      written.1 in
      let left = deleted (passes test params) (db (tree_of t)) shaped.0 shaped.1 found.0 same in
      let is : new.now.trees ≡ written.0 = ap (λ (d : Database). d.trees) now ∙ trees in (
        ap (λ (d : Database). d.schema) now,
        ap (λ n. n (tree_of t)) is ∙ applies.rows ∙ left,
        subst (IsFrame t db) (sym is) (framed t db written.0 applies.tables),
      )

  pub removes : IsShaped AsTable (old.now.trees (tree_of t))
      → Executes (delete_text t) params old new (Ok count) → Removed t params old.now new.now
  removes shaped h = let it = removes_by (delete_text t) (key_test t) (delete_is t) (delete_plain t)
      shaped h in record { schema = it.0; rows = it.1; frame = it.2 }

  adds : (row : Row) → cast_rows t params old.now.trees ≡ row ∷ []
      → Executes (insert_text t) params old new (Ok count) → Added t row old.now new.now
  adds row news h =
      let db = old.now.trees in
      let w = runs_as (insert_text t) params old new the_schema has (insert_command t) (insert_is t)
      (insert_plain t) count h in
      let text = statement_of (insert_text t) (understood the_schema (insert_text t)) in
      let did = subst (λ s. Does old.step_limit (mode_of old) params (record old.now { schema = s })
      text None (insert_command t) (Ok (w.tally, new.now))) has w.changed in
      let done = went (rw (slot_is t) at did) in
      let now = ap (λ (p : Tally × Database). p.1) (same_value (went (went done.2).2).2) in
      let given = unnumbered (record {
        limit = old.step_limit;
        keys = (mode_of old).keys;
        schema = the_schema;
        table = table_of t;
        params = params;
      }) (uncounted t) (Values (insert_terms t) (width_of t)) db done.0 done.1 in
      let next = given.next in
      let trees : done.0.trees ≡ next = given.trees in
      let edit = edit_of db (table_of t) [] Chosen 0 given.rows in
      let applies = one_step the_schema _ db next edit refl given.edited in
      let is_news : edit.news ≡ row ∷ [] =
      ap (λ all. (edit_of db (table_of t) [] Chosen 0 all).news) given.source.1 ∙ news in
      let is : new.now.trees ≡ next = ap (λ (d : Database). d.trees) now ∙ trees in
      let alone : are_fresh (db (tree_of t)) (row ∷ []) ≡ true =
      subst (λ l. are_fresh (db (tree_of t)) l ≡ true) is_news applies.fresh in
      record {
        schema = ap (λ (d : Database). d.schema) now;
        free = fresh_first _ _ alone;
        rows = ap (λ n. n (tree_of t)) is ∙ applies.rows ∙ ap (put_all (db (tree_of t))) is_news;
        frame = subst (IsFrame t db) (sym is) (framed t db next applies.tables);
      }

  pub inserts : Executes (insert_text t) params old new (Ok count)
      → AddedBy t params old.now new.now
  inserts h = record { base = old.now.trees; adds = λ row news. adds row news h }

none_left : (rows : List Row) → filter (λ r. false) rows ≡ []
none_left [] = refl
none_left (r ∷ rows) = none_left rows

-- The statement empties a table of an earlier schema.
pub clears : (t : OldTable) (old new : State) → old.now.schema ≡ the_schema → (count : ℕ)
    → IsShaped AsTable (old.now.trees (tree_of (table_of_old t)))
    → Executes (clear_text t) [] old new (Ok count) → IsCleared t old.now new.now
clears t old new has count shaped h =
    let it = removes_by (table_of_old t) [] old new has count (clear_text t) [] (clear_is t)
    (clear_plain t) shaped h in
    record {
      schema = it.0;
      rows = it.1 ∙ none_left (old.now.trees (tree_of (table_of_old t)));
      frame = it.2;
    }
