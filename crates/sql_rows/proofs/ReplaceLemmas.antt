-- A row inserted in place of the one with its key is deleted and then inserted.
use Rattle.std.proofs.Common.{◌≡◌, ◌≢◌, ℕ, ℤ, pos, List, [], ◌∷◌, map, filter, Bool, true, false, not, cond, ◌&&◌, ◌||◌, Option, Some, None, Ok, Err, Equal, refl, sym, ap, subst, ◌∙◌, true≢false, IsTrue, inl, inr}
use Rattle.std.specs.Prelude.{if◌then◌else◌, length, ◌/◌, ◌+◌, drop, IfSome}
use Rattle.std.specs.List.{AllByRecursion, list_all, list_any}
use Rattle.std.specs.Ordering.{is_eq}
use Rattle.std.proofs.lemmas.Option.{none-some}
use Rattle.sqlite.specs.declared.types.Value.{Value}
use Rattle.sqlite.specs.declared.types.Value.TheVariants.{Null, Int, Real, Text, Blob}
use Rattle.sqlite.specs.Ops.{binary, is_true}
use Rattle.sqlite.specs.Order.{Row, column, value_cmp}
use Rattle.sqlite.specs.Kind.{Kind}
use Rattle.sqlite.specs.Kind.TheVariants as kind
use Rattle.sqlite.specs.Cast.{cast, cast_all, cast_row}
use Rattle.sqlite.specs.Term.{eval_all}
use Rattle.sqlite.specs.Table.{Table as SqlTable}
use Rattle.sqlite.specs.Tree.{Trees, put_row, rowid}
use Rattle.sqlite.specs.View.{IsShaped, is_int}
use Rattle.sqlite.specs.Edit.{Edit, edit_of, put_all, are_fresh, is_taken, next_rowid, with_rowid, without_all}
use Rattle.sqlite.specs.Rowids.TheVariants.{Chosen, Above, Given}
use Rattle.sqlite_trees.specs.declared.store.Shape.TheVariants.{Table as AsTable}
use Rattle.sqlite_schema.specs.declared.schema.Column.{Column}
use Rattle.sqlite_schema.specs.declared.command.Conflict.TheVariants.{Replace}
use Rattle.sqlite_schema.specs.Names.{is_key}
use Rattle.sqlite_schema.specs.Rules.{are_typed, has_affinity, is_of, suits}
use Rattle.sqlite_sql.specs.Ops.{is_null}
use Rattle.sqlite_value.specs.Keys.{first_key}
use Rattle.sqlite_rules.specs.declared.error.Refusal.{Refusal}
use Rattle.sqlite_rules.specs.Keys.{AreConflicts, conflicts}
use Rattle.sqlite_rules.specs.Lists.{Has}
use Rattle.sqlite_rules.specs.Calls.{ids_of}
use Rattle.sqlite_rules.specs.Steps.{IsJudged}
use Rattle.sqlite_rules.proofs.PlaceLemmas.{next_is_free}
use Rattle.sqlite_rules.proofs.TableLemmas.{int_is}
use Rattle.sqlite.specs.Does.{Tally, Does}
use Rattle.sqlite.specs.Source.TheVariants.{Values}
use Rattle.sqlite.specs.Rows.{Clears, InsertsOr, Judged, Puts, Task, Tries, TriesEach, Written, count_of, mended, mended_from, nothing, rowids_for, stamped}
use Rattle.sqlite.specs.Effect.{Database, value_rows}
use Rattle.sqlite.specs.Listing.{understood}
use Rattle.sqlite.specs.State.{State, mode_of, Executes}
use Rattle.sqlite.proofs.Callers.{statement_of, runs_as, one_step}
use Rattle.sql_rows.specs.Tables.{the_schema, the_indexes}
use Rattle.sql_rows.specs.Statements.{insert_terms, key_test, replace_command, replace_text, slot_of, table_of, tree_of, width_of}
use Rattle.sql_rows.specs.declared.statement.Table.{Table}
use Rattle.sql_rows.specs.declared.statement.Table.TheVariants.{Carrier, Lrn, Code, Block, OldVersion, Broadcast, Wait, OldClock, NextRouting, WindowSet, Version, Clock}
use Rattle.sql_rows.specs.Written.{Added, IsFrame, IsKeyOf, Removed, Replaced, cast_rows, key_of, passes}
use Rattle.sql_rows.proofs.Casts.{cast_int, cast_null}
use Rattle.sql_rows.proofs.DeleteLemmas.{deleted_each, int_at}
use Rattle.sql_rows.proofs.KeyTests.{both, equals}
use Rattle.sql_rows.proofs.MigrationLemmas.{went, same_value}
use Rattle.sql_rows.proofs.OnceLemmas.{true_of}
use Rattle.sql_rows.proofs.StatementLemmas.{replace_is, replace_plain}
use Rattle.sql_rows.proofs.WriteLemmas.{counts_nothing, framed, fresh_first, slot_is, uncounted}

-- ---- a row that fits its columns is stored as it is

abbrev is_simple : Kind → Bool
is_simple kind.Integer = true
is_simple kind.Text = true
is_simple _ = false

-- Whether the column is strict, has whole numbers or texts, and is NULL by default.
abbrev is_plain : Column → Bool
is_plain c = c.is_strict && (is_null c.default && is_simple c.kind)

both_hold : (a b : Bool) → (a && b) ≡ true → (a ≡ true) × (b ≡ true)
both_hold true b h = (refl, h)
both_hold false b h = absurd (true≢false (sym h))

null_is : (v : Value) → is_null v ≡ true → v ≡ Null
null_is Null h = refl
null_is (Int n) h = absurd (true≢false (sym h))
null_is (Real x) h = absurd (true≢false (sym h))
null_is (Text t) h = absurd (true≢false (sym h))
null_is (Blob b) h = absurd (true≢false (sym h))

cast_of_null : (k : Kind) → is_simple k ≡ true → cast k Null ≡ Null
cast_of_null kind.Integer simple = cast_null
cast_of_null kind.Text simple = refl
cast_of_null kind.Real simple = absurd (true≢false (sym simple))
cast_of_null kind.Blob simple = absurd (true≢false (sym simple))
cast_of_null kind.Any simple = absurd (true≢false (sym simple))

cast_of : (k : Kind) (v : Value) → is_simple k ≡ true → is_of k v ≡ true → cast k v ≡ v
cast_of kind.Integer Null simple fits = cast_null
cast_of kind.Integer (Int n) simple fits = cast_int n
cast_of kind.Integer (Real x) simple fits = absurd (true≢false (sym fits))
cast_of kind.Integer (Text t) simple fits = absurd (true≢false (sym fits))
cast_of kind.Integer (Blob b) simple fits = absurd (true≢false (sym fits))
cast_of kind.Text Null simple fits = refl
cast_of kind.Text (Int n) simple fits = absurd (true≢false (sym fits))
cast_of kind.Text (Real x) simple fits = absurd (true≢false (sym fits))
cast_of kind.Text (Text t) simple fits = refl
cast_of kind.Text (Blob b) simple fits = absurd (true≢false (sym fits))
cast_of kind.Real v simple fits = absurd (true≢false (sym simple))
cast_of kind.Blob v simple fits = absurd (true≢false (sym simple))
cast_of kind.Any v simple fits = absurd (true≢false (sym simple))

cast_fitting : (is_id : Bool) (c : Column) (v : Value) → is_plain c ≡ true
    → (if is_id then is_null v else suits c v) ≡ true → cast c.kind v ≡ v
cast_fitting true c v plain fits =
    let simple = (both_hold _ _ (both_hold _ _ plain).1).1 in
    subst (λ w. cast c.kind w ≡ w) (sym (null_is v fits)) (cast_of_null c.kind simple)
cast_fitting false c v plain fits =
    let simple = (both_hold _ _ (both_hold _ _ plain).1).1 in
    cast_of c.kind v simple
    (subst (λ b. (if b then is_of c.kind v else has_affinity c.kind v) ≡ true)
    (both_hold _ _ plain).0 fits)

cast_typed : (key : Option ℕ) (at : ℕ) (columns : List Column) (values : Row)
    → list_all is_plain columns ≡ true → are_typed key at columns values ≡ true
    → cast_all columns values ≡ values
cast_typed key at [] values plain typed = refl
cast_typed key at (c ∷ columns) [] plain typed = refl
cast_typed key at (c ∷ columns) (v ∷ values) plain typed =
    let each = both_hold _ _ plain in
    let fits = both_hold _ _ typed in
    rw (
      cast_fitting (is_key key at) c v each.0 fits.0,
      cast_typed key (at + 1) columns values each.1 fits.1,
    ) refl

row_whole : (row : Row) → is_int (rowid row) ≡ true → rowid row ∷ drop 1 row ≡ row
row_whole [] int = absurd (true≢false (sym int))
row_whole (v ∷ row) int = refl

plain_columns : (t : Table) → list_all is_plain (table_of t).columns ≡ true
plain_columns Carrier = refl
plain_columns Lrn = refl
plain_columns Code = refl
plain_columns Block = refl
plain_columns OldVersion = refl
plain_columns Broadcast = refl
plain_columns Wait = refl
plain_columns OldClock = refl
plain_columns NextRouting = refl
plain_columns WindowSet = refl
plain_columns Version = refl
plain_columns Clock = refl

-- A row that its table accepts is stored as it is.
cast_again : (t : Table) (row : Row) → IsJudged (table_of t) row None
    → cast_row (table_of t) row ≡ row
cast_again t row judged =
    let table = table_of t in
    let typed = both_hold _ _ judged.1 in
    ap (λ v. v ∷ cast_all table.columns (drop 1 row))
    (ap (cast kind.Integer) (int_is (rowid row) judged.0) ∙ cast_int _
    ∙ sym (int_is (rowid row) judged.0))
    ∙ ap (λ l. rowid row ∷ l)
    (cast_typed table.key 0 table.columns (drop 1 row) (plain_columns t) typed.0)
    ∙ row_whole row judged.0

-- ---- no value is replaced by a default

default_same : (a k : Bool) (d v : Value) → d ≡ Null → (if a && is_null v && k then d else v) ≡ v
default_same false k d v e = refl
default_same true true d Null e = e
default_same true false d Null e = refl
default_same true k d (Int n) e = refl
default_same true k d (Real x) e = refl
default_same true k d (Text t) e = refl
default_same true k d (Blob b) e = refl

mended_same : (key : Option ℕ) (at : ℕ) (columns : List Column) (values : Row)
    → list_all is_plain columns ≡ true → mended_from key at columns values ≡ values
mended_same key at [] values plain = refl
mended_same key at (c ∷ columns) [] plain = refl
mended_same key at (c ∷ columns) (v ∷ values) plain =
    let each = both_hold _ _ plain in
    let null = (both_hold _ _ (both_hold _ _ each.0).1).0 in
    rw (
      default_same c.not_null (not (is_key key at)) c.default v (null_is c.default null),
      mended_same key (at + 1) columns values each.1,
    ) refl

cast_mended : (t : Table) (row : Row)
    → cast_row (table_of t) (mended Replace (table_of t) row) ≡ cast_row (table_of t) row
cast_mended t row =
    ap (λ l. cast kind.Integer (rowid row) ∷ cast_all (table_of t).columns l)
    (mended_same (table_of t).key 0 (table_of t).columns (drop 1 row) (plain_columns t))

-- ---- the row of the parameters

one_source : (t : Table) (p : Row)
    → value_rows p (width_of t) (length (insert_terms t) / width_of t) (insert_terms t)
    ≡ eval_all (insert_terms t) (p ∷ []) ∷ []
one_source Carrier p = refl
one_source Lrn p = refl
one_source Code p = refl
one_source Block p = refl
one_source OldVersion p = refl
one_source Broadcast p = refl
one_source Wait p = refl
one_source OldClock p = refl
one_source NextRouting p = refl
one_source WindowSet p = refl
one_source Version p = refl
one_source Clock p = refl

-- The row that the statement inserts, before its rowid is chosen.
abbrev source_row : Table → Row → Row
source_row t params = eval_all (insert_terms t) (stamped (table_of t) params ∷ [])

-- The row that the statement inserts.
abbrev row_from : Table → Row → Trees → Row
row_from t params db =
    with_rowid Chosen (db (tree_of t)) (cast_row (table_of t) (source_row t params))

one_row : (t : Table) (params : Row) (db : Trees)
    → cast_rows t params db ≡ row_from t params db ∷ []
one_row t params db = ap (λ all. (edit_of db (table_of t) [] Chosen 0 all).news)
    (one_source t (stamped (table_of t) params))

pub same_first : (x y : Row) → ◌≡◌ {A = List Row} (x ∷ []) (y ∷ []) → x ≡ y
same_first x y e = cc

-- ---- the rows in conflict are those with the key

numbered_test : (b : Bool) → ((b && true) || false) ≡ both (b ∷ [])
numbered_test true = refl
numbered_test false = refl

one_test : (a b : Bool) → a ≡ false → ((a && true) || ((b && true) || false)) ≡ both (b ∷ [])
one_test true b e = absurd (true≢false e)
one_test false true e = refl
one_test false false e = refl

two_tests : (a b c : Bool) → a ≡ false
    → ((a && true) || ((b && (c && true)) || false)) ≡ both (b ∷ c ∷ [])
two_tests true b c e = absurd (true≢false e)
two_tests false true true e = refl
two_tests false true false e = refl
two_tests false false c e = refl

four_tests : (a b c d f : Bool) → a ≡ false
    → ((a && true) || ((b && (c && (d && (f && true)))) || false)) ≡ both (b ∷ c ∷ d ∷ f ∷ [])
four_tests true b c d f e = absurd (true≢false e)
four_tests false true true true true e = refl
four_tests false true true true false e = refl
four_tests false true true false f e = refl
four_tests false true false d f e = refl
four_tests false false c d f e = refl

-- Holds if the rowids differ, in a table with a key of its own.
abbrev IsApart : Table → Row → Row → Type 0
IsApart t row r = (table_of t).key ≡ None → equals (column r 0) (column row 0) ≡ false

conflict_is : (t : Table) → IfSome (replace_text t) (λ text. (row r : Row) → IsApart t row r
    → conflicts None the_indexes (table_of t) row r ≡ passes (key_test t) (key_of t row) r)
unfolding first_key
conflict_is Carrier = λ row r apart. one_test (equals (column r 0) (column row 0)) _ (apart refl)
conflict_is Lrn = λ row r apart. numbered_test _
conflict_is Code = λ row r apart. numbered_test _
conflict_is Block = λ row r apart. numbered_test _
conflict_is OldVersion = tt
conflict_is Broadcast = λ row r apart.
    two_tests (equals (column r 0) (column row 0)) (equals (column r 1) (column row 1))
    (equals (column r 2) (column row 2)) (apart refl)
conflict_is Wait = λ row r apart.
    four_tests (equals (column r 0) (column row 0)) (equals (column r 1) (column row 1))
    (equals (column r 2) (column row 2)) (equals (column r 3) (column row 3))
    (equals (column r 4) (column row 4)) (apart refl)
conflict_is OldClock = tt
conflict_is NextRouting = λ row r apart. numbered_test _
conflict_is WindowSet = λ row r apart. numbered_test _
conflict_is Version = tt
conflict_is Clock = λ row r apart. numbered_test _

-- ---- a chosen rowid is free

equal_ints : (v w : Value) → is_int v ≡ true → is_int w ≡ true
    → equals v w ≡ is_eq (value_cmp v w)
unfolding binary
equal_ints (Int m) (Int n) x y = true_of _
equal_ints (Int m) Null x y = absurd (true≢false (sym y))
equal_ints (Int m) (Real r) x y = absurd (true≢false (sym y))
equal_ints (Int m) (Text t) x y = absurd (true≢false (sym y))
equal_ints (Int m) (Blob b) x y = absurd (true≢false (sym y))
equal_ints Null w x y = absurd (true≢false (sym x))
equal_ints (Real r) w x y = absurd (true≢false (sym x))
equal_ints (Text t) w x y = absurd (true≢false (sym x))
equal_ints (Blob b) w x y = absurd (true≢false (sym x))

neither : (a b : Bool) → (a || b) ≡ false → (a ≡ false) × (b ≡ false)
neither true b h = absurd (true≢false h)
neither false b h = (refl, h)

not_taken : (rows : List Row) (row r : Row) → is_taken rows row ≡ false → Has rows r
    → is_eq (value_cmp (rowid r) (rowid row)) ≡ false
not_taken [] row r free at = absurd at
not_taken (x ∷ rows) row r free (inl same) =
    ap (λ y. is_eq (value_cmp (rowid y) (rowid row))) same ∙ (neither _ _ free).0
not_taken (x ∷ rows) row r free (inr at) = not_taken rows row r (neither _ _ free).1 at

-- The rowid of a new row of a table with a key of its own.
rowid_chosen : (t : Table) → (table_of t).key ≡ None → (params : Row) (db : Trees)
    → row_from t params db ≡ Int (next_rowid (db (tree_of t))) ∷ drop 1 (row_from t params db)
rowid_chosen Carrier none params db = rw cast_null refl
rowid_chosen Broadcast none params db = rw cast_null refl
rowid_chosen Wait none params db = rw cast_null refl
rowid_chosen Lrn none params db = absurd (none-some _ (sym none))
rowid_chosen Code none params db = absurd (none-some _ (sym none))
rowid_chosen Block none params db = absurd (none-some _ (sym none))
rowid_chosen OldVersion none params db = absurd (none-some _ (sym none))
rowid_chosen OldClock none params db = absurd (none-some _ (sym none))
rowid_chosen NextRouting none params db = absurd (none-some _ (sym none))
rowid_chosen WindowSet none params db = absurd (none-some _ (sym none))
rowid_chosen Version none params db = absurd (none-some _ (sym none))
rowid_chosen Clock none params db = absurd (none-some _ (sym none))

apart_from : (t : Table) (params : Row) (db : Trees) → IsShaped AsTable (db (tree_of t))
    → (r : Row) → Has (db (tree_of t)) r → IsApart t (row_from t params db) r
apart_from t params db shaped r at none =
    let rows = db (tree_of t) in
    let row = row_from t params db in
    let is = rowid_chosen t none params db in
    let free : is_taken rows row ≡ false = subst (λ l. is_taken rows l ≡ false) (sym is)
    (next_is_free Chosen rows (drop 1 row) shaped.0 shaped.1) in
    let int : is_int (rowid row) ≡ true = ap (λ l. is_int (rowid l)) is in
    equal_ints (rowid r) (rowid row) (int_at rows r shaped.1 at) int ∙ not_taken rows row r free at

-- ---- the statement

module _ (t : Table) (text : List ℕ) (is : replace_text t ≡ Some text) (params : Row)
    (old new : State) (has : old.now.schema ≡ the_schema) (count : ℕ)
    (shaped : IsShaped AsTable (old.now.trees (tree_of t))) where
  abbrev db : Trees
  db = old.now.trees

  abbrev row : Row
  row = row_from t params db

  abbrev task : Task
  task = record {
    limit = old.step_limit;
    keys = (mode_of old).keys;
    schema = the_schema;
    table = table_of t;
    params = params;
  }

  -- Holds if the row was inserted into these tables.
  abbrev Inserted : Trees → Trees → Type 0
  Inserted mid next =
      Added t row (record { schema = the_schema; trees = mid }) (record {
        schema = the_schema;
        trees = next;
      })

  puts : IsJudged (table_of t) row None → (mid : Trees) (w : Written) → Puts task row mid (Ok w)
      → Inserted mid w.trees
  puts judged mid w h =
      let put = went h in
      let edit = edit_of mid (table_of t) [] Given 0 (row ∷ []) in
      let applies = one_step the_schema _ mid put.0 edit refl put.1 in
      let news : edit.news ≡ row ∷ [] = ap (λ r. r ∷ []) (cast_again t row judged) in
      let trees : w.trees ≡ put.0 = ap (λ (it : Written). it.trees) (same_value put.2) in
      let alone : are_fresh (mid (tree_of t)) (row ∷ []) ≡ true =
      subst (λ l. are_fresh (mid (tree_of t)) l ≡ true) news applies.fresh in
      record {
        schema = refl;
        free = fresh_first _ _ alone;
        rows = ap (λ n. n (tree_of t)) trees ∙ applies.rows ∙ ap (put_all (mid (tree_of t))) news;
        frame = subst (IsFrame t mid) (sym trees) (framed t mid put.0 applies.tables);
      }

  conflicts_are : (r : Row) → Has (db (tree_of t)) r
      → conflicts None the_indexes (table_of t) row r ≡ passes (key_test t) (key_of t row) r
  conflicts_are r at = subst (λ o. IfSome o (λ text. (row r : Row) → IsApart t row r
      → conflicts None the_indexes (table_of t) row r ≡ passes (key_test t) (key_of t row) r)) is
      (conflict_is t) row r (apart_from t params db shaped r at)

  kept : (found : List Row)
      → AreConflicts None the_indexes (table_of t) (db (tree_of t)) row found
      → without_all (db (tree_of t)) (ids_of found)
      ≡ filter (λ r. not (passes (key_test t) (key_of t row) r)) (db (tree_of t))
  kept found are = deleted_each (passes (key_test t) (key_of t row)) (db (tree_of t)) shaped.0
      shaped.1 found (λ x at.
      let s = are.sound x at in (s.0, s.1, sym (conflicts_are s.0 s.1) ∙ s.2, s.3))
      (λ r at is. are.complete r at (conflicts_are r at ∙ is))

  -- Holds if the row with the key was deleted, and then the row was inserted.
  abbrev Exchanged : Trees → Type 0
  Exchanged next =
      (mid : Trees) × Removed t (key_of t row) old.now (record { schema = the_schema; trees = mid })
      × Inserted mid next

  clears : IsJudged (table_of t) row None → (found : List Row)
      → AreConflicts None the_indexes (table_of t) (db (tree_of t)) row found → (w : Written)
      → Clears task Replace row db found (Ok w) → Exchanged w.trees
  clears judged [] are w h = (
    db,
    record { schema = refl; rows = kept [] are; frame = λ u apart. refl },
    puts judged db w h,
  )
  clears judged (x ∷ found) are w h =
      let first = went h in
      let edit = edit_of db (table_of t) (ids_of (x ∷ found)) Given 0 [] in
      let applies = one_step the_schema _ db first.0 edit refl first.1 in (
        first.0,
        record {
          schema = refl;
          rows = applies.rows ∙ kept (x ∷ found) are;
          frame = framed t db first.0 applies.tables;
        },
        puts judged first.0 w first.2,
      )

  judged_so : (w : Written) (verdict : Option Refusal) → IsJudged (table_of t) row verdict
      → Judged task Replace [] row db verdict (Ok w) → Exchanged w.trees
  judged_so w None judged h = clears judged h.0 h.1 w h.2
  judged_so w (Some why) judged h = absurd (let e = h in cc)

  tries : (w : Written) → Tries task Replace [] row db (Ok w) → Exchanged w.trees
  tries w (inl refused) = absurd (let e = refused.1 in cc)
  tries w (inr it) = judged_so w it.0 it.1 it.2

  inserts : (w : Written)
      → InsertsOr task Replace [] (Values (insert_terms t) (width_of t)) db (Ok w)
      → Exchanged w.trees
  inserts w h =
      let given = went h in
      let counter = went given.2 in
      let tried = went counter.2 in
      let counted = went tried.2 in
      let top = count_of counter.0 in
      let source = source_row t params in
      let rows : given.0 ≡ source ∷ [] = given.1.1 ∙ one_source t (stamped (table_of t) params) in
      let first = went (subst (λ l. TriesEach task Replace [] l top (nothing db) (Ok tried.0)) rows
      tried.1) in
      let is_row : with_rowid (rowids_for (table_of t) top) (db (tree_of t))
      (cast_row (table_of t) (mended Replace (table_of t) source)) ≡ row =
      ap (λ b. with_rowid (if b then Above top else Chosen) (db (tree_of t))
      (cast_row (table_of t) (mended Replace (table_of t) source))) (uncounted t)
      ∙ ap (with_rowid Chosen (db (tree_of t))) (cast_mended t source) in
      let same : w.trees ≡ first.0.trees =
      ap (λ (it : Written). it.trees) (same_value counted.2)
      ∙ sym (counts_nothing (table_of t).is_counted (uncounted t) _ _ _ _ _ counted.1)
      ∙ ap (λ (it : Written × ℤ). it.0.trees) (same_value first.2) in
      subst Exchanged (sym same)
      (tries first.0 (subst (λ r. Tries task Replace [] r db (Ok first.0)) is_row first.1))

  exchanged : Executes text params old new (Ok count) → (new.now.schema ≡ the_schema)
      × Exchanged new.now.trees
  exchanged h =
      let w = runs_as text params old new the_schema has (replace_command t) (replace_is t text is)
      (replace_plain t text is) count h in
      let what = statement_of text (understood the_schema text) in
      let did = subst (λ s. Does old.step_limit (mode_of old) params (record old.now { schema = s })
      what None (replace_command t) (Ok (w.tally, new.now))) has w.changed in
      let done = went (rw (slot_is t) at did) in
      let now = ap (λ (p : Tally × Database). p.1) (same_value (went (went done.2).2).2) in (
        ap (λ (d : Database). d.schema) now,
        subst Exchanged (sym (ap (λ (d : Database). d.trees) now)) (inserts done.0 done.1),
      )

  -- The statement deletes the row with the key and inserts the row.
  pub exchanges : (key : Row) → IsKeyOf t key params → Executes text params old new (Ok count)
      → Replaced t key params old.now new.now
  exchanges key keyed h =
      let it = exchanged h in
      let put = it.1.2 in
      let mid : Database = record { schema = the_schema; trees = it.1.0 } in
      record {
        mid = mid;
        removed = subst (λ k. Removed t k old.now mid) (keyed db row (one_row t params db)) it.1.1;
        added = record {
          base = db;
          adds = λ other news. subst (λ r. Added t r mid new.now)
              (same_first row other (sym (one_row t params db) ∙ news)) (record {
                schema = it.0;
                free = put.free;
                rows = put.rows;
                frame = put.frame;
              });
        };
      }
