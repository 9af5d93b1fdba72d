-- The effects of the statements on a file with an earlier schema.
use Rattle.std.proofs.Common.{◌≡◌, ◌⊎◌, inl, inr, ℕ, [], false, None, Ok, Err, Result, refl, sym, ap, subst, ◌∙◌}
use Rattle.sqlite.specs.Change.{KeepsRows, created, indexed, next_tree}
use Rattle.sqlite.specs.Command.TheVariants.{CreateIndex, CreateTable}
use Rattle.sqlite.specs.Compile.{index_defined_by, table_defined_by}
use Rattle.sqlite.specs.Does.{Does, Tally, lacks_sequence}
use Rattle.sqlite.specs.Effect.{Database}
use Rattle.sqlite.specs.Listing.{understood, reads_listing}
use Rattle.sqlite.specs.Schema.{Schema}
use Rattle.sqlite.specs.State.{State, mode_of, Executes, Writes}
use Rattle.sqlite.specs.Table.{Table}
use Rattle.sqlite.proofs.Callers.{IsPlain, command_of, runs_as, statement_of}
use Rattle.sqlite_tied.specs.Compute.{everything}
use Rattle.sql_rows.specs.Migration.{IsMade, IsTableOf, clear_command, clear_text, create_text, index_text, made_table, schema_after, schema_before, schema_of}
use Rattle.sql_rows.specs.Statements.{all_text, query_command}
use Rattle.sql_rows.specs.Tables.{the_schema, version2_deadline, version_table}
use Rattle.sql_rows.specs.declared.migration.SchemaVersion.{SchemaVersion}
use Rattle.sql_rows.specs.declared.migration.SchemaVersion.TheVariants.{First, Modify}
use Rattle.sql_rows.specs.declared.migration.NewTable.{NewTable}
use Rattle.sql_rows.specs.declared.migration.NewTable.TheVariants as made
use Rattle.sql_rows.specs.declared.migration.OldTable.{OldTable}
use Rattle.sql_rows.specs.declared.migration.OldTable.TheVariants as former
use Rattle.sql_rows.specs.declared.statement.Query.TheVariants.{All}
use Rattle.sql_rows.specs.declared.statement.Table.{Table as RowTable}
use Rattle.sql_rows.specs.declared.statement.Table.TheVariants as stored

-- ---- texts

-- A table as defined by its text only.
abbrev parsed : NewTable → Table
parsed t = record (made_table t) { tree = 0 }

create_is : (t : NewTable) → command_of (understood (schema_before t) (create_text t)) ≡ CreateTable
unfolding understood everything
create_is made.NextRouting = refl
create_is made.WindowSet = refl
create_is made.Version = refl
create_is made.Clock = refl

create_plain : (t : NewTable) → IsPlain (understood (schema_before t) (create_text t))
unfolding understood everything
create_plain made.NextRouting = (refl, refl)
create_plain made.WindowSet = (refl, refl)
create_plain made.Version = (refl, refl)
create_plain made.Clock = (refl, refl)

create_whole : (t : NewTable)
    → statement_of (create_text t) (understood (schema_before t) (create_text t)) ≡ create_text t
unfolding understood everything
create_whole made.NextRouting = refl
create_whole made.WindowSet = refl
create_whole made.Version = refl
create_whole made.Clock = refl

create_defines : (t : NewTable) → table_defined_by (create_text t) ≡ Ok (parsed t)
unfolding understood everything
create_defines made.NextRouting = refl
create_defines made.WindowSet = refl
create_defines made.Version = refl
create_defines made.Clock = refl

created_is : (t : NewTable) → created (schema_before t) (parsed t) ≡ schema_after t
unfolding understood everything
created_is made.NextRouting = refl
created_is made.WindowSet = refl
created_is made.Version = refl
created_is made.Clock = refl

tree_is : (t : NewTable) → next_tree (schema_before t) ≡ (made_table t).tree
tree_is made.NextRouting = refl
tree_is made.WindowSet = refl
tree_is made.Version = refl
tree_is made.Clock = refl

uncounted : (t : NewTable) → lacks_sequence (schema_after t) ≡ false
uncounted made.NextRouting = refl
uncounted made.WindowSet = refl
uncounted made.Version = refl
uncounted made.Clock = refl

index_is : (command_of (understood (schema_after made.Clock) index_text) ≡ CreateIndex 10)
    × (statement_of index_text (understood (schema_after made.Clock) index_text) ≡ index_text)
    × (index_defined_by version_table index_text ≡ Ok (record version2_deadline { tree = 0 }))
unfolding understood everything
index_is = (refl, refl, refl)

index_plain : IsPlain (understood (schema_after made.Clock) index_text)
unfolding understood everything
index_plain = (refl, refl)

indexed_is : indexed (schema_after made.Clock) version_table (record version2_deadline { tree = 0 })
    ≡ the_schema
indexed_is = refl

pub clear_is : (t : OldTable) → command_of (understood the_schema (clear_text t)) ≡ clear_command t
unfolding understood everything
clear_is former.Version = refl
clear_is former.Clock = refl

pub clear_plain : (t : OldTable) → IsPlain (understood the_schema (clear_text t))
unfolding understood everything
clear_plain former.Version = (refl, refl)
clear_plain former.Clock = (refl, refl)

-- ---- the content of a file with an earlier schema reads unchanged

pub old_query_is : (f : SchemaVersion) (t : RowTable) → IsTableOf t f
    → command_of (understood (schema_of f) (all_text t)) ≡ query_command (All t)
unfolding understood everything
old_query_is First stored.Carrier is = refl
old_query_is Modify stored.Carrier is = refl
old_query_is First stored.Lrn is = refl
old_query_is Modify stored.Lrn is = refl
old_query_is First stored.Code is = refl
old_query_is Modify stored.Code is = refl
old_query_is First stored.Block is = refl
old_query_is Modify stored.Block is = refl
old_query_is First stored.OldVersion is = refl
old_query_is Modify stored.OldVersion is = refl
old_query_is First stored.Broadcast is = refl
old_query_is Modify stored.Broadcast is = refl
old_query_is First stored.Wait is = refl
old_query_is Modify stored.Wait is = refl
old_query_is First stored.OldClock is = refl
old_query_is Modify stored.OldClock is = refl
old_query_is First stored.NextRouting is = absurd is
old_query_is Modify stored.NextRouting is = refl
old_query_is f stored.WindowSet is = absurd is
old_query_is f stored.Version is = absurd is
old_query_is f stored.Clock is = absurd is

pub old_query_plain : (f : SchemaVersion) (t : RowTable) → IsTableOf t f
    → IsPlain (understood (schema_of f) (all_text t))
unfolding understood everything
old_query_plain First stored.Carrier is = (refl, refl)
old_query_plain Modify stored.Carrier is = (refl, refl)
old_query_plain First stored.Lrn is = (refl, refl)
old_query_plain Modify stored.Lrn is = (refl, refl)
old_query_plain First stored.Code is = (refl, refl)
old_query_plain Modify stored.Code is = (refl, refl)
old_query_plain First stored.Block is = (refl, refl)
old_query_plain Modify stored.Block is = (refl, refl)
old_query_plain First stored.OldVersion is = (refl, refl)
old_query_plain Modify stored.OldVersion is = (refl, refl)
old_query_plain First stored.Broadcast is = (refl, refl)
old_query_plain Modify stored.Broadcast is = (refl, refl)
old_query_plain First stored.Wait is = (refl, refl)
old_query_plain Modify stored.Wait is = (refl, refl)
old_query_plain First stored.OldClock is = (refl, refl)
old_query_plain Modify stored.OldClock is = (refl, refl)
old_query_plain First stored.NextRouting is = absurd is
old_query_plain Modify stored.NextRouting is = (refl, refl)
old_query_plain f stored.WindowSet is = absurd is
old_query_plain f stored.Version is = absurd is
old_query_plain f stored.Clock is = absurd is

pub old_query_unlisted : (f : SchemaVersion) (t : RowTable) → IsTableOf t f
    → reads_listing (schema_of f) (all_text t) ≡ false
unfolding understood everything
old_query_unlisted First stored.Carrier is = refl
old_query_unlisted Modify stored.Carrier is = refl
old_query_unlisted First stored.Lrn is = refl
old_query_unlisted Modify stored.Lrn is = refl
old_query_unlisted First stored.Code is = refl
old_query_unlisted Modify stored.Code is = refl
old_query_unlisted First stored.Block is = refl
old_query_unlisted Modify stored.Block is = refl
old_query_unlisted First stored.OldVersion is = refl
old_query_unlisted Modify stored.OldVersion is = refl
old_query_unlisted First stored.Broadcast is = refl
old_query_unlisted Modify stored.Broadcast is = refl
old_query_unlisted First stored.Wait is = refl
old_query_unlisted Modify stored.Wait is = refl
old_query_unlisted First stored.OldClock is = refl
old_query_unlisted Modify stored.OldClock is = refl
old_query_unlisted First stored.NextRouting is = absurd is
old_query_unlisted Modify stored.NextRouting is = refl
old_query_unlisted f stored.WindowSet is = absurd is
old_query_unlisted f stored.Version is = absurd is
old_query_unlisted f stored.Clock is = absurd is

-- ---- statements

-- A part that returned a value did not stop on the way.
pub went : {B E R : Type 0} {b : B} {Stops : E → Type 0}
    → ((stop : E) × Stops stop × (Ok b ≡ Err stop))
    ⊎ R → R
went (inl stopped) = absurd (let e = stopped.2 in cc)
went (inr on) = on

pub same_value : {B E : Type 0} {a b : B} → ◌≡◌ {A = Result B E} (Ok a) (Ok b) → a ≡ b
same_value e = cc

module _ (old new : State) (count : ℕ) where
  pub creates : (t : NewTable) → old.now.schema ≡ schema_before t
      → Executes (create_text t) [] old new (Ok count) → IsMade t old.now new.now
  creates t has h =
      let w = subst (λ text. Writes old new None CreateTable text [] count) (create_whole t)
      (runs_as (create_text t) [] old new (schema_before t) has CreateTable (create_is t)
      (create_plain t) count h) in
      let all = went w.changed in
      let first = went all.1 in
      let it = first.1 in
      let both : Ok it.table ≡ Ok (parsed t) = sym it.defined ∙ create_defines t in
      let same : it.table ≡ parsed t = cc in
      let schema : first.0.schema ≡ schema_after t = it.is ∙ ap (λ s. created s it.table) has
      ∙ ap (created (schema_before t)) same ∙ created_is t in
      let plain : lacks_sequence first.0.schema ≡ false = ap lacks_sequence schema ∙ uncounted t in
      let now : new.now ≡ first.0 = ap (λ (p : Tally × Database). p.1) (same_value all.2)
      ∙ same_value (rw plain at first.2) in
      record {
        schema = ap (λ (d : Database). d.schema) now ∙ schema;
        blank = ap (λ (d : Database). d.trees (made_table t).tree) now
            ∙ subst (λ n. first.0.trees n ≡ []) (ap next_tree has ∙ tree_is t) it.empty;
        others = subst (λ (d : Database). KeepsRows (schema_before t).tables old.now.trees d.trees)
            (sym now) (subst (λ (s : Schema). KeepsRows s.tables old.now.trees first.0.trees) has
            it.others);
      }

  -- After the index is created, the schema is the current one and all tables keep their rows.
  pub indexes : old.now.schema ≡ schema_after made.Clock → Executes index_text [] old new (Ok count)
      → (new.now.schema ≡ the_schema) × KeepsRows the_schema.tables old.now.trees new.now.trees
  indexes has h =
      let w = subst (λ text. Writes old new None (CreateIndex 10) text [] count) index_is.1
      (runs_as index_text [] old new (schema_after made.Clock) has (CreateIndex 10) index_is.0
      index_plain count h) in
      let did = subst (λ s. Does old.step_limit (mode_of old) [] (record old.now { schema = s })
      index_text None (CreateIndex 10) (Ok (w.tally, new.now))) has w.changed in
      let all = went did in
      let it = all.1 in
      let both : Ok it.index ≡ Ok (record version2_deadline { tree = 0 }) =
      sym it.defined ∙ index_is.2 in
      let same : it.index ≡ record version2_deadline { tree = 0 } = cc in
      let now : new.now ≡ all.0 = ap (λ (p : Tally × Database). p.1) (same_value all.2) in (
        ap (λ (d : Database). d.schema) now ∙ it.is
            ∙ ap (indexed (schema_after made.Clock) version_table) same ∙ indexed_is,
        subst (λ (d : Database). KeepsRows the_schema.tables old.now.trees d.trees) (sym now)
            it.rows,
      )
