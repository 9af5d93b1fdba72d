-- The migration of a file with an earlier schema.
use Rattle.std.proofs.Common.{subst₂, pos, Err, IfOk, IfErr, ◌≡◌, ◌≢◌, ◌⊎◌, inl, inr, ℕ, List, [], ◌∷◌, map, Bool, true, false, cond, Option, Some, None, Result, Ok, IsTrue, refl, sym, ap, subst, ◌∙◌, true≢false, arith, drop, zero, suc, ◌+◌, ◌<◌, ◌≤◌, length, get_or}
use Rattle.std.specs.Option.{option_or}
use Rattle.std.specs.Prelude.{◌==◌, ◌&&◌, IsSome, OnErr, OnOk, is_ok, option_map, option_to_list}
use Rattle.std.specs.Cmp.{eq_by_cmp_equiv, nat_cmp_total}
use Rattle.std.specs.FinMap.{FinMap, empty, get, get-empty, get-insert, same_map, nat_cmp-IsAntisymmetric}
use Rattle.std.specs.Ordering.{eq_by_cmp, nat_cmp}
use Rattle.sqlite.specs.declared.error.Error.{Error}
use Rattle.sqlite.specs.declared.types.Value.TheVariants.{Int, Null}
use Rattle.sqlite.specs.Effect.{Database}
use Rattle.sqlite.specs.Held.{Held, state}
use Rattle.sqlite.specs.Listing.{understood}
use Rattle.sqlite.specs.Order.{Row}
use Rattle.sqlite.specs.Program.{overlay}
use Rattle.sqlite.specs.Query.{IsAnswer}
use Rattle.sqlite.specs.State.{State, CommitsShowing, Executes, ExecutesInside, FailsToQuery, HasCleanDisk, IsRolledBack, IsUnchanged, Shown, Shows, Survives}
use Rattle.sqlite.specs.Store.{Ghosts}
use Rattle.sqlite.specs.Tree.{Trees}
use Rattle.sqlite.specs.View.{IsShaped}
use Rattle.sqlite.proofs.Callers.{IsPlain, reads_as}
use Rattle.sqlite.proofs.StateLemmas.{survives_then, survives_weaker}
use Rattle.sqlite_rules.specs.Lists.{Has}
use Rattle.sqlite_trees.specs.declared.store.Shape.TheVariants.{Table as AsTable}
use Rattle.model.specs.Content.{ClockRow, Content, VersionRow}
use Rattle.version.specs.Abstraction.{windows_of}
use Rattle.model.specs.Windows.{Windows}
use Rattle.numbers.proofs.Small.{same_number as itself, some_is}
use Rattle.sql_rows.specs.Clocks.{StoredClock, old_clock_of, with_windows}
use Rattle.sql_rows.specs.Content.{clock_entry, content_in, old_clock_in, set_entry, sets_in, stored_clock, versions_in}
use Rattle.sql_rows.specs.OldSchemas.{content_with, first_sets, old_clock, old_versions_in}
use Rattle.sql_rows.specs.Found.{IsListAnswer, IsSole}
use Rattle.sql_rows.specs.Migration.{IsCleared, IsMade, IsTableOf, schema_of}
use Rattle.sql_rows.specs.Shaped.{AreShaped}
use Rattle.sql_rows.specs.Statements.{all_text, query_of, query_text, tree_of}
use Rattle.sql_rows.specs.Tables.{the_schema}
use Rattle.sql_rows.specs.Versions.{bare, old_version_in, version_entry, version_params, version_row}
use Rattle.sql_rows.specs.declared.keyed.OldClock.{OldClock as ClockImpl}
use Rattle.sql_rows.specs.declared.migration.SchemaVersion.{SchemaVersion}
use Rattle.sql_rows.specs.declared.migration.SchemaVersion.TheVariants.{First, Modify}
use Rattle.sql_rows.specs.declared.migration.NewTable.TheVariants as made
use Rattle.sql_rows.specs.declared.migration.OldTable.{OldTable}
use Rattle.sql_rows.specs.declared.migration.OldTable.TheVariants as former
use Rattle.sql_rows.specs.declared.statement.Table.{Table as RowTable}
use Rattle.sql_rows.specs.declared.statement.Query.TheVariants.{All, OldVersionNumbered}
use Rattle.sql_rows.specs.declared.statement.Table.TheVariants.{Carrier, Lrn, Code, Block, OldVersion, Broadcast, Wait, OldClock, NextRouting, WindowSet, Version, Clock}
use Rattle.sql_rows.specs.declared.version_row.OldVersion.{OldVersion as OldRow}
use Rattle.sql_rows.proofs.Formers.{old_version_found, clock_seen, old_bare, old_clock_is, old_picked, old_rows, old_seen}
use Rattle.sql_rows.proofs.Orders.{same_number}
use Rattle.sql_rows.proofs.Picked.{Picks}
use Rattle.sql_rows.proofs.MigrationLemmas.{old_query_is, old_query_plain, old_query_unlisted}
use Rattle.sql_rows.proofs.PutLemmas.{version_left}
use Rattle.sql_rows.proofs.StatementLemmas.{query_is, query_plain, query_selects, query_unlisted}
use Rattle.sql_rows.proofs.TableLemmas.{framed_twice, content_framed, removed_shaped}
use Rattle.sql_store.specs.Changes.{if_some, with_set}
use Rattle.sql_store.specs.Migration.{MigratesInTransaction, AreOldShaped, ArePutBut, HasIds, IsBarePut, IsBegunAs, IsCarried, IsCarriedOver, AreRowsCopied, AreTablesCreated, IsIndexed, HasSchemaVersion, IsOldPut, IsOldDeleted, IsMigrated, AreTreesMigrated, AreOldRowsDeleted, HasMigrated, HasStayingRows, HasTheseWindows, HasDifferentWindows, all_of, all_old, ids_in, put_if, seen_of}
use Rattle.sql_store.specs.Store.{IsInTransaction, IsSame, IsSetPut, HasCommittedNothing, HasQueried, AppliesInTransaction, WritesInTransaction, Wrote}
use Rattle.sql_rows.proofs.Casts.{version_cast}
use Rattle.sql_store.specs.Whole.{EachReads, HasPresentSet}
use Rattle.sql_store.proofs.WholeLemmas.{moved_read, reads_replaced}
use Rattle.sql_store.proofs.TransactionLemmas.{undone_of}
use Rattle.sql_store.specs.Transactions.{HasEnded, IsUndone}
use Rattle.sql_store.proofs.CallLemmas.{begins_none, both_survive, call_keeps, earlier, fails_as, kept_settled, kept_then, looked_then, query_commits_nothing, query_err_leaves, query_leaves, same_of, shown_idle, shown_unchanged, still_or_undone, survives_still}

-- ---- calls in order

-- A statement is executed in a transaction.
pub statement_alters : {S A : Type 0} (g : Ghosts S) (old new : Held S) (P : State → Type 0)
    → (P (state g old) → IsTrue (state g old).in_transaction)
    → (sql : List ℕ) (params : Row) (r : Result ℕ Error) (done : Bool) (Did : Database → Database
    → Type 0)
    → (IsTrue (state g new).is_open → HasCleanDisk (state g new))
    → ((state g old).in_transaction ≡ false → A × (new ≡ old))
    → (HasCleanDisk (state g new) → IsTrue (state g old).in_transaction
    → ExecutesInside 0 sql params (state g old) (state g new) r)
    → Survives (state g old) (state g new) (λ _. ⊥)
    → (IsTrue done → (count : ℕ) × (r ≡ Ok count)) → ((count : ℕ) → P (state g old)
    → Executes sql params (state g old) (state g new) (Ok count)
    → Did (state g old).now (state g new).now) → MigratesInTransaction P (state g old) (state g new)
    done Did
statement_alters g old new P inside sql params r done Did clean_of ended runs survives counts
    means = record {
      altered = λ ok clean begun.
          let n = counts ok in
          let h = subst (ExecutesInside 0 sql params (state g old) (state g new)) n.1
          (runs clean (inside begun)) in
          record {
            is_open = h.1.is_open;
            inside = h.1.mode;
            committed = h.1.committed_is;
            did = means n.0 begun h.0;
          };
      kept = λ up. call_keeps g old new sql params r up ended (runs (clean_of up));
      survives = survives;
    }

abbrev pub first_set : Option ClockImpl → Content → Content
first_set clock =
    if_some (λ (c : ClockImpl). with_set (stored_clock c.minute.number c.next_id 1)
    (windows_of c.windows)) clock

abbrev pub IsChangedBy : (Content → Content) → Database → Database → Type 0
IsChangedBy change old new = (new.schema ≡ the_schema) × AreShaped new.trees
    × (content_in new.trees ≡ change (content_in old.trees))

abbrev pub IsFirstSetPut : Option ClockImpl → Database → Database → Type 0
IsFirstSetPut clock old new = IsChangedBy (first_set clock) old new × IsSetPut old new

-- Two changes of a database in order.
abbrev pub Both : (Database → Database → Type 0) → (Database → Database → Type 0) → Database
    → Database → Type 0
Both One Two old new = (mid : Database) × One old mid × Two mid new

module _ (a b c : State) (P Q : State → Type 0) (One Two : Database → Database → Type 0) where
  pub does_then : (done : Bool) → MigratesInTransaction P a b true One
      → MigratesInTransaction Q b c done Two
      → (P a → Wrote a b One → Q b) → MigratesInTransaction P a c done (Both One Two)
  does_then done one two between = record {
    altered = λ ok clean begun.
        let first = one.altered refl (earlier a b c two.survives clean) begun in
        let second = two.altered ok clean (between begun first) in
        record {
          is_open = second.is_open;
          inside = second.inside;
          committed = second.committed ∙ first.committed;
          did = (b.now, first.did, second.did);
        };
    kept = kept_then a b c one.kept two.kept;
    survives = both_survive a b c one.survives two.survives;
  }

  pub does_stop : (Would : Database → Database → Type 0) → MigratesInTransaction P a b true One
      → MigratesInTransaction Q b c false Two → MigratesInTransaction P a c false Would
  does_stop Would one two = record {
    altered = λ no. absurd (true≢false (sym no));
    kept = kept_then a b c one.kept two.kept;
    survives = both_survive a b c one.survives two.survives;
  }

module _ (a b : State) where
  pub alters_as : (P Q : State → Type 0) (done : Bool) (Did Would : Database → Database → Type 0)
      → MigratesInTransaction P a b done Did → (Q a → P a)
      → (Q a → Did a.now b.now → Would a.now b.now)
      → MigratesInTransaction Q a b done Would
  alters_as P Q done Did Would it from means = record {
    altered = λ ok clean begun. let w = it.altered ok clean (from begun) in record {
      is_open = w.is_open;
      inside = w.inside;
      committed = w.committed;
      did = means begun w.did;
    };
    kept = it.kept;
    survives = it.survives;
  }

  pub alters_none : (P : State → Type 0) (Did Would : Database → Database → Type 0)
      → MigratesInTransaction P a b false Did → MigratesInTransaction P a b false Would
  alters_none P Did Would it = record {
    altered = λ no. absurd (true≢false (sym no));
    kept = it.kept;
    survives = it.survives;
  }

  pub from_writes : (done : Bool) (Did : Database → Database → Type 0)
      → WritesInTransaction a b done Did
      → MigratesInTransaction IsInTransaction a b done Did
  from_writes done Did it = record { altered = it.wrote; kept = it.kept; survives = it.survives }

  pub to_writes : (done : Bool) (Did : Database → Database → Type 0)
      → MigratesInTransaction IsInTransaction a b done Did
      → WritesInTransaction a b done Did
  to_writes done Did it = record { wrote = it.altered; kept = it.kept; survives = it.survives }

  -- The first set of windows is put: how the content changes, and that other tables stay.
  pub from_first_set : (done : Bool) (clock : Option ClockImpl)
      → AppliesInTransaction a b done (first_set clock) → WritesInTransaction a b done IsSetPut
      → MigratesInTransaction IsInTransaction a b done (IsFirstSetPut clock)
  from_first_set done clock made put = record {
    altered = λ ok clean inside. let s = made.made ok clean inside in record {
      is_open = s.inside.is_open;
      inside = s.inside.inside;
      committed = s.committed;
      did = ((s.inside.schema, s.inside.shaped, s.is), (put.wrote ok clean inside).did);
    };
    kept = made.kept;
    survives = made.survives;
  }

  -- A change of the content, and what it leaves.
  pub from_makes : (done : Bool) (change : Content → Content) → AppliesInTransaction a b done change
      → MigratesInTransaction IsInTransaction a b done (λ old new. (new.schema ≡ the_schema)
      × AreShaped new.trees
      × (content_in new.trees ≡ change (content_in old.trees)))
  from_makes done change it = record {
    altered = λ ok clean inside. let s = it.made ok clean inside in record {
      is_open = s.inside.is_open;
      inside = s.inside.inside;
      committed = s.committed;
      did = (s.inside.schema, s.inside.shaped, s.is);
    };
    kept = it.kept;
    survives = it.survives;
  }

-- ---- tables created

first_of : (old mid new : Database) → Both (IsMade made.NextRouting) (AreTablesCreated Modify) old
    new
    → AreTablesCreated First old new
first_of old mid new both = record {
  schema = both.2.schema;
  sets = both.2.sets;
  versions = both.2.versions;
  clock = both.2.clock;
  nexts = both.2.nexts ∙ both.1.blank;
  same = (
    both.2.same.0 ∙ both.1.others.0,
    (
      both.2.same.1.0 ∙ both.1.others.1.0,
      (
        both.2.same.1.1.0 ∙ both.1.others.1.1.0,
        (
          both.2.same.1.1.1.0 ∙ both.1.others.1.1.1.0,
          (
            both.2.same.1.1.1.1.0 ∙ both.1.others.1.1.1.1.0,
            (
              both.2.same.1.1.1.1.1.0 ∙ both.1.others.1.1.1.1.1.0,
              (
                both.2.same.1.1.1.1.1.1.0 ∙ both.1.others.1.1.1.1.1.1.0,
                (both.2.same.1.1.1.1.1.1.1.0 ∙ both.1.others.1.1.1.1.1.1.1.0, tt),
              ),
            ),
          ),
        ),
      ),
    ),
  );
}

pub grown_first : (old new : Database) → Both (IsMade made.NextRouting) (AreTablesCreated Modify)
    old new
    → AreTablesCreated First old new
grown_first old new both = first_of old both.0 new both

pub grown_sets : (old new : Database)
    → Both (Both (Both (IsMade made.WindowSet) (IsMade made.Version)) (IsMade made.Clock)) IsIndexed
    old new → AreTablesCreated Modify old new
grown_sets old new it =
    let a = it.1.1.1 in
    let b = it.1.1.2 in
    let c = it.1.2 in
    let d = it.2.1 in
    record {
      schema = it.2.0;
      sets = d.1.1.1.1.1.1.1.1.1.0 ∙ c.others.1.1.1.1.1.1.1.1.1.0 ∙ b.others.1.1.1.1.1.1.1.1.1.0
          ∙ a.blank;
      versions = d.1.1.1.1.1.1.1.1.1.1.0 ∙ c.others.1.1.1.1.1.1.1.1.1.1.0 ∙ b.blank;
      clock = d.1.1.1.1.1.1.1.1.1.1.1.0 ∙ c.blank;
      nexts = d.1.1.1.1.1.1.1.1.0 ∙ c.others.1.1.1.1.1.1.1.1.0 ∙ b.others.1.1.1.1.1.1.1.1.0
          ∙ a.others.1.1.1.1.1.1.1.1.0;
      same = (
        d.0 ∙ c.others.0 ∙ b.others.0 ∙ a.others.0,
        (
          d.1.0 ∙ c.others.1.0 ∙ b.others.1.0 ∙ a.others.1.0,
          (
            d.1.1.0 ∙ c.others.1.1.0 ∙ b.others.1.1.0 ∙ a.others.1.1.0,
            (
              d.1.1.1.0 ∙ c.others.1.1.1.0 ∙ b.others.1.1.1.0 ∙ a.others.1.1.1.0,
              (
                d.1.1.1.1.0 ∙ c.others.1.1.1.1.0 ∙ b.others.1.1.1.1.0 ∙ a.others.1.1.1.1.0,
                (
                  d.1.1.1.1.1.0 ∙ c.others.1.1.1.1.1.0 ∙ b.others.1.1.1.1.1.0
                      ∙ a.others.1.1.1.1.1.0,
                  (
                    d.1.1.1.1.1.1.0 ∙ c.others.1.1.1.1.1.1.0 ∙ b.others.1.1.1.1.1.1.0
                        ∙ a.others.1.1.1.1.1.1.0,
                    (
                      d.1.1.1.1.1.1.1.0 ∙ c.others.1.1.1.1.1.1.1.0 ∙ b.others.1.1.1.1.1.1.1.0
                          ∙ a.others.1.1.1.1.1.1.1.0,
                      (
                        d.1.1.1.1.1.1.1.1.0 ∙ c.others.1.1.1.1.1.1.1.1.0
                            ∙ b.others.1.1.1.1.1.1.1.1.0 ∙ a.others.1.1.1.1.1.1.1.1.0,
                        tt,
                      ),
                    ),
                  ),
                ),
              ),
            ),
          ),
        ),
      );
    }

-- Nothing was put, and nothing changed.
pub no_set_put : (a : State) → WritesInTransaction a a true IsSetPut
no_set_put a = record {
  wrote = λ ok clean it. record {
    is_open = it.is_open;
    inside = it.inside;
    committed = refl;
    did = record {
      others = λ t set clock. refl;
      sets = λ each. each;
      clock = λ each. each;
    };
  };
  kept = λ up. record { was_open = up; committed = refl };
  survives = survives_still a;
}

-- A table without rows is well-formed.
blank_shaped : (rows : List Row) → rows ≡ [] → IsShaped AsTable rows
blank_shaped rows none = subst (IsShaped AsTable) (sym none) (tt, tt)

same_shaped : (rows was : List Row) → rows ≡ was → IsShaped AsTable was → IsShaped AsTable rows
same_shaped rows was same shaped = subst (IsShaped AsTable) (sym same) shaped

pub grown_shaped : (f : SchemaVersion) (old new : Database) → AreTablesCreated f old new
    → AreOldShaped f old.trees
    → AreShaped new.trees
grown_shaped First old new g shaped Carrier = same_shaped _ _ g.same.0 shaped.0
grown_shaped First old new g shaped Lrn = same_shaped _ _ g.same.1.0 shaped.1.0
grown_shaped First old new g shaped Code = same_shaped _ _ g.same.1.1.0 shaped.1.1.0
grown_shaped First old new g shaped Block = same_shaped _ _ g.same.1.1.1.0 shaped.1.1.1.0
grown_shaped First old new g shaped OldVersion = same_shaped _ _ g.same.1.1.1.1.0 shaped.1.1.1.1.0
grown_shaped First old new g shaped Broadcast =
    same_shaped _ _ g.same.1.1.1.1.1.0 shaped.1.1.1.1.1.0
grown_shaped First old new g shaped Wait = same_shaped _ _ g.same.1.1.1.1.1.1.0 shaped.1.1.1.1.1.1.0
grown_shaped First old new g shaped OldClock =
    same_shaped _ _ g.same.1.1.1.1.1.1.1.0 shaped.1.1.1.1.1.1.1.0
grown_shaped First old new g shaped NextRouting = blank_shaped _ g.nexts
grown_shaped First old new g shaped WindowSet = blank_shaped _ g.sets
grown_shaped First old new g shaped Version = blank_shaped _ g.versions
grown_shaped First old new g shaped Clock = blank_shaped _ g.clock
grown_shaped Modify old new g shaped Carrier = same_shaped _ _ g.same.0 shaped.0
grown_shaped Modify old new g shaped Lrn = same_shaped _ _ g.same.1.0 shaped.1.0
grown_shaped Modify old new g shaped Code = same_shaped _ _ g.same.1.1.0 shaped.1.1.0
grown_shaped Modify old new g shaped Block = same_shaped _ _ g.same.1.1.1.0 shaped.1.1.1.0
grown_shaped Modify old new g shaped OldVersion = same_shaped _ _ g.same.1.1.1.1.0 shaped.1.1.1.1.0
grown_shaped Modify old new g shaped Broadcast =
    same_shaped _ _ g.same.1.1.1.1.1.0 shaped.1.1.1.1.1.0
grown_shaped Modify old new g shaped Wait =
    same_shaped _ _ g.same.1.1.1.1.1.1.0 shaped.1.1.1.1.1.1.0
grown_shaped Modify old new g shaped OldClock =
    same_shaped _ _ g.same.1.1.1.1.1.1.1.0 shaped.1.1.1.1.1.1.1.0
grown_shaped Modify old new g shaped NextRouting = same_shaped _ _ g.nexts shaped.1.1.1.1.1.1.1.1.0
grown_shaped Modify old new g shaped WindowSet = blank_shaped _ g.sets
grown_shaped Modify old new g shaped Version = blank_shaped _ g.versions
grown_shaped Modify old new g shaped Clock = blank_shaped _ g.clock

-- The tables that are not migrated keep their rows.
grown_content : (f : SchemaVersion) (old new : Database) → AreTablesCreated f old new
    → (versions : FinMap nat_cmp VersionRow) (clock : Option ClockRow)
    → content_with Modify versions clock new.trees ≡ content_with f versions clock old.trees
grown_content First old new g versions clock = rw (
  g.same.0,
  g.same.1.0,
  g.same.1.1.0,
  g.same.1.1.1.0,
  g.same.1.1.1.1.1.0,
  g.same.1.1.1.1.1.1.0,
  g.nexts,
) refl
grown_content Modify old new g versions clock = rw (
  g.same.0,
  g.same.1.0,
  g.same.1.1.0,
  g.same.1.1.1.0,
  g.same.1.1.1.1.1.0,
  g.same.1.1.1.1.1.1.0,
  g.nexts,
) refl

-- ---- rows copied

pub put_none : (a : State) (ids : List ℕ) → WritesInTransaction a a true (ArePutBut ids ids)
put_none a ids = record {
  wrote = λ ok clean it. record {
    is_open = it.is_open;
    inside = it.inside;
    committed = refl;
    did = record {
      schema = λ e. e;
      shaped = λ s. s;
      versions = λ s. refl;
      read = λ each. each;
      frame = λ u other. refl;
    };
  };
  kept = λ up. record { was_open = up; committed = refl };
  survives = survives_still a;
}

module _ (a b c : State) (id : ℕ) (more ids : List ℕ) where
  one_put : Both (ArePutBut (id ∷ more) ids) (IsOldPut id) a.now c.now
      → ArePutBut more ids a.now c.now
  one_put it =
      let m = it.0 in
      let first = it.1 in
      let (v, got, put) = it.2 in
      let left = version_left m c.now id v put.1 put.0 in
      let same : m.trees 5 ≡ a.now.trees 5 = first.frame OldVersion (λ tie. omega (arith, tie)) in
      let here : get (old_versions_in (a.now.trees 5)) id ≡ Some v =
      ap (λ rows. get (old_versions_in rows) id) (sym same) ∙ got in
      record {
        schema = λ has. left.0;
        shaped = λ s. (left.1 (first.shaped s)).shaped;
        versions = λ s. ap (all_old a.now.trees more) ((left.1 (first.shaped s)).map
            ∙ ap (λ o. put_if id o (versions_in (m.trees 18))) (sym here)) ∙ first.versions s;
        read = λ each. reads_replaced Version version_entry (Int (pos id) ∷ [])
            (version_params id v) (version_row id v) (id, bare v) put.1 m c.now
            (λ db. version_cast db id v) put.0 (first.read each);
        frame = λ u other. left.2 u other ∙ first.frame u other;
      }

  inside_put : IsInTransaction a → Wrote a b (ArePutBut (id ∷ more) ids) → IsInTransaction b
  inside_put inside w = record {
    is_open = w.is_open;
    inside = w.inside;
    schema = w.did.schema inside.schema;
    shaped = w.did.shaped inside.shaped;
  }

  pub puts_then : WritesInTransaction a b true (ArePutBut (id ∷ more) ids)
      → WritesInTransaction b c true (IsOldPut id)
      → WritesInTransaction a c true (ArePutBut more ids)
  puts_then first two =
      to_writes a c true (ArePutBut more ids) (alters_as a c IsInTransaction IsInTransaction true
      (Both (ArePutBut (id ∷ more) ids) (IsOldPut id)) (ArePutBut more ids)
      (does_then a b c IsInTransaction IsInTransaction (ArePutBut (id ∷ more) ids) (IsOldPut id)
      true
      (from_writes a b true (ArePutBut (id ∷ more) ids) first) (from_writes b c true (IsOldPut id)
      two) inside_put)
      (λ inside. inside) (λ inside it. one_put it))

-- ---- rows deleted

pub thinned_none : (a : State) → WritesInTransaction a a true AreOldRowsDeleted
thinned_none a = record {
  wrote = λ ok clean it. record {
    is_open = it.is_open;
    inside = it.inside;
    committed = refl;
    did = record { schema = λ e. e; shaped = λ s. s; frame = λ u other. refl };
  };
  kept = λ up. record { was_open = up; committed = refl };
  survives = survives_still a;
}

inside_thinned : (a b : State) → IsInTransaction a → Wrote a b AreOldRowsDeleted → IsInTransaction b
inside_thinned a b inside w = record {
  is_open = w.is_open;
  inside = w.inside;
  schema = w.did.schema inside.schema;
  shaped = w.did.shaped inside.shaped;
}

thinned_and : (a b c : State) (Did : Database → Database → Type 0)
    → WritesInTransaction a b true AreOldRowsDeleted
    → WritesInTransaction b c true Did
    → MigratesInTransaction IsInTransaction a c true (Both AreOldRowsDeleted Did)
thinned_and a b c Did first two =
    does_then a b c IsInTransaction IsInTransaction AreOldRowsDeleted Did true
    (from_writes a b true AreOldRowsDeleted first)
    (from_writes b c true Did two) (inside_thinned a b)

one_thinned : (id : ℕ) (old new : Database) → Both AreOldRowsDeleted (IsOldDeleted id) old new
    → AreOldRowsDeleted old new
one_thinned id old new it =
    let m = it.0 in
    let first = it.1 in
    let taken = it.2 in
    record {
      schema = λ has. taken.schema;
      shaped = λ s. removed_shaped OldVersion (Int (pos id) ∷ []) m new (first.shaped s) taken;
      frame = framed_twice OldVersion old.trees m.trees new.trees first.frame taken.frame;
    }

pub thins_then : (a b c : State) (id : ℕ) → WritesInTransaction a b true AreOldRowsDeleted
    → WritesInTransaction b c true (IsOldDeleted id)
    → WritesInTransaction a c true AreOldRowsDeleted
thins_then a b c id first two =
    to_writes a c true AreOldRowsDeleted (alters_as a c IsInTransaction IsInTransaction true
    (Both AreOldRowsDeleted (IsOldDeleted id)) AreOldRowsDeleted
    (thinned_and a b c (IsOldDeleted id)
    first two)
    (λ inside. inside) (λ inside it. one_thinned id a.now c.now it))

-- Rows deleted and then the table emptied: the table is empty.
thinned_cleared : (old new : Database) → Both AreOldRowsDeleted (IsCleared former.Version) old new
    → IsCleared former.Version old new
thinned_cleared old new it = record {
  schema = it.2.schema;
  rows = it.2.rows;
  frame = framed_twice OldVersion old.trees (it.0).trees new.trees it.1.frame it.2.frame;
}

pub clears_then : (a b c : State) → WritesInTransaction a b true AreOldRowsDeleted
    → WritesInTransaction b c true (IsCleared former.Version)
    → WritesInTransaction a c true (IsCleared former.Version)
clears_then a b c first two =
    to_writes a c true (IsCleared former.Version) (alters_as a c IsInTransaction IsInTransaction
    true
    (Both AreOldRowsDeleted (IsCleared former.Version)) (IsCleared former.Version)
    (thinned_and a b c (IsCleared former.Version) first two) (λ inside. inside)
    (λ inside it. thinned_cleared a.now c.now it))

-- The id at an index, and those after it.
pub one_left : (ids : List ℕ) (i : ℕ) → i < length ids
    → drop i ids ≡ get_or ids i 0 ∷ drop (i + 1) ids
one_left [] i low = absurd (omega (arith, low))
one_left (id ∷ ids) zero low = refl
one_left (id ∷ ids) (suc i) low =
    let next : suc (i + 1) ≡ suc i + 1 = omega arith in
    one_left ids i (omega (arith, low)) ∙ ap (λ k. get_or ids i 0 ∷ drop k (id ∷ ids)) next

-- ---- a version read in the transaction

module _ (a b : State) (id : ℕ) where
  abbrev one_text : List ℕ
  one_text = query_text OldVersionNumbered

  abbrev one_key : Row
  one_key = Int (pos id) ∷ []

  -- A query in a transaction commits nothing, and changes nothing.
  pub asked_unchanged : (rows : List Row) → Shown one_text one_key a b rows → IsUnchanged a b
  asked_unchanged rows =
      shown_unchanged one_text one_key a b rows (query_selects OldVersionNumbered)

  -- The query has this text and these parameters.
  pub asked_kept : {sql : List ℕ} {params : Row} → sql ≡ one_text → params ≡ one_key
      → {R : Type 0} (items : R → List Row) (r : Result R Error)
      → (IsTrue b.is_open → HasCleanDisk b)
      → (HasCleanDisk b → IfOk r (λ found. Shown sql params a b (items found)))
      → (HasCleanDisk b → IfErr r (FailsToQuery sql params a b)) → IsTrue b.is_open
      → HasCommittedNothing a b
  asked_kept text key items (Ok found) clean_of shown fails up = let u =
      asked_unchanged (items found) (subst₂ (λ sql params. Shown sql params a b (items found))
      text key (shown (clean_of up))) in record {
        was_open = u.0.was_open;
        committed = u.0.committed_is;
      }
  asked_kept text key items (Err e) clean_of shown fails up =
      left (fails_as one_text one_key a b e (subst₂ (λ sql params. FailsToQuery sql params a b e)
      text key (fails (clean_of up))))
    where
      left : IsUnchanged a b ⊎ IsRolledBack a b → HasCommittedNothing a b
      left (inl u) = record { was_open = u.0.was_open; committed = u.0.committed_is }
      left (inr u) = record { was_open = u.was_open up; committed = (u.undone up).1 }

  pub asked_survives : {sql : List ℕ} {params : Row} → sql ≡ one_text → params ≡ one_key
      → Survives a b (CommitsShowing sql params a) → Survives a b (λ _. ⊥)
  asked_survives text key survives =
      query_commits_nothing one_text one_key a b (query_selects OldVersionNumbered)
      (subst₂ (λ sql params. Survives a b (CommitsShowing sql params a)) text key survives)

  pub asked_inside : (rows : List Row) → Shown one_text one_key a b rows → IsInTransaction a
      → IsInTransaction b
  asked_inside rows shown inside = let u = asked_unchanged rows shown in record {
    is_open = u.0.is_open;
    inside = u.0.mode ∙ inside.inside;
    schema = ap (λ (d : Database). d.schema) u.0.now_is ∙ inside.schema;
    shaped = subst (λ (d : Database). AreShaped d.trees) (sym u.0.now_is) inside.shaped;
  }

  -- The row found is the version's.
  pub asked_found : (rows : List Row) (v : VersionRow) (own : ℕ) → Shown one_text one_key a b rows
      → IsInTransaction a → IsSole old_version_in rows (Some (own, v))
      → get (old_versions_in (a.now.trees 5)) id ≡ Some v
  asked_found rows v own shown inside sole =
      let answer =
      (reads_as one_text one_key a b the_schema inside.schema _ (query_is OldVersionNumbered)
      (query_plain OldVersionNumbered) (query_unlisted OldVersionNumbered) rows shown).answer
      Null in
      old_version_found a.now.trees id (Some (own, v)) (rows, answer, sole)

-- No version of the file was written.
pub unput : (a b : State) (id : ℕ) → (IsTrue b.is_open → HasCommittedNothing a b)
    → Survives a b (λ _. ⊥)
    → WritesInTransaction a b false (IsOldPut id)
unput a b id kept survives = record {
  wrote = λ no. absurd (true≢false (sym no));
  kept = kept;
  survives = survives;
}

-- The version was read, and then written or not.
module _ (a b c : State) (id : ℕ) (rows : List Row) (kept : IsTrue b.is_open
    → HasCommittedNothing a b) (survives : Survives a b (λ _. ⊥)) where
  pub read_unput : (v : VersionRow) → WritesInTransaction b c false (IsBarePut id v)
      → WritesInTransaction a c false (IsOldPut id)
  read_unput v put = record {
    wrote = λ no. absurd (true≢false (sym no));
    kept = kept_then a b c kept put.kept;
    survives = both_survive a b c survives put.survives;
  }

  pub read_put : (HasCleanDisk b → Shown (one_text a b id) (one_key a b id) a b rows)
      → (v : VersionRow) (own : ℕ) → IsSole old_version_in rows (Some (own, v))
      → WritesInTransaction b c true (IsBarePut id v) → WritesInTransaction a c true (IsOldPut id)
  read_put shown v own sole put = record {
    wrote = λ ok clean inside.
        let here = shown (earlier a b c put.survives clean) in
        let u = asked_unchanged a b id rows here in
        let w = put.wrote ok clean (asked_inside a b id rows here inside) in
        record {
          is_open = w.is_open;
          inside = w.inside;
          committed = w.committed ∙ u.0.committed_is;
          did = (
            v,
            asked_found a b id rows v own here inside sole,
            subst (λ d. IsBarePut id v d c.now) u.0.now_is w.did,
          );
        };
    kept = kept_then a b c kept put.kept;
    survives = both_survive a b c survives put.survives;
  }

-- ---- all rows copied, and the old tables emptied

with_first : (versions : FinMap nat_cmp VersionRow) (clock : Option ClockImpl) (db : Trees)
    → first_set clock (content_with Modify versions None db) ≡ content_with Modify versions
    (option_map old_clock_of clock) db
with_first versions None db = refl
with_first versions (Some c) db = refl

pub cleared_shaped : (t : OldTable) (db next : Database) → IsCleared t db next → AreShaped db.trees
    → AreShaped next.trees
cleared_shaped t db next it shaped u = old_rows t db.trees next.trees it.rows it.frame shaped u

apart : (n m : ℕ) → (n == m) ≡ false → n ≢ m
apart n m differ same = true≢false (sym (itself n) ∙ ap (λ k. n == k) same ∙ differ)

blank_read : {X : Type 0} (entry : Row → Option X) (rows : List Row) → rows ≡ []
    → EachReads entry rows
blank_read entry [] none = λ r at. absurd at
blank_read entry (r ∷ rows) none = absurd cc

-- Only the tables that are emptied or new were changed.
stays : {ids : List ℕ} (a b c d e : Database) → ArePutBut [] ids a b → IsSetPut b c
    → IsCleared former.Version c d → IsCleared former.Clock d e
    → HasStayingRows Modify a.trees e.trees
stays a b c d e put set one two = record {
  carriers = same Carrier refl refl refl refl refl;
  lrns = same Lrn refl refl refl refl refl;
  codes = same Code refl refl refl refl refl;
  blocks = same Block refl refl refl refl refl;
  broadcasts = same Broadcast refl refl refl refl refl;
  waits = same Wait refl refl refl refl refl;
  nexts = same NextRouting refl refl refl refl refl;
}
  where
    same : (t : RowTable) → (tree_of t == 12) ≡ false → (tree_of t == 5) ≡ false
        → (tree_of t == 17) ≡ false → (tree_of t == 21) ≡ false → (tree_of t == 18) ≡ false
        → e.trees (tree_of t) ≡ a.trees (tree_of t)
    same t old_clock old_version sets clock version =
        two.frame t (apart _ _ old_clock) ∙ one.frame t (apart _ _ old_version)
        ∙ set.others t (apart _ _ sets) (apart _ _ clock) ∙ put.frame t (apart _ _ version)

pub filled : (ids : List ℕ) (clock : Option ClockImpl) (old new : Database) → AreShaped old.trees
    → Both (Both (Both (ArePutBut [] ids) (IsFirstSetPut clock)) (IsCleared former.Version))
    (IsCleared former.Clock) old new → AreRowsCopied ids clock old new
filled ids clock a e shaped it =
    let b = it.1.1.0 in
    let c = it.1.0 in
    let d = it.0 in
    let put = it.1.1.1 in
    let changed = it.1.1.2.0 in
    let set = it.1.1.2.1 in
    let one = it.1.2 in
    let two = it.2 in
    record {
      schema = two.schema;
      shaped = cleared_shaped former.Clock d e two (cleared_shaped former.Version c d one
          changed.1);
      moved = record {
        versions = two.frame OldVersion (λ same. omega arith) ∙ one.rows;
        clock = two.rows;
      };
      staying = stays a b c d e put set one two;
      read = λ sets versions clocks. record {
        versions = subst (EachReads version_entry) (sym (two.frame Version (apart _ _ refl)
            ∙ one.frame Version (apart _ _ refl)
            ∙ set.others Version (apart _ _ refl) (apart _ _ refl)))
            (put.read (blank_read version_entry _ versions));
        sets = subst (EachReads set_entry) (sym (two.frame WindowSet (apart _ _ refl)
            ∙ one.frame WindowSet (apart _ _ refl)))
            (set.sets (blank_read set_entry _ (put.frame WindowSet (apart _ _ refl) ∙ sets)));
        clock = subst (EachReads clock_entry) (sym (two.frame Clock (apart _ _ refl)
            ∙ one.frame Clock (apart _ _ refl)))
            (set.clock (blank_read clock_entry _ (put.frame Clock (apart _ _ refl) ∙ clocks)));
      };
      content = λ sets versions clocks.
          content_framed OldClock d.trees e.trees two.frame ∙ content_framed OldVersion c.trees
          d.trees one.frame
          ∙ changed.2
          ∙ ap (first_set clock) (put_content b put sets versions clocks)
          ∙ with_first (all_old a.trees ids empty) clock a.trees;
    }
  where
    put_content : (b : Database) → ArePutBut [] ids a b → a.trees 17 ≡ [] → a.trees 18 ≡ []
        → a.trees 21 ≡ [] → content_in b.trees ≡ content_with Modify (all_old a.trees ids empty)
        None a.trees
    put_content b put sets versions clocks =
        content_framed Version a.trees b.trees put.frame
        ∙ ap (λ m. content_over m) (put.versions shaped
        ∙ ap (λ rows. all_old a.trees ids (versions_in rows)) versions)
        ∙ blank_over sets clocks
      where
        content_over : FinMap nat_cmp VersionRow → Content
        content_over m = record (content_in a.trees) {
          versions = (content_with Modify m None a.trees).versions;
        }

        blank_over : a.trees 17 ≡ [] → a.trees 21 ≡ [] → content_over (all_old a.trees ids empty)
            ≡ content_with Modify (all_old a.trees ids empty) None a.trees
        blank_over sets clocks =
            rw (sets, clocks)
            (ap (λ o. record (content_with Modify (all_old a.trees ids empty) None a.trees)
            { clock = option_map (with_windows empty) o }) (get-empty {X =
            StoredClock} nat_cmp 0))

-- Creating tables keeps the versions.
grown_old : (f : SchemaVersion) (old new : Database) → AreTablesCreated f old new
    → new.trees 5 ≡ old.trees 5
grown_old First old new g = g.same.1.1.1.1.0
grown_old Modify old new g = g.same.1.1.1.1.0

-- Creating tables keeps the tables that are not migrated.
grown_staying : (f : SchemaVersion) (old mid new : Database) → AreTablesCreated f old mid
    → HasStayingRows Modify mid.trees new.trees → HasStayingRows f old.trees new.trees
grown_staying First old mid new g it = record {
  carriers = it.carriers ∙ g.same.0;
  lrns = it.lrns ∙ g.same.1.0;
  codes = it.codes ∙ g.same.1.1.0;
  blocks = it.blocks ∙ g.same.1.1.1.0;
  broadcasts = it.broadcasts ∙ g.same.1.1.1.1.1.0;
  waits = it.waits ∙ g.same.1.1.1.1.1.1.0;
  nexts = it.nexts ∙ g.nexts;
}
grown_staying Modify old mid new g it = record {
  carriers = it.carriers ∙ g.same.0;
  lrns = it.lrns ∙ g.same.1.0;
  codes = it.codes ∙ g.same.1.1.0;
  blocks = it.blocks ∙ g.same.1.1.1.0;
  broadcasts = it.broadcasts ∙ g.same.1.1.1.1.1.0;
  waits = it.waits ∙ g.same.1.1.1.1.1.1.0;
  nexts = it.nexts ∙ g.nexts;
}

pub rebuilt : (f : SchemaVersion) (ids : List ℕ) (clock : Option ClockImpl) (old new : Database)
    → AreOldShaped f old.trees → Both (AreTablesCreated f) (AreRowsCopied ids clock) old new
    → IsMigrated f ids clock old new
rebuilt f ids clock old new shaped it = record {
  schema = it.2.schema;
  shaped = it.2.shaped;
  moved = it.2.moved;
  staying = grown_staying f old it.0 new it.1 it.2.staying;
  read = it.2.read it.1.sets it.1.versions it.1.clock;
  content =
      it.2.content it.1.sets it.1.versions it.1.clock
      ∙ grown_content f old it.0 it.1 (all_old (it.0).trees ids empty)
      (option_map old_clock_of clock)
      ∙ ap (λ rows. content_with f (all_of (old_versions_in rows) ids empty)
      (option_map old_clock_of clock) old.trees) (grown_old f old it.0 it.1);
}

-- ---- the transaction, from beginning to end

pub record BegunAs (old new : State) (done : Bool) (Did : Database → Database
    → Type 0) : Type 0 where
  pub made : IsTrue done → HasCleanDisk new → IsTrue old.is_open → Wrote old new Did
  pub kept : IsTrue new.is_open → HasCommittedNothing old new
  pub survives : Survives old new (λ _. ⊥)

pub begun_as : (f : SchemaVersion) (old mid new : State) (done : Bool)
    (Did : Database → Database → Type 0)
    → (HasCleanDisk mid → Shows old mid old.now old.committed true)
    → (IsTrue mid.is_open → HasCleanDisk mid) → Survives old mid (λ _. ⊥)
    → MigratesInTransaction (IsBegunAs f) mid new done Did
    → (IsTrue old.is_open → HasSchemaVersion f old) → BegunAs old new done Did
begun_as f old mid new done Did shows clean_of survives m ours = record {
  made = λ ok clean was.
      let s = shows (earlier old mid new m.survives clean) in
      let our = ours was in
      let w = m.altered ok clean (record {
        begun = record {
          is_open = s.is_open;
          inside = s.mode;
          schema = ap (λ (d : Database). d.schema) s.now_is ∙ our.schema;
        };
        shaped = subst (λ (d : Database). AreOldShaped f d.trees) (sym s.now_is) our.shaped;
      }) in
      record {
        is_open = w.is_open;
        inside = w.inside;
        committed = w.committed ∙ s.committed_is;
        did = subst (λ d. Did d new.now) s.now_is w.did;
      };
  kept = λ up.
      let k = m.kept up in
      let s = shows (clean_of k.was_open) in
      record { was_open = s.was_open; committed = k.committed ∙ s.committed_is };
  survives = both_survive old mid new survives m.survives;
}

pub settled_as : (f : SchemaVersion) (s : State) → HasSchemaVersion f s → s.now ≡ s.committed
settled_as f s ours i = record { schema = ours.same_schema i; trees = ours.same_trees i }

module _ (f : SchemaVersion) (ids : List ℕ) (clock : Option ClockImpl) (old mid new : State)
    (ours : IsTrue old.is_open → HasSchemaVersion f old) (clean_of : IsTrue new.is_open
    → HasCleanDisk new) where
  undone : (done : Bool) → BegunAs old mid done (IsMigrated f ids clock) → IsUndone mid new
      → IsTrue new.is_open → IsSame old new
  undone done b r up =
      let k = b.kept (r.was_open up) in
      record {
        was_open = k.was_open;
        now = r.now up ∙ k.committed ∙ sym (settled_as f old (ours k.was_open));
        committed = r.committed up ∙ k.committed;
      }

  unmoved : (P : Trees → Type 0) → (IsTrue new.is_open → IsSame old new) → Survives old new P
      → (HasCleanDisk new → (db : Trees) → P db → IsTrue old.is_open
      → AreTreesMigrated f ids clock old.now.trees db)
      → HasMigrated (AreTreesMigrated f ids clock) old new false
  unmoved P same survives after = record {
    becomes = λ no. absurd (true≢false (sym no));
    ours = λ no. absurd (true≢false (sym no));
    idle = λ no. absurd (true≢false (sym no));
    same = λ _. same;
    was_open = λ up. (same up).was_open;
    honest = λ done. omega (arith, done, survives.clean);
    stays = λ no. absurd (true≢false (sym no));
    crash = survives_weaker old new P _ after survives;
  }

  -- The transaction did not begin.
  pub not_begun : (HasCleanDisk new → IsUnchanged old new ⊎ IsRolledBack old new)
      → Survives old new (λ _. ⊥) → HasMigrated (AreTreesMigrated f ids clock) old new false
  not_begun fails survives =
      unmoved (λ _. ⊥) (λ up. by_cases up (fails (clean_of up))) survives
      (λ clean db none. absurd none)
    where
      by_cases : IsTrue new.is_open → IsUnchanged old new ⊎ IsRolledBack old new → IsSame old new
      by_cases up (inl it) = record {
        was_open = it.0.was_open;
        now = it.0.now_is;
        committed = it.0.committed_is;
      }
      by_cases up (inr it) = record {
        was_open = it.was_open up;
        now = (it.undone up).0 ∙ sym (settled_as f old (ours (it.was_open up)));
        committed = (it.undone up).1;
      }

  -- The transaction was rolled back.
  pub given_up : BegunAs old mid false (IsMigrated f ids clock)
      → (HasCleanDisk new → IsUndone mid new) → Survives mid new (λ _. ⊥)
      → HasMigrated (AreTreesMigrated f ids clock) old new false
  given_up b r survives =
      unmoved (λ _. ⊥) (λ up. undone false b (r (clean_of up)) up) (survives_then old mid new _ _ _
      (λ clean db bad. bad) (λ clean db bad. bad) b.survives survives)
      (λ clean db none. absurd none)

  module _ (b : BegunAs old mid true (IsMigrated f ids clock))
      (survives : Survives mid new (λ db. db ≡ mid.now.trees)) where
    early : HasCleanDisk new → HasCleanDisk mid
    early clean = omega (arith, clean, survives.clean)

    after : HasCleanDisk new → (db : Trees) → db ≡ mid.now.trees → IsTrue old.is_open
        → AreTreesMigrated f ids clock old.now.trees db
    after clean db is was = let did = (b.made refl (early clean) was).did in
        subst (AreTreesMigrated f ids clock old.now.trees) (sym is) (record {
          content = did.content;
          moved = did.moved;
          staying = did.staying;
          read = did.read;
        })

    all_survives : Survives old new (λ db. IsTrue old.is_open
        → AreTreesMigrated f ids clock old.now.trees db)
    all_survives = survives_then old mid new _ _ _ (λ clean db none. absurd none) after b.survives
        survives

    -- The commit failed.
    pub not_moved : (HasCleanDisk new → HasEnded mid new)
        → HasMigrated (AreTreesMigrated f ids clock) old new false
    not_moved fails =
        unmoved _ (λ up. by_cases up (fails (clean_of up))) all_survives (λ clean db h. h)
      where
        by_cases : IsTrue new.is_open → HasEnded mid new → IsSame old new
        by_cases up (inr it) = undone true b (undone_of mid new it) up
        by_cases up (inl it) =
            let k = b.kept it.1.0.was_open in
            absurd (true≢false (let inside : mid.in_transaction ≡ true =
            (b.made refl (early (clean_of up)) k.was_open).inside in sym inside ∙ it.0))

    -- The commit succeeded.
    pub moved : (HasCleanDisk new → Shows mid new mid.now mid.now false)
        → HasMigrated (AreTreesMigrated f ids clock) old new true
    moved ok = record {
      becomes = λ _ up. let s = ok (clean_of up) in
          after (clean_of up) new.now.trees (ap (λ (d : Database). d.trees) s.now_is)
          (b.kept s.was_open).was_open;
      ours = λ _ up.
          let s = ok (clean_of up) in
          let did = (b.made refl (early (clean_of up)) (b.kept s.was_open).was_open).did in
          record {
            schema = ap (λ (d : Database). d.schema) s.now_is ∙ did.schema;
            shaped = subst (λ (d : Database). AreShaped d.trees) (sym s.now_is) did.shaped;
            last_schema = ap (λ (d : Database). d.schema) s.committed_is ∙ did.schema;
            last_shaped = subst (λ (d : Database). AreShaped d.trees) (sym s.committed_is)
                did.shaped;
          };
      idle = λ _ up. shown_idle mid new (ok (clean_of up));
      same = λ no. absurd (true≢false (sym no));
      was_open = λ up. (b.kept (ok (clean_of up)).was_open).was_open;
      honest = λ done. omega (arith, done, all_survives.clean);
      stays = λ _ was clean. (ok clean).is_open;
      crash = all_survives;
    }

    -- The commit succeeded or failed.
    pub concluded : {E : Type 0} (r : Result (Unit {0}) E)
        → (HasCleanDisk new → OnOk r (Shows mid new mid.now mid.now false))
        → (HasCleanDisk new → OnErr r (HasEnded mid new))
        → HasMigrated (AreTreesMigrated f ids clock) old new (is_ok r)
    concluded (Ok u) ok err = moved ok
    concluded (Err e) ok err = not_moved err

-- ---- the file is read first

module _ (f : SchemaVersion) (t : RowTable) (is : IsTableOf t f) (old new : State)
    (ours : IsTrue old.is_open
    → HasSchemaVersion f old) where
  abbrev text : List ℕ
  text = all_text t

  plain : IsTrue old.is_open → IsPlain (understood old.now.schema text)
  plain was =
      subst (λ k. IsPlain (understood k text)) (sym (ours was).schema) (old_query_plain f t is)

  pub old_looked : (rows : List Row) → (IsTrue new.is_open → HasCleanDisk new)
      → (HasCleanDisk new → Shown text [] old new rows)
      → Survives old new (CommitsShowing text [] old) → HasQueried old new true
  old_looked rows clean shown survives = record {
    same = λ _ up. same_of text [] old new (unchanged (clean up));
    undone = λ up. still_or_undone text [] old new up (inl (unchanged (clean up)));
    mode = λ up. begins_none text [] old new (inl (unchanged (clean up)));
    stays = λ ok done. (unchanged done).0.is_open;
    honest = λ done. omega (arith, survives.clean, done);
    survives = query_commits_nothing text [] old new (query_selects (All t)) survives;
  }
    where
      unchanged : HasCleanDisk new → IsUnchanged old new
      unchanged done = query_leaves text [] old new plain rows (shown done)

  pub old_unlooked : (e : Error) → (IsTrue new.is_open → HasCleanDisk new)
      → (HasCleanDisk new → FailsToQuery text [] old new e)
      → Survives old new (CommitsShowing text [] old) → HasQueried old new false
  old_unlooked e clean fails survives = record {
    same = λ no. absurd (true≢false (sym no));
    undone = λ up. still_or_undone text [] old new up (left up);
    mode = λ up. begins_none text [] old new (left up);
    stays = λ no done. absurd (true≢false (sym no));
    honest = λ done. omega (arith, survives.clean, done);
    survives = query_commits_nothing text [] old new (query_selects (All t)) survives;
  }
    where
      left : IsTrue new.is_open → IsUnchanged old new ⊎ IsRolledBack old new
      left up = query_err_leaves text [] old new plain e up (fails (clean up))

  pub old_answers : (rows : List Row) → IsTrue old.is_open → Shown text [] old new rows
      → IsAnswer (query_of (All t)) (overlay old.now.trees []) [] rows
  old_answers rows was shown =
      (reads_as text [] old new (schema_of f) (ours was).schema _ (old_query_is f t is)
      (old_query_plain f t is) (old_query_unlisted f t is) rows shown).answer Null

-- A file that was read still has its schema.
pub still_of : (f : SchemaVersion) (a b : State) → IsSame a b → HasSchemaVersion f a
    → HasSchemaVersion f b
still_of f a b same our = record {
  schema = ap (λ (d : Database). d.schema) same.now ∙ our.schema;
  shaped = subst (λ (d : Database). AreOldShaped f d.trees) (sym same.now) our.shaped;
  same_schema =
      ap (λ (d : Database). d.schema) (same.now ∙ settled_as f a our ∙ sym same.committed);
  same_trees = ap (λ (d : Database). d.trees) (same.now ∙ settled_as f a our ∙ sym same.committed);
}

-- Whether it answered or failed, a read changed nothing.
pub old_same : (f : SchemaVersion) (a b : State) (answered : Bool)
    → (IsTrue a.is_open → HasSchemaVersion f a)
    → HasQueried a b answered → IsTrue b.is_open → IsSame a b
old_same f a b answered ours looked up =
    let kept = looked.undone up in
    kept_settled a b (settled_as f a (ours kept.was_open)) kept

pub old_still : (f : SchemaVersion) (a b : State) (answered : Bool)
    → (IsTrue a.is_open → HasSchemaVersion f a)
    → HasQueried a b answered → IsTrue b.is_open → HasSchemaVersion f b
old_still f a b answered ours looked up =
    let same = old_same f a b answered ours looked up in still_of f a b same (ours same.was_open)

-- A read, and then the migration.
module _ (a b d : State) (Turns Becomes : Trees → Trees → Type 0) (one : HasQueried a b true)
    (means : IsTrue b.is_open → (after : Trees) → Turns b.now.trees after
    → Becomes b.now.trees after) where
  from_first : IsTrue b.is_open → (after : Trees) → Turns b.now.trees after
      → Becomes a.now.trees after
  from_first was after h = subst (λ (db : Database). Becomes db.trees after) (one.same refl was).now
      (means was after h)

  pub looked_moves : (done : Bool) → HasMigrated Turns b d done → HasMigrated Becomes a d done
  looked_moves done two = record {
    becomes = λ ok up. from_first (two.was_open up) d.now.trees (two.becomes ok up);
    ours = two.ours;
    idle = two.idle;
    same = λ no up.
        let later = two.same no up in
        let sooner = one.same refl later.was_open in
        record {
          was_open = sooner.was_open;
          now = later.now ∙ sooner.now;
          committed = later.committed ∙ sooner.committed;
        };
    was_open = λ up. (one.same refl (two.was_open up)).was_open;
    honest = λ done. one.honest (two.honest done);
    stays = λ ok was clean. two.stays ok (one.stays refl (two.honest clean)) clean;
    crash = survives_then a b d _ _ _ (λ clean db none. absurd none) (λ clean db h was. let up =
        one.stays refl (two.honest clean) in from_first up db (h up)) one.survives two.crash;
  }

-- ---- the versions copied are those of the file

module _ (from : FinMap nat_cmp VersionRow) where
  data InAll (ids : List ℕ) (m : FinMap nat_cmp VersionRow) (k : ℕ) : Type 0 where
    hit : (v : VersionRow) → get from k ≡ Some v → get (all_of from ids m) k ≡ Some (bare v)
        → InAll ids m k
    miss : (Has ids k → get from k ≡ None) → get (all_of from ids m) k ≡ get m k → InAll ids m k

  in_all : (ids : List ℕ) (m : FinMap nat_cmp VersionRow) (k : ℕ) → InAll ids m k
  in_all [] m k = miss (λ h. absurd h) refl
  in_all (id ∷ ids) m k = by_cases (get from id) refl (in_all ids (put_if id (get from id) m) k)
    where
      put_at : (o : Option VersionRow) (b : Bool) → eq_by_cmp nat_cmp k id ≡ b
          → get (put_if id o m) k ≡ cond b (option_or (option_map bare o) (get m k)) (get m k)
      put_at None true tie = refl
      put_at None false tie = refl
      put_at (Some v) true tie = get-insert nat_cmp_total m id (bare v) k
          ∙ ap (λ b. cond b (Some (bare v)) (get m k)) tie
      put_at (Some v) false tie = get-insert nat_cmp_total m id (bare v) k
          ∙ ap (λ b. cond b (Some (bare v)) (get m k)) tie

      not_tied : eq_by_cmp nat_cmp k id ≡ false → k ≡ id → ⊥
      not_tied tie same =
          true≢false (sym ((eq_by_cmp_equiv nat_cmp_total).refl k) ∙ ap (λ n. eq_by_cmp nat_cmp k n)
          same ∙ tie)

      by_cases : (o : Option VersionRow) → get from id ≡ o → InAll ids (put_if id (get from id) m) k
          → InAll (id ∷ ids) m k
      by_cases o is (hit v here e) = hit v here e
      by_cases o is (miss none e) = tied (eq_by_cmp nat_cmp k id) refl o is
        where
          tied : (b : Bool) → eq_by_cmp nat_cmp k id ≡ b → (o : Option VersionRow) → get from id ≡ o
              → InAll (id ∷ ids) m k
          tied true tie (Some v) is =
              hit v (ap (get from) (same_number k id tie) ∙ is) (e ∙ ap (λ o. get (put_if id o m) k)
              is ∙ put_at (Some v) true tie)
          tied true tie None is =
              miss (λ h. ap (get from) (same_number k id tie) ∙ is)
              (e ∙ ap (λ o. get (put_if id o m) k) is ∙ put_at None true tie)
          tied false tie o is =
              miss (λ h. elim h [ inl same ↦ absurd (not_tied tie same) | inr more ↦ none more ])
              (e ∙ put_at (get from id) false tie)

-- The ids of rows with ids.
had_id : (xs : List OldRow) (x : OldRow) → Has xs x → Has (ids_in xs) x.version.id
had_id [] x at = absurd at
had_id (y ∷ ys) x (inl same) = inl (ap (λ (z : OldRow). z.version.id) same)
had_id (y ∷ ys) x (inr at) = inr (had_id ys x at)

pub versions_carried : (db : Trees) → IsShaped AsTable (db 5) → (ids : List ℕ) → HasIds ids db
    → all_old db ids empty ≡ old_versions_in (db 5)
versions_carried db shaped ids (xs, answer, own) =
    same_map nat_cmp_total nat_cmp-IsAntisymmetric _ _
    (λ k. by_cases k (in_all (old_versions_in (db 5)) ids empty k))
  where
    p : Picks old_seen (old_versions_in (db 5)) (λ k v. Unit {0}) xs
    p = old_picked db shaped xs answer

    nothing : (k : ℕ) (o : Option VersionRow) → get (old_versions_in (db 5)) k ≡ o
        → (Has ids k → get (old_versions_in (db 5)) k ≡ None) → o ≡ None
    nothing k None is none = refl
    nothing k (Some v) is none =
        let x = p.each k v is tt in
        let at : Has ids k =
        subst₂ Has (sym own) (ap (λ (e : ℕ × VersionRow). e.0) x.2) (had_id xs x.0 x.1) in
        sym is ∙ none at

    by_cases : (k : ℕ) → InAll (old_versions_in (db 5)) ids empty k
        → get (all_old db ids empty) k ≡ get (old_versions_in (db 5)) k
    by_cases k (hit v is e) = e ∙ ap Some (old_bare db k v is) ∙ sym is
    by_cases k (miss none e) =
        e ∙ get-empty nat_cmp k ∙ sym (nothing k (get (old_versions_in (db 5)) k) refl none)

none_of : {X Y : Type 0} (read : X → Y) (rows : List X) → map read rows ≡ [] → rows ≡ []
none_of read [] e = refl
none_of read (r ∷ rows) e = absurd cc

one_of : {X Y : Type 0} (read : X → Y) (rows : List X) (y : Y) → map read rows ≡ y ∷ []
    → (r : X) × (rows ≡ r ∷ []) × (read r ≡ y)
one_of read [] y e = absurd cc
one_of read (r ∷ []) y e = (r, refl, cc)
one_of read (r ∷ s ∷ rows) y e = absurd (let same = ap length e in omega arith)

pub clock_carried : (db : Trees) (clock : Option ClockImpl)
    → IsListAnswer (All OldClock) old_clock_in db [] (map clock_seen (option_to_list clock))
    → option_map old_clock_of clock ≡ old_clock (db 12)
clock_carried db None h = sym (old_clock_is db None h.0 h.1 (none_of old_clock_in h.0 h.2))
clock_carried db (Some c) h =
    sym (old_clock_is db (Some (clock_seen c)) h.0 h.1
    (one_of old_clock_in h.0 (Some (clock_seen c)) h.2))

-- ---- the first windows of the file

-- The comparison of windows in the code.
abbrev pub are_same : Windows → Windows → Bool
are_same v w =
    (v.initial_concurrence == w.initial_concurrence)
    && ((v.final_concurrence == w.final_concurrence)
    && ((v.conflict_restriction == w.conflict_restriction)
    && ((v.conflict_resolution == w.conflict_resolution)
    && ((v.conflict_expiration == w.conflict_expiration)
    && ((v.cancellation_initial == w.cancellation_initial)
    && ((v.cancellation_final == w.cancellation_final)
    && ((v.pending_retention == w.pending_retention) && (v.broadcast == w.broadcast))))))))

are_itself : (w : Windows) → are_same w w ≡ true
are_itself w = rw (
  itself w.initial_concurrence,
  itself w.final_concurrence,
  itself w.conflict_restriction,
  itself w.conflict_resolution,
  itself w.conflict_expiration,
  itself w.cancellation_initial,
  itself w.cancellation_final,
  itself w.pending_retention,
  itself w.broadcast,
) refl

pub same_told : (v w : Windows) (told : Bool) → told ≡ are_same v w → told ≡ false → v ≢ w
same_told v w told is none same =
    true≢false (sym (is ∙ subst (λ x. are_same v x ≡ true) same (are_itself v)) ∙ none)

pub own_windows : (db : Trees) (w : Windows) (clock : Option ClockImpl)
    → IsListAnswer (All OldClock) old_clock_in db [] (map clock_seen (option_to_list clock))
    → ((c : ClockImpl) → clock ≡ Some c → windows_of c.windows ≡ w) → HasTheseWindows w db
own_windows db w None h same = λ c is. let never : None ≡ Some c = clock_carried db None h ∙ is in
    cc
own_windows db w (Some x) h same = λ c is.
    let read : Some (old_clock_of x) ≡ Some c = clock_carried db (Some x) h ∙ is in
    let seen : old_clock_of x ≡ c = cc in
    ap (λ (r : ClockRow). r.present.windows) (sym seen) ∙ same x refl

pub other_windows : (db : Trees) (w : Windows) (x : ClockImpl)
    → IsListAnswer (All OldClock) old_clock_in db [] (map clock_seen (x ∷ []))
    → (windows_of x.windows ≢ w) → HasDifferentWindows w db
other_windows db w x h differ = (old_clock_of x, sym (clock_carried db (Some x) h), differ)

pub old_shape : (f : SchemaVersion) (db : Trees) → AreOldShaped f db → IsShaped AsTable (db 5)
old_shape First db shaped = shaped.1.1.1.1.0
old_shape Modify db shaped = shaped.1.1.1.1.0

-- The clock's row names set 1, which is there.
set_carried : (after db : Trees) (f : SchemaVersion) (versions : FinMap nat_cmp VersionRow)
    (clock : Option ClockImpl)
    → content_in after ≡ content_with f versions (option_map old_clock_of clock) db
    → HasPresentSet after
set_carried after db f versions clock is row named =
    by_cases clock (ap (λ (c : Content). c.sets) is)
    (ap (option_map (with_windows (sets_in (after 17)))) (sym named)
    ∙ ap (λ (c : Content). c.clock) is)
  where
    by_cases : (clock : Option ClockImpl)
        → sets_in (after 17) ≡ first_sets (option_map old_clock_of clock)
        → Some (with_windows (sets_in (after 17)) row) ≡ option_map old_clock_of clock
        → IsSome (get (sets_in (after 17)) row.present)
    by_cases None sets same = absurd cc
    by_cases (Some x) sets same =
        let one : row.present ≡ 1 =
        ap (λ (r : ClockRow). r.present.number) (some_is _ (old_clock_of x) same) in
        subst₂ (λ m k. IsSome (get m k)) (sym sets) (sym one)
        (subst IsSome (sym (get-insert nat_cmp_total none 1 (windows_of x.windows) 1
        ∙ ap (λ b. cond b (Some (windows_of x.windows)) (get none 1))
        ((eq_by_cmp_equiv nat_cmp_total).refl 1))) refl)
      where
        none : FinMap nat_cmp Windows
        none = empty

carried : (f : SchemaVersion) (db after : Trees) (ids : List ℕ) (clock : Option ClockImpl)
    → AreOldShaped f db → HasIds ids db
    → IsListAnswer (All OldClock) old_clock_in db [] (map clock_seen (option_to_list clock))
    → AreTreesMigrated f ids clock db after → IsCarriedOver f db after
carried f db after ids clock shaped versions clocks it = record {
  content =
      it.content ∙ ap (λ m. content_with f m (option_map old_clock_of clock) db)
      (versions_carried db (old_shape f db shaped) ids versions)
      ∙ ap (λ o. content_with f (old_versions_in (db 5)) o db) (clock_carried db clock clocks);
  moved = it.moved;
  staying = it.staying;
  read = it.read;
  present = set_carried after db f _ clock it.content;
}

-- The rows read before are those that are migrated.
pub migrated : (f : SchemaVersion) (a b d e : State) (done : Bool) (ids : List ℕ)
    (clocks : List ClockImpl)
    (clock : Option ClockImpl) → HasQueried a b true → HasQueried b d true
    → (IsTrue a.is_open → HasSchemaVersion f a)
    → (IsTrue b.is_open → HasIds ids a.now.trees)
    → (IsTrue d.is_open → IsListAnswer (All OldClock) old_clock_in b.now.trees []
    (map clock_seen clocks))
    → clocks ≡ option_to_list clock → HasMigrated (AreTreesMigrated f ids clock) d e done
    → HasMigrated (IsCarried f) a e done
migrated f a b d e done ids clocks clock one two ours versions clocked is moves =
    looked_moves a d e (AreTreesMigrated f ids clock) (IsCarried f) (looked_then a b d true one two)
    (λ up after turns.
    let second = two.same refl up in
    let first = one.same refl second.was_open in
    let same = second.now ∙ first.now in
    let at_versions =
    subst (λ (db : Database). HasIds ids db.trees) (sym same) (versions second.was_open) in
    let at_clock =
    subst (λ (db : Database). IsListAnswer (All OldClock) old_clock_in db.trees []
    (map clock_seen (option_to_list clock))) (sym second.now)
    (subst (λ cs. IsListAnswer (All OldClock) old_clock_in b.now.trees [] (map clock_seen cs)) is
    (clocked up)) in
    record {
      read = moved_read d.now.trees (seen_of at_versions.0) (map clock_seen (option_to_list clock))
          at_versions.1 at_clock;
      over = carried f d.now.trees after ids clock
          (subst (λ (db : Database). AreOldShaped f db.trees) (sym same)
          (ours first.was_open).shaped) at_versions at_clock turns;
    }) done moves

pub no_item : {X : Type 0} (xs : List X) → length xs < 1 → xs ≡ []
no_item [] h = refl
no_item (x ∷ xs) h = absurd (omega (arith, h))

pub one_item : {X : Type 0} (xs : List X) (x : X) → 1 ≤ length xs → length xs < 2
    → x ≡ get_or xs 0 x → xs ≡ x ∷ []
one_item [] x low high is = absurd (omega (arith, low))
one_item (y ∷ []) x low high is = ap (λ z. z ∷ []) (sym is)
one_item (y ∷ z ∷ xs) x low high is = absurd (omega (arith, high))
