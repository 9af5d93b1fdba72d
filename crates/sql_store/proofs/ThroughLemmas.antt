-- Rows that are read one at a time.
use Rattle.std.proofs.Common.{◌≡◌, ◌⊎◌, inl, inr, ℕ, List, [], ◌∷◌, ◌++◌, Bool, Option, Some, None, Result, Ok, Err, IfOk, OnErr, OnOk, is_ok, IsTrue, true≢false, arith, false, refl, sym, ap, ap₂, subst, ◌∙◌}
use Rattle.std.proofs.lemmas.List.{map-append}
use Rattle.sqlite.specs.Clock.{timed}
use Rattle.sqlite.specs.Effect.{Database}
use Rattle.sqlite.specs.Given.{HasBegun, HasGiven, IsPlain}
use Rattle.sqlite.specs.Held.{Held, state}
use Rattle.sqlite.specs.Listing.{IsSourceOf, reads_listing, understood}
use Rattle.sqlite.specs.Order.{Row}
use Rattle.sqlite.specs.State.{State, HasCleanDisk, IsRolledBack, IsUnchanged, Shown, ShowsRows, Survives}
use Rattle.sqlite.specs.Store.{Ghosts}
use Rattle.sqlite.proofs.Callers.{begun_plain, unchanged_then}
use Rattle.sql_rows.specs.Found.{AreRead}
use Rattle.sql_rows.specs.declared.fault.Fault.{Fault}
use Rattle.sql_store.specs.Through.{HasReadAll, ReadsOn, BlankMeansNone, IsOnlyRead}
use Rattle.sql_rows.specs.Migration.{IsTableOf}
use Rattle.sql_rows.specs.Statements.{all_text}
use Rattle.sql_rows.specs.declared.migration.SchemaVersion.{SchemaVersion}
use Rattle.sql_rows.specs.declared.statement.Query.TheVariants.{All}
use Rattle.sql_rows.specs.declared.statement.Table.{Table}
use Rattle.sql_rows.proofs.MigrationLemmas.{old_query_plain}
use Rattle.sql_rows.proofs.StatementLemmas.{query_plain}
use Rattle.model.specs.Content.{VersionRow}
use Rattle.sql_rows.specs.Versions.{old_version_in}
use Rattle.sql_rows.specs.declared.statement.Table.TheVariants.{OldVersion as OldTable}
use Rattle.sql_rows.specs.declared.version_row.OldVersion.{OldVersion}
use Rattle.sql_store.specs.Migration.{AreIdsOf, HasIds, HasSchemaVersion}
use Rattle.sql_store.specs.Store.{HasStoreTables, HasQueried}
use Rattle.sql_store.specs.Whole.{IsRead}
use Rattle.sql_store.proofs.MigrationLemmas.{old_answers}
use Rattle.sql_store.proofs.CallLemmas.{answers, begins_none, both_survive, earlier, shown_open, shown_same, still_or_undone, survives_still}

-- A query that began was asked of an open connection.
begun_open : {S : Type 0} (g : Ghosts S) (sql : List ℕ) (params : Row) (old new : Held S)
    → HasBegun g sql params old new → IsTrue (state g old).is_open
begun_open g sql params old new (inl h) = h.1.0.was_open
begun_open g sql params old new (inr h) = shown_open sql params (state g old) (state g new) _ h.1

pub begins : {S : Type 0} (g : Ghosts S) (sql : List ℕ) (old new : Held S)
    → (IsTrue (state g old).is_open → IsPlain (understood old.schema sql))
    → HasBegun g sql [] old new
    → HasGiven g sql [] new [] × IsUnchanged (state g old) (state g new)
begins g sql old new plain h = begun_plain g sql [] old new (plain (begun_open g sql [] old new h))
    h

-- One more row was read.
one_more : {X : Type 0} (read : Row → Option X) (rows : List Row) (xs : List X) (r : Row)
    (x : X) → AreRead read rows xs → read r ≡ Some x → AreRead read (rows ++ r ∷ []) (xs ++ x ∷ [])
one_more read rows xs r x are is =
    map-append read rows (r ∷ []) ∙ ap₂ ◌++◌ are (ap (λ o. o ∷ []) is)
    ∙ sym (map-append Some xs (x ∷ []))

module _ (sql : List ℕ) (params : Row) where
  -- The answer of a query that changed nothing is its answer at the start.
  pub shown_from : (first old new : State) (rows : List Row)
      → IsPlain (understood first.now.schema sql) → IsUnchanged first old
      → Shown sql params old new rows → Shown sql params first new rows
  unfolding Shown
  shown_from first old new rows plain same h =
      let here = same.0.now_is in
      let none = (subst IsPlain h.1.is (subst (λ (d : Database). IsPlain (understood d.schema sql))
      (sym here) plain)).0 in
      let full = timed params h.0.formats h.1.now in
      let it = subst (ShowsRows old new sql h.0 full rows) none h.2 in (
        h.0,
        record {
          is = subst (λ (d : Database). understood d.schema sql ≡ Ok h.0) here h.1.is;
          whole = h.1.whole;
          given = h.1.given;
          now = h.1.now;
        },
        subst (ShowsRows first new sql h.0 full rows) (sym none) (
          it.0,
          subst (λ (d : Database). IsSourceOf (reads_listing d.schema sql) d it.0) here it.1,
          it.2,
          unchanged_then first old new same it.3,
        ),
      )

-- After no change, a rollback is one from the start.
pub rolled_from : (first old new : State) → IsUnchanged first old → IsUnchanged old new
    ⊎ IsRolledBack old new → IsUnchanged first new ⊎ IsRolledBack first new
rolled_from first old new same (inl it) = inl (unchanged_then first old new same it)
rolled_from first old new same (inr it) = inr (record {
  was_open = λ up. same.0.was_open;
  undone = λ up. let u = it.undone up in (u.0 ∙ same.0.committed_is, u.1 ∙ same.0.committed_is);
  autocommit = it.autocommit;
  unmarked = it.unmarked;
  counts = record {
    changes = it.counts.changes ∙ same.1.changes;
    last_rowid = it.counts.last_rowid ∙ same.1.last_rowid;
  };
})

module _ {S : Type 0} (g : Ghosts S) (first here new : Held S) (so : IsOnlyRead g first here) where
  moved_on : IsUnchanged (state g here) (state g new) → IsOnlyRead g first new
  moved_on it = elim so [
    | inl same ↦ inr (subst (λ h. IsUnchanged (state g h) (state g new)) same it)
    | inr was ↦ inr (unchanged_then (state g first) (state g here) (state g new) was it)
  ]

  rolled_on : IsUnchanged (state g here) (state g new)
      ⊎ IsRolledBack (state g here) (state g new) → IsOnlyRead g first new
      ⊎ IsRolledBack (state g first) (state g new)
  rolled_on it = elim so [
    | inl same ↦ widened (subst (λ h. IsUnchanged (state g h) (state g new)
        ⊎ IsRolledBack (state g h) (state g new)) same it)
    | inr was ↦ widened (rolled_from (state g first) (state g here) (state g new) was it)
  ]
    where
      widened : IsUnchanged (state g first) (state g new)
          ⊎ IsRolledBack (state g first) (state g new) → IsOnlyRead g first new
          ⊎ IsRolledBack (state g first) (state g new)
      widened (inl it) = inl (inr it)
      widened (inr it) = inr it

  shown_on : (sql : List ℕ) (rows : List Row)
      → IsPlain (understood (state g first).now.schema sql)
      → Shown sql [] (state g here) (state g new) rows
      → Shown sql [] (state g first) (state g new) rows
  shown_on sql rows plain it = elim so [
    | inl same ↦ subst (λ h. Shown sql [] (state g h) (state g new) rows) same it
    | inr was ↦ shown_from sql [] (state g first) (state g here) (state g new) rows plain was it
  ]

-- The rows so far were returned and read, `P` holds of them, and nothing was changed.
pub record ReadsSoFar {S X : Type 0} (g : Ghosts S) (read : Row → Option X) (P : List X → Type 0)
    (first here : Held S) : Type 0 where
  pub given : HasCleanDisk (state g here) → (sql : List ℕ) → HasGiven g sql [] first []
      → (rows : List Row) × (xs : List X) × HasGiven g sql [] here rows × AreRead read rows xs
      × P xs
  pub same : HasCleanDisk (state g here) → IsOnlyRead g first here
  pub mode : first.in_transaction ≡ false → here.in_transaction ≡ false
  pub survives : Survives (state g first) (state g here) (λ _. ⊥)

module _ {S X : Type 0} (g : Ghosts S) (read : Row → Option X) (P : List X → Type 0)
    (first : Held S) where
  -- No row has been asked for yet.
  pub reads_none : P [] → ReadsSoFar g read P first first
  reads_none told = record {
    given = λ clean sql begun. ([], [], begun, refl, told);
    same = λ clean. inl refl;
    mode = λ idle. idle;
    survives = survives_still (state g first);
  }

  module _ (here new : Held S) (so : ReadsSoFar g read P first here)
      (survives : Survives (state g here) (state g new) (λ _. ⊥)) where
    before : HasCleanDisk (state g new) → HasCleanDisk (state g here)
    before = earlier (state g first) (state g here) (state g new) survives

    -- One more row was read, and `Q` holds with it.
    pub reads_one : (Q : List X → Type 0) (x : X) → ((xs : List X) → P xs → Q (xs ++ x ∷ []))
        → (HasCleanDisk (state g new) → (sql : List ℕ) (given : List Row)
        → HasGiven g sql [] here given → ReadsOn g read sql here new given (Some x))
        → (HasCleanDisk (state g new) → IsUnchanged (state g here) (state g new))
        → (here.in_transaction ≡ false → new.in_transaction ≡ false) → ReadsSoFar g read Q first new
    reads_one Q x more reads same mode = record {
      given = λ clean sql begun.
          let (rows, xs, given, are, told) = so.given (before clean) sql begun in
          let (row, now, is) = reads clean sql rows given in
          (rows ++ row ∷ [], xs ++ x ∷ [], now, one_more read rows xs row x are is, more xs told);
      same = λ clean. moved_on g first here new (so.same (before clean)) (same clean);
      mode = λ idle. mode (so.mode idle);
      survives = both_survive (state g first) (state g here) (state g new) so.survives survives;
    }

    -- No row is left.
    pub reads_all : (HasCleanDisk (state g new) → (sql : List ℕ) (given : List Row)
        → HasGiven g sql [] here given → ReadsOn g read sql here new given None)
        → HasCleanDisk (state g new) → (sql : List ℕ)
        → IsPlain (understood (state g first).now.schema sql) → HasGiven g sql [] first []
        → HasReadAll read sql (state g first) (state g new) P
    reads_all reads clean sql plain begun =
        let (rows, xs, given, are, told) = so.given (before clean) sql begun in (
          rows,
          xs,
          shown_on g first here new (so.same (before clean)) sql rows plain (reads clean sql rows
              given),
          are,
          told,
        )

    -- The next row could not be read.
    pub reads_no_more : (HasCleanDisk (state g new) → IsUnchanged (state g here) (state g new)
        ⊎ IsRolledBack (state g here) (state g new)) → HasCleanDisk (state g new)
        → IsOnlyRead g first new ⊎ IsRolledBack (state g first) (state g new)
    reads_no_more left clean = rolled_on g first here new (so.same (before clean)) (left clean)

-- The same holds from where the query was asked.
module _ {S : Type 0} (g : Ghosts S) (first here new : Held S) (was : IsUnchanged (state g first)
    (state g here)) where
  pub left_from : IsOnlyRead g here new ⊎ IsRolledBack (state g here) (state g new)
      → IsUnchanged (state g first) (state g new) ⊎ IsRolledBack (state g first) (state g new)
  left_from (inl (inl same)) =
      inl (subst (λ h. IsUnchanged (state g first) (state g h)) (sym same) was)
  left_from (inl (inr it)) = rolled_from (state g first) (state g here) (state g new) was (inl it)
  left_from (inr it) = rolled_from (state g first) (state g here) (state g new) was (inr it)

-- The query was asked with this text.
module _ {S : Type 0} (g : Ghosts S) (sql : List ℕ) {text : List ℕ} (is : text ≡ sql)
    (first here new : Held S)
    (plain : IsTrue (state g first).is_open → IsPlain (understood first.schema sql))
    (asked : HasCleanDisk (state g here) → HasBegun g text [] first here)
    (survives : Survives (state g here) (state g new) (λ _. ⊥)) where
  begun : HasCleanDisk (state g new) → HasBegun g sql [] first here
  begun clean = subst (λ t. HasBegun g t [] first here) is
      (asked (earlier (state g first) (state g here) (state g new) survives clean))

  -- What was read, from its start.
  pub read_from : {R X : Type 0} (read : Row → Option X) (P : R → List X
      → Type 0) (r : Result R Fault)
      → (HasCleanDisk (state g new) → IfOk r (λ a. (sql : List ℕ)
      → IsPlain (understood (state g here).now.schema sql) → HasGiven g sql [] here []
      → HasReadAll read sql (state g here) (state g new) (P a)))
      → HasCleanDisk (state g new)
      → IfOk r (λ a. HasReadAll read sql (state g first) (state g new) (P a))
  read_from read P (Err e) it clean = tt
  read_from read P (Ok a) it clean =
      let (given, was) = begins g sql first here plain (begun clean) in
      let known = plain was.0.was_open in
      let (rows, xs, shown, are, so) =
      it clean sql (subst (λ (d : Database). IsPlain (understood d.schema sql)) (sym was.0.now_is)
      known) given in (
        rows,
        xs,
        shown_from sql [] (state g first) (state g here) (state g new) rows known was shown,
        are,
        so,
      )

  pub err_from : {R : Type 0} (r : Result R Fault) → (HasCleanDisk (state g new)
      → OnErr r (IsOnlyRead g here new ⊎ IsRolledBack (state g here) (state g new)))
      → HasCleanDisk (state g new) → OnErr r (IsUnchanged (state g first) (state g new)
      ⊎ IsRolledBack (state g first) (state g new))
  err_from (Ok a) it clean = tt
  err_from (Err e) it clean =
      left_from g first here new (begins g sql first here plain (begun clean)).1 (it clean)

-- ---- the rows of a table

-- A read of all rows changed nothing.
pub table_looked : {X R : Type 0} (read : Row → Option X) (P : R → List X → Type 0) (sql : List ℕ)
    (old new : State) (r : Result R Fault)
    → (IsTrue old.is_open → IsPlain (understood old.now.schema sql))
    → (IsTrue new.is_open → HasCleanDisk new)
    → (HasCleanDisk new → IfOk r (λ a. HasReadAll read sql old new (P a)))
    → (HasCleanDisk new → OnErr r (IsUnchanged old new ⊎ IsRolledBack old new))
    → Survives old new (λ _. ⊥) → HasQueried old new (is_ok r)
table_looked read P sql old new (Ok a) plain clean_of all err survives = record {
  same = λ _ up. let it = unchanged (clean_of up) in record {
    was_open = it.0.was_open;
    now = it.0.now_is;
    committed = it.0.committed_is;
  };
  undone = λ up. still_or_undone sql [] old new up (inl (unchanged (clean_of up)));
  mode = λ up. begins_none sql [] old new (inl (unchanged (clean_of up)));
  stays = λ ok clean. (unchanged clean).0.is_open;
  honest = λ clean. omega (arith, survives.clean, clean);
  survives = survives;
}
  where
    unchanged : HasCleanDisk new → IsUnchanged old new
    unchanged clean = let h = all clean in
        shown_same sql [] old new h.0 (plain (shown_open sql [] old new h.0 h.2)) h.2
table_looked read P sql old new (Err e) plain clean_of all err survives = record {
  same = λ no. absurd (true≢false (sym no));
  undone = λ up. still_or_undone sql [] old new up (err (clean_of up));
  mode = λ up. begins_none sql [] old new (err (clean_of up));
  stays = λ no. absurd (true≢false (sym no));
  honest = λ clean. omega (arith, survives.clean, clean);
  survives = survives;
}

module _ {X : Type 0} (read : Row → Option X) (table : Table) (old new : State) where
  pub ours_plain : (IsTrue old.is_open → HasStoreTables old) → IsTrue old.is_open
      → IsPlain (understood old.now.schema (all_text table))
  ours_plain ours was = subst (λ k. IsPlain (understood k (all_text table))) (sym (ours was).schema)
      (query_plain (All table))

  pub old_plain : (f : SchemaVersion) → IsTableOf table f
      → (IsTrue old.is_open → HasSchemaVersion f old)
      → IsTrue old.is_open → IsPlain (understood old.now.schema (all_text table))
  old_plain f has ours was =
      subst (λ k. IsPlain (understood k (all_text table))) (sym (ours was).schema)
      (old_query_plain f table has)

  pub ours_read : (IsTrue old.is_open → HasStoreTables old) → (r : Result Bool Fault)
      → IfOk r (λ blank. HasReadAll read (all_text table) old new (BlankMeansNone blank))
      → IfOk r (IsRead table read old.now.trees)
  ours_read ours (Err e) it = tt
  ours_read ours (Ok blank) (rows, xs, shown, are, none) = (
    xs,
    (
      rows,
      answers (All table) [] old new ours rows (shown_open (all_text table) [] old new rows shown)
          shown,
      are,
    ),
    none,
  )

  pub old_read : (f : SchemaVersion) → IsTableOf table f
      → (IsTrue old.is_open → HasSchemaVersion f old)
      → (r : Result Bool Fault)
      → IfOk r (λ blank. HasReadAll read (all_text table) old new (BlankMeansNone blank))
      → OnOk r (IsRead table read old.now.trees false)
  old_read f has ours (Err e) it = tt
  old_read f has ours (Ok blank) (rows, xs, shown, are, none) = (
    xs,
    (
      rows,
      old_answers f table has old new ours rows (shown_open (all_text table) [] old new rows shown)
          shown,
      are,
    ),
    λ no. absurd (true≢false (sym no)),
  )

-- ---- the ids of the versions in a file with an earlier schema

-- One more version was read.
pub more_ids : (ids : List ℕ) (seen : List (ℕ × VersionRow)) (x : OldVersion) (more : List ℕ)
    → more ≡ ids ++ x.version.id ∷ [] → AreIdsOf ids seen
    → AreIdsOf more (seen ++ (x.version.id, x.version.row) ∷ [])
more_ids ids seen x more is (xs, same, own) = (
  xs ++ x ∷ [],
  ap (λ l. l ++ (x.version.id, x.version.row) ∷ []) same ∙ sym (map-append _ xs (x ∷ [])),
  is ∙ ap (λ l. l ++ x.version.id ∷ []) own ∙ sym (map-append _ xs (x ∷ [])),
)

pub ids_read : (f : SchemaVersion) (old new : State) → (IsTrue old.is_open → HasSchemaVersion f old)
    → {R : Type 0} (items : R → List ℕ) (r : Result R Fault)
    → IfOk r (λ ids. HasReadAll old_version_in (all_text OldTable) old new (AreIdsOf (items ids)))
    → IfOk r (λ ids. HasIds (items ids) old.now.trees)
ids_read f old new ours items (Err e) it = tt
ids_read f old new ours items (Ok ids) (rows, seen, shown, are, (xs, same, own)) = (
  xs,
  (
    rows,
    old_answers f OldTable tt old new ours rows (shown_open (all_text OldTable) [] old new rows
        shown) shown,
    subst (AreRead old_version_in rows) same are,
  ),
  own,
)
