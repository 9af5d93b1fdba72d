-- What calls leave of the connection, whatever their results.
use Rattle.std.proofs.Common.{◌≡◌, ◌⊎◌, inl, inr, ℕ, List, [], Bool, true, false, Option, Some, None, refl, sym, ap, subst, ◌∙◌, IsTrue, true≢false, Result, Ok, Err, arith}
use Rattle.std.specs.Prelude.{IfOk, IfErr, OnErr, OnOk, is_ok, not}
pub use Rattle.sql_store.specs.Store.{clean_if_open}
use Rattle.model.specs.Content.{Content}
use Rattle.sqlite.specs.Effect.{Database}
use Rattle.sqlite.specs.Order.{Row}
use Rattle.sqlite.specs.Tree.{Trees}
use Rattle.sqlite.specs.declared.error.Error.{Error}
use Rattle.sqlite.specs.Listing.{understood}
use Rattle.sqlite.specs.Clock.{timed}
use Rattle.sqlite.specs.Store.{Ghosts}
use Rattle.sqlite.specs.Held.{Held, state}
use Rattle.sqlite.specs.State.{State, HasCleanDisk, IsUnchanged, IsRolledBack, Survives, Shown, ShowsRows, FailsToQuery, FailsToShow, IsNotRun, CommitsShowing, ExecutesInside, Executes, Shows}
use Rattle.sqlite_resolve.specs.Compile.{first}
use Rattle.sqlite.proofs.Callers.{IsPlain, reads_as}
use Rattle.sqlite.proofs.StateLemmas.{survives_then, survives_weaker}
use Rattle.sqlite.specs.Query.{IsAnswer}
use Rattle.sqlite.specs.declared.types.Value.TheVariants.{Null}
use Rattle.sqlite.specs.Program.{overlay}
use Rattle.sql_rows.specs.Tables.{the_schema}
use Rattle.sql_rows.specs.Shaped.{AreShaped}
use Rattle.sql_rows.specs.Content.{content_in}
use Rattle.sql_rows.specs.Statements.{query_text, query_of}
use Rattle.sql_rows.specs.declared.statement.Query.{Query}
use Rattle.sql_rows.specs.Written.{Removed, AddedBy, Replaced}
use Rattle.sql_rows.specs.declared.statement.Table.{Table}
use Rattle.sql_rows.proofs.TableLemmas.{removed_shaped}
use Rattle.sql_rows.proofs.PutLemmas.{Became}
use Rattle.sql_rows.proofs.StatementLemmas.{Selects, query_is, query_plain, query_selects, query_unlisted}
use Rattle.sql_store.proofs.Showing.{ShowsNone, never_shows, understood_none}
use Rattle.sql_store.proofs.TransactionLemmas.{undone_of}
use Rattle.sql_store.specs.Transactions.{HasEnded, IsUndone}
use Rattle.sql_store.specs.Store.{CommitLeaves, settled, content_at, HasStoreTables, IsIdle, IsSame, IsSameOrUndone, HasEndedGroup, HasQueried, HasCommitted, HasWritten, HasWrittenOver, IsInTransaction, HasCommittedNothing, AppliesInTransaction, IsTransactionProgress, WritesInTransaction}

module _ (sql : List ℕ) (params : Row) (old new : State) where
  pub shown_open : (rows : List Row) → Shown sql params old new rows → IsTrue old.is_open
  unfolding Shown
  shown_open rows h = by_cases h.0.returning h.2
    where
      by_cases : (o : Option _) → ShowsRows old new sql h.0 (timed params h.0.formats h.1.now) rows
          o
          → IsTrue old.is_open
      by_cases None it = it.3.0.was_open
      by_cases (Some what) it = it.1.shown.was_open

  pub shown_same : (rows : List Row) → IsPlain (understood old.now.schema sql)
      → Shown sql params old new rows → IsUnchanged old new
  unfolding Shown
  shown_same rows plain h =
      (subst (ShowsRows old new sql h.0 (timed params h.0.formats h.1.now) rows)
      (subst IsPlain h.1.is plain).0 h.2).3

  -- A text that begins with a query changes nothing, whatever the tables.
  pub shown_unchanged : (rows : List Row) → Selects (first sql) → Shown sql params old new rows
      → IsUnchanged old new
  unfolding Shown
  shown_unchanged rows selects h =
      (subst (ShowsRows old new sql h.0 (timed params h.0.formats h.1.now) rows)
      (subst ShowsNone h.1.is (understood_none old.now.schema sql selects)) h.2).3

  -- A query that fails changes nothing, or rolls back.
  pub fails_as : (e : Error) → FailsToQuery sql params old new e → IsUnchanged old new
      ⊎ IsRolledBack old new
  unfolding FailsToQuery IsNotRun
  fails_as e (inl (inl unrun)) = inl unrun.1
  fails_as e (inl (inr fails)) = inr fails.3
  fails_as e (inr h) = by_cases h.0.returning h.2
    where
      by_cases : (o : Option _) → FailsToShow old new sql h.0 (timed params h.0.formats h.1.now) e o
          → IsUnchanged old new ⊎ IsRolledBack old new
      by_cases None it = inl it.3
      by_cases (Some what) (inl it) = inl it.1
      by_cases (Some what) (inr it) = inr it.3

  pub fails_open : (e : Error) → IsTrue new.is_open → FailsToQuery sql params old new e
      → IsTrue old.is_open
  unfolding FailsToQuery IsNotRun
  fails_open e is_open (inl (inl unrun)) = unrun.1.0.was_open
  fails_open e is_open (inl (inr fails)) = fails.3.was_open is_open
  fails_open e is_open (inr h) = by_cases h.0.returning h.2
    where
      by_cases : (o : Option _) → FailsToShow old new sql h.0 (timed params h.0.formats h.1.now) e o
          → IsTrue old.is_open
      by_cases None it = it.3.0.was_open
      by_cases (Some what) (inl it) = it.1.0.was_open
      by_cases (Some what) (inr it) = it.3.was_open is_open

  pub fails_same : (e : Error) → IsPlain (understood old.now.schema sql)
      → FailsToQuery sql params old new e → IsUnchanged old new ⊎ IsRolledBack old new
  unfolding FailsToQuery IsNotRun
  fails_same e plain (inl (inl unrun)) = inl unrun.1
  fails_same e plain (inl (inr fails)) = inr fails.3
  fails_same e plain (inr h) =
      inl (subst (FailsToShow old new sql h.0 (timed params h.0.formats h.1.now) e)
      (subst IsPlain h.1.is plain).0 h.2).3

  pub same_of : IsUnchanged old new → IsSame old new
  same_of it = record {
    was_open = it.0.was_open;
    now = it.0.now_is;
    committed = it.0.committed_is;
  }

  pub still_or_undone : IsTrue new.is_open → IsUnchanged old new ⊎ IsRolledBack old new
      → IsSameOrUndone old new
  still_or_undone up (inl it) = record {
    was_open = it.0.was_open;
    now = inl it.0.now_is;
    committed = it.0.committed_is;
  }
  still_or_undone up (inr it) = record {
    was_open = it.was_open up;
    now = inr (it.undone up).0;
    committed = (it.undone up).1;
  }

  pub begins_none : IsUnchanged old new ⊎ IsRolledBack old new → old.in_transaction ≡ false
      → new.in_transaction ≡ false
  begins_none (inl it) idle = it.0.mode ∙ idle
  begins_none (inr it) idle = it.autocommit

  module _ (plain : IsTrue old.is_open → IsPlain (understood old.now.schema sql)) where
    -- A query that answers leaves the store unchanged.
    pub query_leaves : (rows : List Row) → Shown sql params old new rows → IsUnchanged old new
    query_leaves rows h = shown_same rows (plain (shown_open rows h)) h

    pub query_err_leaves : (e : Error) → IsTrue new.is_open → FailsToQuery sql params old new e
        → IsUnchanged old new ⊎ IsRolledBack old new
    query_err_leaves e is_open h = fails_same e (plain (fails_open e is_open h)) h

  pub query_commits_nothing : Selects (first sql) → Survives old new (CommitsShowing sql params old)
      → Survives old new (λ _. ⊥)
  query_commits_nothing selects =
      survives_weaker old new _ _ (λ _ db. never_shows sql params old db selects)

-- ---- queries

module _ (query : Query) (params : Row) (old new : State) (ours : IsTrue old.is_open
    → HasStoreTables old) where
  plain : IsTrue old.is_open → IsPlain (understood old.now.schema (query_text query))
  plain was = subst (λ k. IsPlain (understood k (query_text query))) (sym (ours was).schema)
      (query_plain query)

  pub looked_ok : (rows : List Row) → (IsTrue new.is_open → HasCleanDisk new)
      → (HasCleanDisk new → Shown (query_text query) params old new rows)
      → Survives old new (CommitsShowing (query_text query) params old) → HasQueried old new true
  looked_ok rows clean shown survives = record {
    same = λ ok up. same_of (query_text query) params old new (unchanged (clean up));
    undone = λ up.
        still_or_undone (query_text query) params old new up (inl (unchanged (clean up)));
    mode = λ up.
        begins_none (query_text query) params old new (inl (unchanged (clean up)));
    stays = λ ok done. (unchanged done).0.is_open;
    honest = λ done. omega (arith, survives.clean, done);
    survives = query_commits_nothing (query_text query) params old new (query_selects query)
        survives;
  }
    where
      unchanged : HasCleanDisk new → IsUnchanged old new
      unchanged done = query_leaves (query_text query) params old new plain rows (shown done)

  pub looked_err : (e : Error) → (IsTrue new.is_open → HasCleanDisk new)
      → (HasCleanDisk new → FailsToQuery (query_text query) params old new e)
      → Survives old new (CommitsShowing (query_text query) params old) → HasQueried old new false
  looked_err e clean fails survives = record {
    same = λ no. absurd (true≢false (sym no));
    undone = λ up. still_or_undone (query_text query) params old new up (left up);
    mode = λ up. begins_none (query_text query) params old new (left up);
    stays = λ no done. absurd (true≢false (sym no));
    honest = λ done. omega (arith, survives.clean, done);
    survives = query_commits_nothing (query_text query) params old new (query_selects query)
        survives;
  }
    where
      left : IsTrue new.is_open → IsUnchanged old new ⊎ IsRolledBack old new
      left up = query_err_leaves (query_text query) params old new plain e up (fails (clean up))

  pub answers : (rows : List Row) → IsTrue old.is_open
      → Shown (query_text query) params old new rows
      → IsAnswer (query_of query) (overlay old.now.trees []) params rows
  answers rows was shown =
      (reads_as (query_text query) params old new the_schema (ours was).schema _ (query_is query)
      (query_plain query) (query_unlisted query) rows shown).answer Null

-- If the tables are as they were or as at the last commit, they are still the store's.
pub still_ours : (old new : State) → IsSameOrUndone old new → HasStoreTables old
    → HasStoreTables new
still_ours old new kept our = record {
  schema = schema kept.now;
  shaped = shaped kept.now;
  last_schema = ap (λ (d : Database). d.schema) kept.committed ∙ our.last_schema;
  last_shaped = subst (λ (d : Database). AreShaped d.trees) (sym kept.committed) our.last_shaped;
}
  where
    schema : (new.now ≡ old.now) ⊎ (new.now ≡ old.committed) → new.now.schema ≡ the_schema
    schema (inl same) = ap (λ (d : Database). d.schema) same ∙ our.schema
    schema (inr back) = ap (λ (d : Database). d.schema) back ∙ our.last_schema

    shaped : (new.now ≡ old.now) ⊎ (new.now ≡ old.committed) → AreShaped new.now.trees
    shaped (inl same) = subst (λ (d : Database). AreShaped d.trees) (sym same) our.shaped
    shaped (inr back) = subst (λ (d : Database). AreShaped d.trees) (sym back) our.last_shaped

pub looked_ours : (old new : State) (answered : Bool) → (IsTrue old.is_open → HasStoreTables old)
    → HasQueried old new answered → IsTrue new.is_open → HasStoreTables new
looked_ours old new answered ours looked up =
    let kept = looked.undone up in still_ours old new kept (ours kept.was_open)

-- Where nothing is uncommitted, the tables stay as they were.
pub kept_settled : (old new : State) → old.now ≡ old.committed → IsSameOrUndone old new
    → IsSame old new
kept_settled old new same kept = record {
  was_open = kept.was_open;
  now = now kept.now;
  committed = kept.committed;
}
  where
    now : (new.now ≡ old.now) ⊎ (new.now ≡ old.committed) → new.now ≡ old.now
    now (inl it) = it
    now (inr it) = it ∙ sym same

pub still_idle : (old new : State) → IsIdle old → IsSameOrUndone old new
    → new.in_transaction ≡ false → IsIdle new
still_idle old new idle kept mode =
    let same = kept_settled old new (settled old idle) kept in
    let now = same.now ∙ settled old idle ∙ sym same.committed in
    record {
      mode = mode;
      same_schema = ap (λ (d : Database). d.schema) now;
      same_trees = ap (λ (d : Database). d.trees) now;
    }

-- A read between transactions leaves no transaction.
pub looked_idle : (old new : State) (answered : Bool) → (IsTrue old.is_open → IsIdle old)
    → HasQueried old new answered → IsTrue new.is_open → IsIdle new
looked_idle old new answered idle looked up =
    let kept = looked.undone up in
    let was = idle kept.was_open in
    still_idle old new was kept (looked.mode up was.mode)

-- Whether a query answers or fails, it only reads.
pub looked : {A : Type 0} (query : Query) (params : Row) (old new : State)
    → (ours : IsTrue old.is_open → HasStoreTables old) → (result : Result A Error)
    → (rows : A → List Row) → (IsTrue new.is_open → HasCleanDisk new)
    → (HasCleanDisk new
    → IfOk result (λ a. Shown (query_text query) params old new (rows a)))
    → (HasCleanDisk new → IfErr result (FailsToQuery (query_text query) params old new))
    → Survives old new (CommitsShowing (query_text query) params old)
    → HasQueried old new (is_ok result)
looked query params old new ours (Ok a) rows clean shown fails survives =
    looked_ok query params old new ours (rows a) clean shown survives
looked query params old new ours (Err e) rows clean shown fails survives =
    looked_err query params old new ours e clean fails survives

-- After a call that changed nothing, what was undone is what was uncommitted before it.
pub same_then : (a b d : State) → IsSame a b → IsSameOrUndone b d → IsSameOrUndone a d
same_then a b d one two = record {
  was_open = one.was_open;
  now = now two.now;
  committed = two.committed ∙ one.committed;
}
  where
    now : (d.now ≡ b.now) ⊎ (d.now ≡ b.committed) → (d.now ≡ a.now) ⊎ (d.now ≡ a.committed)
    now (inl same) = inl (same ∙ one.now)
    now (inr back) = inr (back ∙ one.committed)

-- Two reads in order are a read.
pub looked_then : (a b d : State) (answered : Bool) → HasQueried a b true → HasQueried b d answered
    → HasQueried a d answered
looked_then a b d answered one two = record {
  same = λ ok up.
      let later = two.same ok up in
      let sooner = one.same refl later.was_open in
      record {
        was_open = sooner.was_open;
        now = later.now ∙ sooner.now;
        committed = later.committed ∙ sooner.committed;
      };
  undone = λ up.
      let later = two.undone up in same_then a b d (one.same refl later.was_open) later;
  mode = λ up idle. two.mode up (one.mode (two.undone up).was_open idle);
  honest = λ done. one.honest (two.honest done);
  stays = two.stays;
  survives = survives_then a b d _ _ _ (λ _ db none. none) (λ _ db none. none) one.survives
      two.survives;
}

-- ---- calls in a transaction

-- An execution in a transaction keeps the last commit.
inside_keeps : (sql : List ℕ) (params : Row) (old new : State) (r : Result ℕ Error)
    → IsTrue new.is_open → ExecutesInside 0 sql params old new r → HasCommittedNothing old new
inside_keeps sql params old new (Ok n) up h = record {
  was_open = h.1.was_open;
  committed = h.1.committed_is;
}
inside_keeps sql params old new (Err e) up (inl (ran, inl it)) = record {
  was_open = it.0.was_open;
  committed = it.0.committed_is;
}
inside_keeps sql params old new (Err e) up (inl (ran, inr it)) = record {
  was_open = it.was_open up;
  committed = (it.undone up).1;
}
inside_keeps sql params old new (Err e) up (inr it) = record {
  was_open = it.2.0.was_open;
  committed = it.2.0.committed_is;
}

same_keeps : {S : Type 0} (g : Ghosts S) (old new : Held S) → new ≡ old
    → IsTrue (state g new).is_open → HasCommittedNothing (state g old) (state g new)
same_keeps g old new e up =
    subst (λ h. IsTrue (state g h).is_open → HasCommittedNothing (state g old) (state g h))
    (sym e) (λ u. record { was_open = u; committed = refl }) up

pub call_keeps : {S A : Type 0} (g : Ghosts S) (old new : Held S) (sql : List ℕ) (params : Row)
    (r : Result ℕ Error) → IsTrue (state g new).is_open → ((state g old).in_transaction ≡ false
    → A × (new ≡ old))
    → (IsTrue (state g old).in_transaction → ExecutesInside 0 sql params (state g old) (state g new)
    r) → HasCommittedNothing (state g old) (state g new)
call_keeps {A = A} g old new sql params r up ended runs =
    by_cases (state g old).in_transaction ended runs
  where
    by_cases : (b : Bool) → (b ≡ false → A × (new ≡ old))
        → (IsTrue b → ExecutesInside 0 sql params (state g old) (state g new) r)
        → HasCommittedNothing (state g old) (state g new)
    by_cases true ended runs = inside_keeps sql params (state g old) (state g new) r up (runs refl)
    by_cases false ended runs = same_keeps g old new (ended refl).1 up

-- A statement is executed in a transaction.
pub statement_writes : {S A : Type 0} (g : Ghosts S) (old new : Held S) (sql : List ℕ)
    (params : Row) (r : Result ℕ Error) (done : Bool) (Did : Database → Database → Type 0)
    → (IsTrue (state g new).is_open → HasCleanDisk (state g new))
    → ((state g old).in_transaction ≡ false → A × (new ≡ old))
    → (HasCleanDisk (state g new) → IsTrue (state g old).in_transaction
    → ExecutesInside 0 sql params (state g old) (state g new) r)
    → Survives (state g old) (state g new) (λ _. ⊥) → (IsTrue done → (count : ℕ) × (r ≡ Ok count))
    → ((count : ℕ) → IsInTransaction (state g old)
    → Executes sql params (state g old) (state g new) (Ok count)
    → Did (state g old).now (state g new).now)
    → WritesInTransaction (state g old) (state g new) done Did
statement_writes g old new sql params r done Did clean_of ended runs survives counts means =
    record {
      wrote = λ ok clean inside.
          let n = counts ok in
          let h = subst (ExecutesInside 0 sql params (state g old) (state g new)) n.1
          (runs clean inside.inside) in
          record {
            is_open = h.1.is_open;
            inside = h.1.mode;
            committed = h.1.committed_is;
            did = means n.0 inside h.0;
          };
      kept = λ up. call_keeps g old new sql params r up ended (runs (clean_of up));
      survives = survives;
    }

-- ---- changes in order

-- No change survives as it is.
pub survives_still : (a : State) → Survives a a (λ _. ⊥)
survives_still a = record {
  clean = omega arith;
  shield = λ s. s;
  counts = omega arith;
  limit = refl;
  closes = λ clean up. inl up;
  crash = λ clean db may. inl may;
}

module _ (a b c : State) where
  pub kept_then : (IsTrue b.is_open → HasCommittedNothing a b)
      → (IsTrue c.is_open → HasCommittedNothing b c) → IsTrue c.is_open
      → HasCommittedNothing a c
  kept_then first two up = let k = two up in let j = first k.was_open in record {
    was_open = j.was_open;
    committed = k.committed ∙ j.committed;
  }

  pub both_survive : Survives a b (λ _. ⊥) → Survives b c (λ _. ⊥) → Survives a c (λ _. ⊥)
  both_survive first two = survives_then a b c _ _ _ (λ clean db bad. bad) (λ clean db bad. bad)
      first two

  pub earlier : Survives b c (λ _. ⊥) → HasCleanDisk c → HasCleanDisk b
  earlier two clean = omega (arith, clean, two.clean)

  pub makes_then : (done : Bool) (f g : Content → Content) → AppliesInTransaction a b true f
      → AppliesInTransaction b c done g
      → AppliesInTransaction a c done (λ m. g (f m))
  makes_then done f g first two = record {
    made = λ ok clean inside.
        let one = first.made refl (earlier two.survives clean) inside in
        let more = two.made ok clean one.inside in
        record {
          inside = more.inside;
          committed = more.committed ∙ one.committed;
          is = more.is ∙ ap g one.is;
        };
    kept = kept_then first.kept two.kept;
    survives = both_survive first.survives two.survives;
  }

  -- Two statements together make this change of the content.
  pub two_made : (done : Bool) (First Second : Database → Database → Type 0) (change : Content
      → Content) → WritesInTransaction a b true First → WritesInTransaction b c done Second
      → (AreShaped a.now.trees → First a.now b.now → (b.now.schema ≡ the_schema)
      × AreShaped b.now.trees)
      → (AreShaped a.now.trees → First a.now b.now → Second b.now c.now
      → Became c.now (change (content_at a))) → AppliesInTransaction a c done change
  two_made done First Second change first two between means = record {
    made = λ ok clean inside.
        let one = first.wrote refl (earlier two.survives clean) inside in
        let m = between inside.shaped one.did in
        let then = two.wrote ok clean (record {
          is_open = one.is_open;
          inside = one.inside;
          schema = m.0;
          shaped = m.1;
        }) in
        let w = means inside.shaped one.did then.did in
        record {
          inside = record {
            is_open = then.is_open;
            inside = then.inside;
            schema = w.schema;
            shaped = w.shaped;
          };
          committed = then.committed ∙ one.committed;
          is = w.is;
        };
    kept = kept_then first.kept two.kept;
    survives = both_survive first.survives two.survives;
  }

  -- Two statements together change the tables so.
  pub two_wrote : (done : Bool) (First Second Whole : Database → Database → Type 0)
      → WritesInTransaction a b true First → WritesInTransaction b c done Second
      → (AreShaped a.now.trees → First a.now b.now → (b.now.schema ≡ the_schema)
      × AreShaped b.now.trees)
      → (First a.now b.now → Second b.now c.now → Whole a.now c.now)
      → WritesInTransaction a c done Whole
  two_wrote done First Second Whole first two between means = record {
    wrote = λ ok clean inside.
        let one = first.wrote refl (earlier two.survives clean) inside in
        let m = between inside.shaped one.did in
        let then = two.wrote ok clean (record {
          is_open = one.is_open;
          inside = one.inside;
          schema = m.0;
          shaped = m.1;
        }) in
        record {
          is_open = then.is_open;
          inside = then.inside;
          committed = then.committed ∙ one.committed;
          did = means one.did then.did;
        };
    kept = kept_then first.kept two.kept;
    survives = both_survive first.survives two.survives;
  }

  pub two_stop : (First Second : Database → Database → Type 0) (change : Content → Content)
      → WritesInTransaction a b true First → WritesInTransaction b c false Second
      → AppliesInTransaction a c false change
  two_stop First Second change first two = record {
    made = λ no. absurd (true≢false (sym no));
    kept = kept_then first.kept two.kept;
    survives = both_survive first.survives two.survives;
  }

  pub two_unwritten : (First Second Whole : Database → Database → Type 0)
      → WritesInTransaction a b true First → WritesInTransaction b c false Second
      → WritesInTransaction a c false Whole
  two_unwritten First Second Whole first two = record {
    wrote = λ no. absurd (true≢false (sym no));
    kept = kept_then first.kept two.kept;
    survives = both_survive first.survives two.survives;
  }

  -- One more of many changes is made.
  pub goes_then : (f left next whole : Content → Content) → IsTransactionProgress a b left whole
      → AppliesInTransaction b c true f
      → ((m : Content) → next (f m) ≡ left m) → IsTransactionProgress a c next whole
  goes_then f left next whole first two same = record {
    inside = λ clean inside. (two.made refl clean (first.inside (earlier two.survives clean)
        inside)).inside;
    committed =
        λ clean inside. (two.made refl clean (first.inside (earlier two.survives clean)
        inside)).committed ∙ first.committed (earlier two.survives clean) inside;
    is = λ clean inside.
        ap next (two.made refl clean (first.inside (earlier two.survives clean) inside)).is
        ∙ same (content_at b) ∙ first.is (earlier two.survives clean) inside;
    kept = kept_then first.kept two.kept;
    survives = both_survive first.survives two.survives;
  }

module _ (a b c : State) (t : Table) (key params : Row) where
  -- A deletion and an insertion replace a row.
  pub replaces : (done : Bool) → WritesInTransaction a b true (Removed t key)
      → WritesInTransaction b c done (AddedBy t params)
      → WritesInTransaction a c done (Replaced t key params)
  replaces done first two = record {
    wrote = λ ok clean inside.
        let one = first.wrote refl (earlier a b c two.survives clean) inside in
        let then = two.wrote ok clean (record {
          is_open = one.is_open;
          inside = one.inside;
          schema = one.did.schema;
          shaped = removed_shaped t key a.now b.now inside.shaped one.did;
        }) in
        record {
          is_open = then.is_open;
          inside = then.inside;
          committed = then.committed ∙ one.committed;
          did = record { mid = b.now; removed = one.did; added = then.did };
        };
    kept = kept_then a b c first.kept two.kept;
    survives = both_survive a b c first.survives two.survives;
  }

module _ (a b : State) where
  -- A failed statement made nothing.
  pub writes_nothing : (Did Would : Database → Database → Type 0)
      → WritesInTransaction a b false Did
      → WritesInTransaction a b false Would
  writes_nothing Did Would it = record {
    wrote = λ bad. absurd (true≢false (sym bad));
    kept = it.kept;
    survives = it.survives;
  }

  pub writes_as : (done : Bool) (Did Would : Database → Database → Type 0)
      → (Did a.now b.now → Would a.now b.now) → WritesInTransaction a b done Did
      → WritesInTransaction a b done Would
  writes_as done Did Would means it = record {
    wrote = λ ok clean inside. let w = it.wrote ok clean inside in record {
      is_open = w.is_open;
      inside = w.inside;
      committed = w.committed;
      did = means w.did;
    };
    kept = it.kept;
    survives = it.survives;
  }

  -- A change of the tables is this change of the content.
  pub makes : (done : Bool) (Did : Database → Database → Type 0) (change : Content → Content)
      → WritesInTransaction a b done Did
      → (IsInTransaction a → Did a.now b.now → (b.now.schema ≡ the_schema) × AreShaped b.now.trees
      × (content_in b.now.trees ≡ change (content_in a.now.trees)))
      → AppliesInTransaction a b done change
  makes done Did change it means = record {
    made = λ ok clean inside.
        let w = it.wrote ok clean inside in
        let m = means inside w.did in
        record {
          inside = record { is_open = w.is_open; inside = w.inside; schema = m.0; shaped = m.1 };
          committed = w.committed;
          is = m.2;
        };
    kept = it.kept;
    survives = it.survives;
  }

  pub stops : (f g : Content → Content) → AppliesInTransaction a b false f
      → AppliesInTransaction a b false g
  stops f g it = record {
    made = λ no. absurd (true≢false (sym no));
    kept = it.kept;
    survives = it.survives;
  }

  pub gone : (left whole change : Content → Content) → IsTransactionProgress a b left whole
      → ((m : Content) → left m ≡ m) → ((m : Content) → whole m ≡ change m)
      → AppliesInTransaction a b true change
  gone left whole change it none same = record {
    made = λ ok clean inside. record {
      inside = it.inside clean inside;
      committed = it.committed clean inside;
      is = sym (none (content_at b)) ∙ it.is clean inside ∙ same (content_at a);
    };
    kept = it.kept;
    survives = it.survives;
  }

  pub alike : (done : Bool) (f g : Content → Content) → ((m : Content) → f m ≡ g m)
      → AppliesInTransaction a b done f → AppliesInTransaction a b done g
  alike done f g same it = record {
    made = λ ok clean inside. let s = it.made ok clean inside in record {
      inside = s.inside;
      committed = s.committed;
      is = s.is ∙ same (content_at a);
    };
    kept = it.kept;
    survives = it.survives;
  }

-- ---- writing in a transaction, and committing

pub inside_if_not : (inside : Bool) → not inside ≡ false → IsTrue inside
inside_if_not true is = refl
inside_if_not false is = absurd (true≢false is)

module _ (a b : State) (change : Content → Content) where
  -- The transaction did not begin.
  pub not_begun : a.in_transaction ≡ false → (IsTrue a.is_open → a.now ≡ a.committed)
      → (IsTrue b.is_open → HasCleanDisk b)
      → (HasCleanDisk b → IsUnchanged a b ⊎ IsRolledBack a b)
      → Survives a b (λ _. ⊥) → HasWrittenOver a b false change
  not_begun idle same clean_of fails survives = record {
    made = λ no. absurd (true≢false (sym no));
    undone = λ _ clean. by_cases (fails clean);
    kept = λ up. keeps up (fails (clean_of up));
    survives = survives;
  }
    where
      by_cases : IsUnchanged a b ⊎ IsRolledBack a b → IsUndone a b
      by_cases (inl it) = record {
        was_open = λ up. it.0.was_open;
        now = λ up. it.0.now_is ∙ same it.0.was_open;
        committed = λ up. it.0.committed_is;
        autocommit = it.0.mode ∙ idle;
      }
      by_cases (inr it) = undone_of a b it

      keeps : IsTrue b.is_open → IsUnchanged a b ⊎ IsRolledBack a b → HasCommittedNothing a b
      keeps up (inl it) = record { was_open = it.0.was_open; committed = it.0.committed_is }
      keeps up (inr it) = record {
        was_open = it.was_open up;
        committed = (it.undone up).1;
      }

  -- The rows were written in the transaction that had begun.
  pub written_inside : IsTrue a.in_transaction → (IsTrue a.is_open → HasStoreTables a)
      → AppliesInTransaction a b true change → HasWrittenOver a b true change
  written_inside inside ours m = record {
    made = λ ok clean was. m.made ok clean (record {
      is_open = was;
      inside = inside;
      schema = (ours was).schema;
      shaped = (ours was).shaped;
    });
    undone = λ no. absurd (true≢false (sym no));
    kept = m.kept;
    survives = m.survives;
  }

module _ (a b d : State) (change : Content → Content) where
  -- The transaction has begun, and then the rows were written.
  pub begun_written : (HasCleanDisk b → Shows a b a.now a.committed true)
      → (IsTrue b.is_open → HasCleanDisk b) → Survives a b (λ _. ⊥)
      → AppliesInTransaction b d true change → (IsTrue a.is_open → HasStoreTables a)
      → HasWrittenOver a d true change
  begun_written shows clean_of survives m ours = record {
    made = λ ok clean was.
        let s = shows (earlier a b d m.survives clean) in
        let our = ours was in
        let step = m.made ok clean (record {
          is_open = s.is_open;
          inside = s.mode;
          schema = ap (λ (d : Database). d.schema) s.now_is ∙ our.schema;
          shaped = subst (λ (d : Database). AreShaped d.trees) (sym s.now_is) our.shaped;
        }) in
        record {
          inside = step.inside;
          committed = step.committed ∙ s.committed_is;
          is = step.is ∙ ap (λ (d : Database). change (content_in d.trees)) s.now_is;
        };
    undone = λ no. absurd (true≢false (sym no));
    kept = λ up.
        let k = m.kept up in
        let s = shows (clean_of k.was_open) in
        record { was_open = s.was_open; committed = k.committed ∙ s.committed_is };
    survives = both_survive a b d survives m.survives;
  }

  -- A write failed, and the transaction was rolled back.
  pub rolled_back : (IsTrue b.is_open → HasCommittedNothing a b) → Survives a b (λ _. ⊥)
      → (IsTrue d.is_open → HasCleanDisk d) → (HasCleanDisk d → IsUndone b d)
      → Survives b d (λ _. ⊥) → HasWrittenOver a d false change
  rolled_back keeps one clean_of undone two = record {
    made = λ no. absurd (true≢false (sym no));
    undone = λ _ clean. let it = undone clean in record {
      was_open = λ up. (keeps (it.was_open up)).was_open;
      now = λ up. it.now up ∙ (keeps (it.was_open up)).committed;
      committed = λ up. it.committed up ∙ (keeps (it.was_open up)).committed;
      autocommit = it.autocommit;
    };
    kept = λ up.
        let it = undone (clean_of up) in
        let k = keeps (it.was_open up) in
        record { was_open = k.was_open; committed = it.committed up ∙ k.committed };
    survives = both_survive a b d one two;
  }

-- What was begun is kept while the rows are written.
pub begun_keeps : (a b d : State) (done : Bool) (change : Content → Content)
    → (HasCleanDisk b → Shows a b a.now a.committed true) → (IsTrue b.is_open → HasCleanDisk b)
    → AppliesInTransaction b d done change → IsTrue d.is_open → HasCommittedNothing a d
begun_keeps a b d done change shows clean_of m up =
    let k = m.kept up in
    let s = shows (clean_of k.was_open) in
    record { was_open = s.was_open; committed = k.committed ∙ s.committed_is }

undone_kept : (a d : State) → IsUndone a d → IsTrue d.is_open → IsSameOrUndone a d
undone_kept a d it up = record {
  was_open = it.was_open up;
  now = inr (it.now up);
  committed = it.committed up;
}

-- After a write, the tables are still the store's.
pub written_ours : (a d : State) (done : Bool) (change : Content → Content)
    → (IsTrue a.is_open → HasStoreTables a) → (IsTrue d.is_open → HasCleanDisk d)
    → HasWrittenOver a d done change → IsTrue d.is_open → HasStoreTables d
written_ours a d true change ours clean_of it up =
    let k = it.kept up in
    let our = ours k.was_open in
    let made = it.made refl (clean_of up) k.was_open in
    record {
      schema = made.inside.schema;
      shaped = made.inside.shaped;
      last_schema = ap (λ (d : Database). d.schema) k.committed ∙ our.last_schema;
      last_shaped = subst (λ (d : Database). AreShaped d.trees) (sym k.committed) our.last_shaped;
    }
written_ours a d false change ours clean_of it up =
    still_ours a d (undone_kept a d (it.undone refl (clean_of up)) up) (ours (it.kept up).was_open)

-- ---- a read, and then a write

module _ (a b d : State) (change : Content → Content) (Becomes : Content → Content → Type 0)
    (one : HasQueried a b true) (means : IsTrue b.is_open
    → Becomes (content_at b) (change (content_at b))) (clean_of : IsTrue d.is_open
    → HasCleanDisk d) where
  pub looked_written : (done : Bool) → HasWrittenOver b d done change → HasWritten a d done Becomes
  looked_written done two = record {
    becomes = λ ok up.
        let was = (two.kept up).was_open in
        subst (λ (db : Database). Becomes (content_in db.trees) (content_at d))
        (one.same refl was).now (subst (Becomes (content_at b))
        (sym (two.made ok (clean_of up) was).is) (means was));
    inside = λ ok up. (two.made ok (clean_of up) (two.kept up).was_open).inside.inside;
    undone = λ no up.
        let it = two.undone no (clean_of up) in
        same_then a b d (one.same refl (it.was_open up)) (undone_kept b d it up);
    mode = λ no up idle. (two.undone no (clean_of up)).autocommit;
    kept = λ up.
        let k = two.kept up in
        let same = one.same refl k.was_open in
        record { was_open = same.was_open; committed = k.committed ∙ same.committed };
    honest = λ clean. one.honest (earlier a b d two.survives clean);
    stays = λ ok clean.
        (two.made ok clean (one.stays refl (earlier a b d two.survives clean))).inside.is_open;
    survives = both_survive a b d one.survives two.survives;
  }

-- After a failed read, nothing is written.
pub unread_written : (a b : State) (Becomes : Content → Content → Type 0) → HasQueried a b false
    → HasWritten a b false Becomes
unread_written a b Becomes one = record {
  becomes = λ no. absurd (true≢false (sym no));
  inside = λ no. absurd (true≢false (sym no));
  undone = λ _. one.undone;
  mode = λ _. one.mode;
  kept = λ up. let k = one.undone up in record { was_open = k.was_open; committed = k.committed };
  honest = one.honest;
  stays = λ no. absurd (true≢false (sym no));
  survives = one.survives;
}

-- ---- a write, and then a commit

module _ (a b : State) (Becomes : Content → Content → Type 0) where
  -- After a failed write, nothing is committed.
  pub unwritten_committed : (IsTrue a.is_open → IsIdle a) → HasWritten a b false Becomes
      → HasCommitted a b false Becomes
  unwritten_committed idle one = record {
    becomes = λ no. absurd (true≢false (sym no));
    same = λ _ up.
        let kept = one.undone refl up in
        kept_settled a b (settled a (idle kept.was_open)) kept;
    was_open = λ up. (one.undone refl up).was_open;
    idle = λ up.
        let kept = one.undone refl up in
        let was = idle kept.was_open in
        still_idle a b was kept (one.mode refl up was.mode);
    honest = one.honest;
    stays = λ no. absurd (true≢false (sym no));
    crash = survives_weaker a b _ _ (λ clean db none. absurd none) one.survives;
  }

  -- After a failed write, a crash leaves no more than before.
  pub unwritten_leaves : Survives a b (λ _. ⊥) → CommitLeaves a b Becomes
  unwritten_leaves survives clean db may =
      elim (survives.crash clean db may) [ inl was ↦ inl was | inr none ↦ absurd none ]

-- Between transactions, nothing is uncommitted.
pub shown_idle : (b d : State) → Shows b d b.now b.now false → IsIdle d
shown_idle b d s = record {
  mode = s.mode;
  same_schema = ap (λ (d : Database). d.schema) (s.now_is ∙ sym s.committed_is);
  same_trees = ap (λ (d : Database). d.trees) (s.now_is ∙ sym s.committed_is);
}

pub undone_idle : (b d : State) → IsTrue d.is_open → IsUndone b d → IsIdle d
undone_idle b d up it = record {
  mode = it.autocommit;
  same_schema = ap (λ (d : Database). d.schema) (it.now up ∙ sym (it.committed up));
  same_trees = ap (λ (d : Database). d.trees) (it.now up ∙ sym (it.committed up));
}

-- A commit fails in a transaction only by rolling back.
ended_inside : (b d : State) → IsTrue b.in_transaction → HasEnded b d → IsUndone b d
ended_inside b d inside (inl it) = absurd (true≢false (sym inside ∙ it.0))
ended_inside b d inside (inr it) = undone_of b d it

module _ (a b d : State) (Becomes : Content → Content → Type 0) (one : HasWritten a b true Becomes)
    (clean_of : IsTrue d.is_open → HasCleanDisk d)
    (survives : Survives b d (λ db. db ≡ b.now.trees)) where
  before : HasCleanDisk d → HasCleanDisk b
  before clean = omega (arith, clean, survives.clean)

  -- The write succeeded, so the connection was open.
  made : HasCleanDisk d → (db : Trees) → db ≡ b.now.trees → Becomes (content_at a) (content_in db)
  made clean db is = subst (Becomes (content_at a)) (sym (ap content_in is))
      (one.becomes refl (one.stays refl (before clean)))

  all_survives : Survives a d (λ db. IsTrue a.is_open → Becomes (content_at a) (content_in db))
  all_survives = survives_then a b d _ _ _ (λ clean db none. absurd none)
      (λ clean db is was. made clean db is) one.survives survives

  pub written_leaves : CommitLeaves a d Becomes
  written_leaves clean db may = elim (survives.crash clean db may) [
    | inr is ↦ inr (made clean db is)
    | inl was ↦ elim (one.survives.crash (before clean) db was) [
      | inl sooner ↦ inl sooner
      | inr none ↦ absurd none
    ]
  ]

  module _ (idle : IsTrue a.is_open → IsIdle a) where
    committed : (HasCleanDisk d → Shows b d b.now b.now false) → HasCommitted a d true Becomes
    committed ok = record {
      becomes = λ _ up. let s = ok (clean_of up) in
          made (clean_of up) d.now.trees (ap (λ (d : Database). d.trees) s.now_is);
      same = λ no. absurd (true≢false (sym no));
      was_open = λ up. (one.kept (ok (clean_of up)).was_open).was_open;
      idle = λ up. shown_idle b d (ok (clean_of up));
      honest = λ clean. one.honest (before clean);
      stays = λ _ clean. (ok clean).is_open;
      crash = all_survives;
    }

    uncommitted : (HasCleanDisk d → HasEnded b d) → HasCommitted a d false Becomes
    uncommitted fails = record {
      becomes = λ no. absurd (true≢false (sym no));
      same = λ _ up.
          let it = undone up in
          let k = one.kept (it.was_open up) in
          record {
            was_open = k.was_open;
            now = it.now up ∙ k.committed ∙ sym (settled a (idle k.was_open));
            committed = it.committed up ∙ k.committed;
          };
      was_open = λ up. (one.kept ((undone up).was_open up)).was_open;
      idle = λ up. undone_idle b d up (undone up);
      honest = λ clean. one.honest (before clean);
      stays = λ no. absurd (true≢false (sym no));
      crash = all_survives;
    }
      where
        undone : IsTrue d.is_open → IsUndone b d
        undone up = ended_inside b d (one.inside refl (one.stays refl (before (clean_of up))))
            (fails (clean_of up))

    -- The commit succeeded or failed.
    pub concluded : {E : Type 0} (r : Result (Unit {0}) E)
        → (HasCleanDisk d → OnOk r (Shows b d b.now b.now false))
        → (HasCleanDisk d → OnErr r (HasEnded b d)) → HasCommitted a d (is_ok r) Becomes
    concluded (Ok u) ok err = committed ok
    concluded (Err e) ok err = uncommitted err

-- ---- the end of a group

-- Nothing was written.
pub ended_unwritten : (a b : State) → HasQueried a b true → b.in_transaction ≡ false
    → (IsTrue b.is_open → b.now ≡ b.committed) → HasEndedGroup a b true
ended_unwritten a b one mode same = record {
  same = λ _ up. (one.same refl up).now;
  undone = λ no. absurd (true≢false (sym no));
  was_open = λ up. (one.undone up).was_open;
  idle = λ up. record {
    mode = mode;
    same_schema = ap (λ (d : Database). d.schema) (same up);
    same_trees = ap (λ (d : Database). d.trees) (same up);
  };
  honest = one.honest;
  stays = one.stays;
  crash = survives_weaker a b _ _ (λ clean db none. absurd none) one.survives;
}

module _ (a b d : State) (clean_of : IsTrue d.is_open → HasCleanDisk d) where
  -- The clock's row was not read, and all was undone.
  pub ended_unread : HasQueried a b false → (HasCleanDisk d → IsUndone b d)
      → Survives b d (λ _. ⊥) → HasEndedGroup a d false
  ended_unread one undone survives = record {
    same = λ no. absurd (true≢false (sym no));
    undone = λ _ up. let it = undone (clean_of up) in
        it.now up ∙ (one.undone (it.was_open up)).committed;
    was_open = λ up. (one.undone ((undone (clean_of up)).was_open up)).was_open;
    idle = λ up. undone_idle b d up (undone (clean_of up));
    honest = λ clean. one.honest (earlier a b d survives clean);
    stays = λ no. absurd (true≢false (sym no));
    crash = survives_weaker a d _ _ (λ clean db none. absurd none)
        (both_survive a b d one.survives survives);
  }

  module _ (one : HasQueried a b true) (inside : IsTrue b.in_transaction)
      (survives : Survives b d (λ db. db ≡ b.now.trees)) where
    sooner : HasCleanDisk d → HasCleanDisk b
    sooner clean = omega (arith, clean, survives.clean)

    all_left : Survives a d (λ db. IsTrue a.is_open × (db ≡ a.now.trees))
    all_left = survives_then a b d _ _ _ (λ clean db none. absurd none) (λ clean db is.
        let same = one.same refl (one.stays refl (sooner clean)) in
        (same.was_open, is ∙ ap (λ (d : Database). d.trees) same.now)) one.survives survives

    -- The commit succeeded or failed.
    pub ended_written : {E : Type 0} (r : Result (Unit {0}) E)
        → (HasCleanDisk d → OnOk r (Shows b d b.now b.now false))
        → (HasCleanDisk d → OnErr r (HasEnded b d)) → HasEndedGroup a d (is_ok r)
    ended_written (Ok u) ok err = record {
      same = λ _ up. let s = ok (clean_of up) in s.now_is ∙ (one.same refl s.was_open).now;
      undone = λ no. absurd (true≢false (sym no));
      was_open = λ up. (one.same refl (ok (clean_of up)).was_open).was_open;
      idle = λ up. shown_idle b d (ok (clean_of up));
      honest = λ clean. one.honest (sooner clean);
      stays = λ _ clean. (ok clean).is_open;
      crash = all_left;
    }
    ended_written (Err e) ok err = record {
      same = λ no. absurd (true≢false (sym no));
      undone = λ _ up. let it = undone up in
          it.now up ∙ (one.same refl (it.was_open up)).committed;
      was_open = λ up. (one.same refl ((undone up).was_open up)).was_open;
      idle = λ up. undone_idle b d up (undone up);
      honest = λ clean. one.honest (sooner clean);
      stays = λ no. absurd (true≢false (sym no));
      crash = all_left;
    }
      where
        undone : IsTrue d.is_open → IsUndone b d
        undone up = ended_inside b d inside (err (clean_of up))

-- The tables after the end of a transaction are still the store's.
pub ended_ours : (b d : State) → (IsTrue b.is_open → HasStoreTables b)
    → (IsTrue d.is_open → HasCleanDisk d) → {E : Type 0} (r : Result (Unit {0}) E)
    → (HasCleanDisk d → OnOk r (Shows b d b.now b.now false))
    → (HasCleanDisk d → OnErr r (HasEnded b d)) → IsTrue d.is_open → HasStoreTables d
ended_ours b d ours clean_of (Ok u) ok err up =
    let s = ok (clean_of up) in
    let our = ours s.was_open in
    record {
      schema = ap (λ (d : Database). d.schema) s.now_is ∙ our.schema;
      shaped = subst (λ (d : Database). AreShaped d.trees) (sym s.now_is) our.shaped;
      last_schema = ap (λ (d : Database). d.schema) s.committed_is ∙ our.schema;
      last_shaped = subst (λ (d : Database). AreShaped d.trees) (sym s.committed_is) our.shaped;
    }
ended_ours b d ours clean_of (Err e) ok err up = by_cases (err (clean_of up))
  where
    by_cases : HasEnded b d → HasStoreTables d
    by_cases (inl it) = still_ours b d (record {
      was_open = it.1.0.was_open;
      now = inl it.1.0.now_is;
      committed = it.1.0.committed_is;
    }) (ours it.1.0.was_open)
    by_cases (inr it) = still_ours b d (undone_kept b d (undone_of b d it) up)
        (ours (it.was_open up))

-- After an undoing, the tables are those of the last commit.
pub undone_ours : (b d : State) → (IsTrue b.is_open → HasStoreTables b)
    → (IsTrue d.is_open → HasCleanDisk d) → (HasCleanDisk d → IsUndone b d) → IsTrue d.is_open
    → HasStoreTables d
undone_ours b d ours clean_of undone up =
    let it = undone (clean_of up) in
    still_ours b d (undone_kept b d it up) (ours (it.was_open up))
