-- Calls of a store inside groups and outside of them.
use Rattle.std.proofs.Common.{◌≡◌, ◌⊎◌, inl, inr, Bool, true, false, IsTrue, Result, Ok, Err, refl, sym, ap, subst, ◌∙◌, true≢false, arith}
use Rattle.std.specs.Prelude.{◌≤◌, is_ok, not}
use Rattle.sqlite.specs.Effect.{Database as Rows}
use Rattle.sqlite.specs.Held.{state}
use Rattle.sqlite.specs.State.{HasCleanDisk, State, Survives}
use Rattle.sqlite.specs.Store.{Ghosts}
use Rattle.sqlite.specs.Tree.{Trees}
use Rattle.settle.specs.StoreContract.{AddsNoCrashState, CountsFailure, EndsGroup, HasGroup, IsAnswer, IsGroupEnded, LeavesGroup, LooksUp, MoreFaults, UndoesGroup}
use Rattle.settle.specs.StoreContract.{IsUndone as IsUndoneModel}
use Rattle.settle.specs.declared.store.StoreFault.{StoreFault}
use Rattle.settle.specs.declared.store_model.StoreModel.{Ghosts as Model}
use Rattle.sql_rows.specs.Content.{content_in}
use Rattle.sql_rows.specs.declared.fault.Fault.{Fault}
use Rattle.sql_store.specs.Groups.{IsCounted, has_begun, is_sound}
use Rattle.sql_store.specs.Store.{HasEndedGroup, HasQueried, IsSame, left_by, settled}
use Rattle.sql_store.specs.Transactions.{IsUndone}
use Rattle.sql_store.specs.declared.database.Database.{Database}
use Rattle.sql_store.specs.declared.group.Group.{Group}
use Rattle.sql_store.specs.declared.group.Group.TheVariants.{None, Begun, Failed}
use Rattle.sql_store.specs.declared.store.SqlStore.{SqlStore}
use Rattle.sql_store.proofs.CallLemmas.{kept_settled}

-- What contracts say of the store.
abbrev pub model : {S : Type 0} (g : Ghosts S) → Model (SqlStore S g)
model g = record {
  content = λ s. content_in (state g s.db.conn).now.trees;
  IsUsable = λ s. IsTrue (is_sound s.group) × IsTrue (state g s.db.conn).is_open;
  HasHonestDevice = λ s. HasCleanDisk (state g s.db.conn);
  IsCrashState = λ s. left_by g s.db.conn;
  IsInGroup = λ s m. IsTrue (has_begun s.group) × IsTrue (state g s.db.conn).is_open
      × (m ≡ content_in (state g s.db.conn).committed.trees);
  IsStep = λ _ _ _. Unit {0};
  failed = λ s. s.failures;
  faults = λ s. (state g s.db.conn).faults;
}

pub sound_unbegun : (group : Group) → has_begun group ≡ false → IsTrue (is_sound group)
sound_unbegun None is = refl
sound_unbegun Begun is = absurd (true≢false is)
sound_unbegun (Failed fault) is = absurd (true≢false is)

pub survives_second : {A X S : Type 0} (g : Ghosts S) (old : State)
    (P : Trees → Type 0) (x y : A × (Database S g × X)) → x ≡ y
    → Survives old (state g y.1.0.conn) P → Survives old (state g x.1.0.conn) P
survives_second g old P x y same it = subst (λ z. Survives old (state g z.1.0.conn) P) (sym same) it

-- Only a fault shuts the store outside a group.
pub shuts_only : {S : Type 0} (g : Ghosts S) (old : SqlStore S g) (new : State) (group : Group)
    {P : Trees → Type 0} → has_begun group ≡ has_begun old.group
    → Survives (state g old.db.conn) new P
    → ((state g old.db.conn).faults ≤ new.faults) × ((model g).IsUsable old → HasCleanDisk new
    → ((IsTrue (is_sound group) × IsTrue new.is_open)
    ⊎ MoreFaults ((model g).faults old) new.faults) ⊎ HasGroup (model g) old)
shuts_only {S} g old new group begun survives =
    (survives.counts, λ usable clean. by_cases (has_begun old.group) refl usable clean)
  where
    by_cases : (b : Bool) → has_begun old.group ≡ b → (model g).IsUsable old → HasCleanDisk new
        → ((IsTrue (is_sound group) × IsTrue new.is_open)
        ⊎ MoreFaults ((model g).faults old) new.faults) ⊎ HasGroup (model g) old
    by_cases true is usable clean = inr (_, (is, usable.1, refl))
    by_cases false is usable clean = inl (elim (survives.closes clean usable.1) [
      | inl up ↦ inl (sound_unbegun group (begun ∙ is), up)
      | inr more ↦ inr more
    ])

module _ {S : Type 0} (g : Ghosts S) (old new : SqlStore S g) where
  module _ {A : Type 0} (answer : Result A Fault) (r : Result A StoreFault)
      (q : HasQueried (state g old.db.conn) (state g new.db.conn) (is_ok answer))
      (it : IsCounted answer r old.group new.group old.failures new.failures) where
    -- A call that leaves the store usable changed nothing.
    still : (model g).IsUsable new → IsSame (state g old.db.conn) (state g new.db.conn)
    still usable = by_result answer r q it
      where
        by_group : (b : Bool) → has_begun old.group ≡ b
            → (IsTrue (has_begun old.group) → is_sound new.group ≡ false)
            → {d : Bool} → HasQueried (state g old.db.conn) (state g new.db.conn) d
            → IsSame (state g old.db.conn) (state g new.db.conn)
        by_group true is fails q = absurd (true≢false (sym usable.0 ∙ fails is))
        by_group false is fails q =
            let kept = q.undone usable.1 in
            kept_settled _ _ (settled _ (old.idle is kept.was_open)) kept

        by_result : {A : Type 0} (answer : Result A Fault) (r : Result A StoreFault)
            → HasQueried (state g old.db.conn) (state g new.db.conn) (is_ok answer)
            → IsCounted answer r old.group new.group old.failures new.failures
            → IsSame (state g old.db.conn) (state g new.db.conn)
        by_result answer (Ok a) q it = q.same (ap is_ok it.ok.0) usable.1
        by_result answer (Err e) q it = by_group (has_begun old.group) refl it.fails q

    -- A call that answers inside a group leaves it as it was.
    answered : IsAnswer r → HasCleanDisk (state g new.db.conn) → (model g).IsUsable new
    answered is clean = by_result r it is
      where
        by_result : (r : Result A StoreFault)
            → IsCounted answer r old.group new.group old.failures new.failures → IsAnswer r
            → (model g).IsUsable new
        by_result (Ok a) it is = (it.ok.1, q.stays (ap is_ok it.ok.0) clean)
        by_result (Err e) it is = absurd is

    left : AddsNoCrashState (model g) old new
    left clean m (db, may, is) = elim (q.survives.crash clean db may) [
      | inl was ↦ (db, was, is)
      | inr none ↦ absurd none
    ]

    pub looked_up : LooksUp (model g) old new r
    looked_up = record {
      read_only = record {
        same = λ usable. let same = still usable in (
          (it.sound usable.0, same.was_open),
          ap (λ (d : Rows). content_in d.trees) same.now,
        );
        honest = q.honest;
        begins = λ m (begun, up, is). let kept = q.undone up in (
          sym it.begun ∙ begun,
          kept.was_open,
          is ∙ ap (λ (d : Rows). content_in d.trees) kept.committed,
        );
        ends = λ usable m (begun, up, is). let kept = q.undone usable.1 in (
          it.begun ∙ begun,
          usable.1,
          is ∙ ap (λ (d : Rows). content_in d.trees) (sym kept.committed),
        );
        stays = λ is usable clean. answered is clean;
        rises = it.rises;
        storage = it.storage;
        left = left;
      };
      counts = it.counts;
      step = tt;
      shuts = shuts_only g old (state g new.db.conn) new.group it.begun q.survives;
      answers = answered;
    }

  module _ (begun : IsTrue (has_begun old.group)) (unbegun : has_begun new.group ≡ false) where
    none_left : ¬ HasGroup (model g) new
    none_left (m, (has, up, is)) = true≢false (sym has ∙ unbegun)

    -- The commits of the group last, or were undone.
    pub ends_group : (done : Result (Unit {0}) Fault) (r : Result (Unit {0}) StoreFault)
        (mid : Group) → IsTrue (is_sound old.group) → IsTrue (is_sound mid)
        → HasEndedGroup (state g old.db.conn) (state g new.db.conn) (is_ok done)
        → IsCounted done r mid new.group old.failures new.failures → EndsGroup (model g) old new r
    ends_group done r mid sound mid_sound q it = record {
      leaves = record {
        ended = none_left;
        honest = q.honest;
        rises = it.rises;
        counts = it.counts;
        faults = q.crash.counts;
      };
      content = by_result r it;
      stays = λ is usable clean. stays r it is clean;
      left = λ clean m (db, may, is). elim (q.crash.crash clean db may) [
        | inl was ↦ inl (db, was, is)
        | inr (up, same) ↦ inr ((sound, up), is ∙ ap content_in same)
      ];
    }
      where
        failed : (is_ok done ≡ false) ⊎ (is_sound mid ≡ false) → not (is_ok done) ≡ true
        failed (inl fails) = ap not fails
        failed (inr bad) = absurd (true≢false (sym mid_sound ∙ bad))

        by_result : (r : Result (Unit {0}) StoreFault)
            → IsCounted done r mid new.group old.failures new.failures
            → IsGroupEnded (model g) old new r
        by_result (Ok u) it = λ usable. (
          (sound, q.was_open usable.1),
          ap (λ (d : Rows). content_in d.trees) (q.same (ap is_ok it.ok.0) usable.1),
        )
        by_result (Err e) it = λ usable. inl (
          _,
          (begun, q.was_open usable.1, refl),
          ap (λ (d : Rows). content_in d.trees) (q.undone (failed it.err) usable.1),
        )

        stays : (r : Result (Unit {0}) StoreFault)
            → IsCounted done r mid new.group old.failures new.failures → IsAnswer r
            → HasCleanDisk (state g new.db.conn) → (model g).IsUsable new
        stays (Ok u) it is clean =
            (sound_unbegun new.group unbegun, q.stays (ap is_ok it.ok.0) clean)
        stays (Err e) it is clean = absurd is

    module _ (clean_of : IsTrue (state g new.db.conn).is_open → HasCleanDisk (state g new.db.conn))
        (undone : HasCleanDisk (state g new.db.conn)
        → IsUndone (state g old.db.conn) (state g new.db.conn))
        (survives : Survives (state g old.db.conn) (state g new.db.conn) (λ _. ⊥)) where
      is_undone : IsUndoneModel (model g) old new
      is_undone usable = let it = undone (clean_of usable.1) in inl (
        _,
        (begun, it.was_open usable.1, refl),
        ap (λ (d : Rows). content_in d.trees) (it.now usable.1),
      )

      left_as_before : AddsNoCrashState (model g) old new
      left_as_before clean m (db, may, is) = elim (survives.crash clean db may) [
        | inl was ↦ (db, was, is)
        | inr none ↦ absurd none
      ]

      leaves : (r : Result (Unit {0}) StoreFault) → CountsFailure r old.failures new.failures
          → old.failures ≤ new.failures → LeavesGroup (model g) old new r
      leaves r counts rises = record {
        ended = none_left;
        honest = λ clean. omega (arith, survives.clean, clean);
        rises = rises;
        counts = counts;
        faults = survives.counts;
      }

      -- The group had failed, and its commits were undone.
      pub ends_undone : (fault : StoreFault)
          → CountsFailure {A = Unit {0}} (Err fault) old.failures new.failures
          → old.failures ≤ new.failures → EndsGroup (model g) old new (Err fault)
      ends_undone fault counts rises = record {
        leaves = leaves (Err fault) counts rises;
        content = is_undone;
        stays = λ is. absurd is;
        left = λ clean m crash. inl (left_as_before clean m crash);
      }

      pub undoes_group : new.failures ≡ old.failures → UndoesGroup (model g) old new (Ok tt)
      undoes_group same = record {
        leaves = leaves (Ok tt) same (omega (arith, same));
        undone = is_undone;
        left = left_as_before;
      }
