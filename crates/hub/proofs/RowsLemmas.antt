-- What rows follow from, one call after another.
use Rattle.std.proofs.Common.{◌≡◌, ◌∙◌, ◌⊎◌, inl, inr, List, [], ◌∷◌, ◌++◌, true, Result, Ok, Err, refl, sym, subst}
use Rattle.std.specs.Prelude.{⊤}
use Rattle.std.proofs.Math.Nat.{le_refl, le_trans}
use Rattle.model.specs.Content.{Content}
use Rattle.model.specs.Machine.{state_after}
use Rattle.model.specs.State.{State}
use Rattle.register.specs.Refinement.{Refines}
use Rattle.settle.specs.StoreContract.{BeginsGroup, BeginsNoGroup, EndsGroup, EndsNoGroup, HasGroup, IsGroupEnded, IsUndone, LooksUp}
use Rattle.settle.specs.declared.store.StoreFault.{StoreFault}
use Rattle.settle.specs.declared.store_model.StoreModel.{Ghosts}
use Rattle.api.specs.Serving.{RefinesReachable}
use Rattle.api.proofs.Reachable.{follows_then}
use Rattle.hub.specs.Crashes.{LeavesContent}
use Rattle.hub.specs.Rows.{RowsFollow}

pub rows_stay : {S : Type 0} (store : Ghosts S) (s : S) → RowsFollow store s s
rows_stay store s = record {
  usable = λ usable. usable;
  honest = λ honest. honest;
  begins = λ m inside. inside;
  rises = le_refl (store.failed s);
  state = λ usable st refines. ([], refines);
}

pub rows_then : {S : Type 0} (store : Ghosts S) (old mid new : S) → RowsFollow store old mid
    → RowsFollow store mid new → RowsFollow store old new
rows_then store old mid new before after = record {
  usable = λ usable. before.usable (after.usable usable);
  honest = λ honest. before.honest (after.honest honest);
  begins = λ m inside. before.begins m (after.begins m inside);
  rises = le_trans before.rises after.rises;
  state = λ usable st refines. follows_then st (store.content mid) (store.content new)
      (before.state (after.usable usable) st refines) (after.state usable);
}

-- No group is left open, so a crash leaves the content.
pub rows_last : {S : Type 0} (store : Ghosts S) (old new : S)
    → ((s : S) (m : Content) → store.IsUsable s → (¬ HasGroup store s) → store.IsCrashState s m
    → m ≡ store.content s)
    → RowsFollow store old new → LeavesContent store old new
rows_last store old new law follows = λ usable outside m left.
    law new m usable (λ (at, inside). outside (at, follows.begins at inside)) left

-- A look-up changes no row.
pub rows_looked : {S A : Type 0} (store : Ghosts S) (old new : S) (result : Result A StoreFault)
    → LooksUp store old new result → RowsFollow store old new
rows_looked store old new result looks = record {
  usable = λ usable. (looks.read_only.same usable).0;
  honest = looks.read_only.honest;
  begins = looks.read_only.begins;
  rises = looks.read_only.rises;
  state = λ usable st refines.
      ([], subst (λ (c : Content). Refines c st) (sym (looks.read_only.same usable).1) refines);
}

-- ---- groups

module _ {S : Type 0} (store : Ghosts S) (old begun ran ended : S)
    (begins : BeginsGroup store old begun (Ok true)) (runs : RowsFollow store begun ran)
    (begins_none : BeginsNoGroup store begun ran) (ends_none : EndsNoGroup store begun ran) where
  -- The content of a group that was undone is that of its beginning.
  pub same_as_begun : IsUndone store ran ended → store.IsUsable ended
      → store.IsUsable old × (store.content ended ≡ store.content old)
  same_as_begun undone usable = by_cases (undone usable)
    where
      by_cases : ((m : Content) × store.IsInGroup ran m × (store.content ended ≡ m))
          ⊎ (store.IsUsable ran × (¬ HasGroup store ran)
          × (store.content ended ≡ store.content ran))
          → store.IsUsable old × (store.content ended ≡ store.content old)
      by_cases (inl (m, inside, is)) = let at = begins.begun.1 m (begins_none m inside) in
          (at.0, is ∙ at.1)
      by_cases (inr (used, alone, is)) =
          let before = runs.usable used in
          absurd (alone (
            store.content old,
            ends_none used (store.content old)
                (begins.begun.0 before),
          ))

  -- The rows of a group follow, whether its commits last or not.
  pub rows_grouped : (result : Result ⊤ StoreFault) → EndsGroup store ran ended result
      → RowsFollow store old ended
  rows_grouped result ends = record {
    usable = λ usable. (was result ends.content usable).0;
    honest = λ honest. begins.honest (runs.honest (ends.leaves.honest honest));
    begins = λ m inside. absurd (ends.leaves.ended (m, inside));
    rises = le_trans begins.rises (le_trans runs.rises ends.leaves.rises);
    state = λ usable. (was result ends.content usable).1;
  }
    where
      was : (result : Result ⊤ StoreFault) → IsGroupEnded store ran ended result
          → store.IsUsable ended
          → store.IsUsable old × ((st : State) → Refines (store.content old) st
          → RefinesReachable st (store.content ended))
      was (Ok done) content usable =
          let at = content usable in
          let begun_at = begins.same (runs.usable at.0) in (
            begun_at.0,
            λ st refines. let after = runs.state at.0 st
                (subst (λ (c : Content). Refines c st) (sym begun_at.1) refines) in (
                  after.0,
                  subst (λ (c : Content). Refines c (state_after st after.0)) (sym at.1)
                      after.1,
                ),
          )
      was (Err fault) content usable =
          let at = same_as_begun content usable in (
            at.0,
            λ st refines. ([], subst (λ (c : Content). Refines c st) (sym at.1) refines),
          )
