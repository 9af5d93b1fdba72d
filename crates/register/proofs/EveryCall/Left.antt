-- What a crash may leave, step after step of a call.
use Rattle.std.proofs.Common.{◌≡◌, ◌⊎◌, inl, inr, Some, sym, subst}
use Rattle.model.specs.Content.{Content}
use Rattle.model.specs.Machine.{Reply}
use Rattle.model.specs.Refusals.{Input}
use Rattle.settle.specs.StoreContract.{AddsOnlyCrashStates, AddsNoCrashState}
use Rattle.settle.specs.Settling.{PreservesState}
use Rattle.settle.specs.declared.store_model.StoreModel.{Ghosts}
use Rattle.register.specs.Refinement.{Refines}
use Rattle.register.specs.Crashes.{KeepsState, TakesSettledStep}
use Rattle.register.specs.Settling.{SimulatesSettledStep}
use Rattle.register.proofs.EveryCall.Before.{meaning_stands}

-- A content with an answer takes the step.
pub comes : (old new : Content) (input : Input) (reply : Reply)
    → SimulatesSettledStep old new input (Some reply) → TakesSettledStep old input new
comes old new input reply answers = λ st refines settled. (answers st refines settled).1

pub same_stays : (old new : Content) → new ≡ old → KeepsState old new
same_stays old new same = λ st refines. subst (λ m. Refines m st) (sym same) refines

module _ {S : Type 0} (store : Ghosts S) (a b d : S) where
  abbrev pub LeavesStaying : (old new : S) → Type 0
  LeavesStaying old new =
      AddsOnlyCrashStates store old new (λ m. store.IsUsable old
      × KeepsState (store.content old) m)

  abbrev pub LeavesMeaning : (old new : S) → Type 0
  LeavesMeaning old new =
      AddsOnlyCrashStates store old new (λ m. store.IsUsable old
      × PreservesState (store.content old) m)

  -- Settling only.
  pub left_settled : LeavesMeaning a d → LeavesStaying a d
  left_settled settles done m may = by_cases (settles done m may)
    where
      by_cases : store.IsCrashState a m ⊎ (store.IsUsable a × PreservesState (store.content a) m)
          → store.IsCrashState a m
          ⊎ (store.IsUsable a × KeepsState (store.content a) m)
      by_cases (inl before) = inl before
      by_cases (inr kept) = inr (kept.0, meaning_stands (store.content a) m kept.1)

  -- Settling after a step that kept the state.
  pub left_then : (store.HasHonestDevice d → store.HasHonestDevice b)
      → (store.IsUsable b → store.IsUsable a × KeepsState (store.content a) (store.content b))
      → LeavesStaying a b
      → LeavesStaying b d → LeavesStaying a d
  left_then honest stays first second done m may = by_cases (second done m may)
    where
      by_cases : store.IsCrashState b m ⊎ (store.IsUsable b × KeepsState (store.content b) m)
          → store.IsCrashState a m
          ⊎ (store.IsUsable a × KeepsState (store.content a) m)
      by_cases (inl before) = first (honest done) m before
      by_cases (inr kept) = let was = stays kept.0 in
          inr (was.0, λ st refines. kept.1 st (was.1 st refines))

  -- Settling after a look-up.
  pub left_read : (store.HasHonestDevice d → store.HasHonestDevice b)
      → (store.IsUsable b → store.IsUsable a × (store.content b ≡ store.content a))
      → AddsNoCrashState store a b → LeavesStaying b d → LeavesStaying a d
  left_read honest same read = left_then honest (λ usable. let was = same usable in
      (was.0, same_stays (store.content a) (store.content b) was.1))
      (λ done m may. inl (read done m may))

  -- A commit after a look-up that was answered.
  pub left_committed : (Made Holds : Content → Type 0)
      → (store.HasHonestDevice d → store.HasHonestDevice b)
      → (store.HasHonestDevice b → store.IsUsable b) → (store.IsUsable b → store.IsUsable a)
      → AddsNoCrashState store a b → AddsOnlyCrashStates store b d Made
      → (store.IsUsable b → (m : Content) → Made m → Holds m)
      → AddsOnlyCrashStates store a d (λ m. store.IsUsable a × Holds m)
  left_committed Made Holds honest ready was read commits holds done m may =
      by_cases (commits done m may)
    where
      by_cases : store.IsCrashState b m ⊎ Made m
          → store.IsCrashState a m ⊎ (store.IsUsable a × Holds m)
      by_cases (inl before) = inl (read (honest done) m before)
      by_cases (inr made) = let used = ready (honest done) in inr (was used, holds used m made)
