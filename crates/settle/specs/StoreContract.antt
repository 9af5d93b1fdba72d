-- The contract of every function over a store.
use Rattle.std.specs.Prelude.{◌≡◌, ◌≢◌, ◌⊎◌, ◌≤◌, ◌+◌, ◌-◌, ◌^◌, min, ℕ, Bool, true, false, is_some, ⊤, Result, Ok, Err}
use Rattle.model.specs.Content.{Content, Represents}
use Rattle.model.specs.State.{State}
use Rattle.settle.specs.Reads.{HasDeviceFailed}
use Rattle.model.specs.declared.refusal.Refusal.{Refusal}
use Rattle.model.specs.declared.refusal.Refusal.TheVariants.{Storage as RefusedStorage, NoMemory as RefusedMemory}
use Rattle.settle.specs.declared.store_model.StoreModel.{Ghosts}
use Rattle.settle.specs.declared.store.StoreFault.{StoreFault}
use Rattle.settle.specs.declared.store.StoreFault.TheVariants.{Storage, NoMemory}

-- Holds if the store returned an answer, not a fault.
abbrev pub IsAnswer : {A : Type 0} → Result A StoreFault → Type 0
IsAnswer (Ok a) = ⊤
IsAnswer (Err fault) = ⊥

-- Holds if the count of failures rises by one with `Storage`, and otherwise stays. At its greatest
-- value it stays.
abbrev pub CountsFailure : {A : Type 0} → Result A StoreFault → (old new : ℕ) → Type 0
CountsFailure (Ok a) old new = new ≡ old
CountsFailure (Err NoMemory) old new = new ≡ old
CountsFailure (Err Storage) old new = new ≡ min (old + 1) (2 ^ 64 - 1)

abbrev pub reports_storage : {A : Type 0} → Result A StoreFault → Bool
reports_storage (Ok a) = false
reports_storage (Err NoMemory) = false
reports_storage (Err Storage) = true

-- Holds if the count of faults rose, or is at its greatest value.
abbrev pub MoreFaults : ℕ → ℕ → Type 0
MoreFaults old new = min (old + 1) (2 ^ 64 - 1) ≤ new

-- Holds if a group has begun and not ended.
abbrev pub HasGroup : {S : Type 0} → Ghosts S → S → Type 0
HasGroup store s = (m : Content) × store.IsInGroup s m

-- Holds if the count of faults does not fall and, over an honest device, only a fault shuts a
-- store. An allocation failure does not. Inside a group, any failure may.
abbrev pub ShutsOnlyOnFault : {S : Type 0} → Ghosts S → (old new : S) → Type 0
ShutsOnlyOnFault store old new =
    (store.faults old ≤ store.faults new) × (store.IsUsable old → store.HasHonestDevice new
    → (store.IsUsable new ⊎ MoreFaults (store.faults old) (store.faults new)) ⊎ HasGroup store old)

-- Holds if a call begins no group.
abbrev pub BeginsNoGroup : {S : Type 0} → Ghosts S → (old new : S) → Type 0
BeginsNoGroup store old new = (m : Content) → store.IsInGroup new m → store.IsInGroup old m

-- Holds if a call ends no group that it leaves usable.
abbrev pub EndsNoGroup : {S : Type 0} → Ghosts S → (old new : S) → Type 0
EndsNoGroup store old new = store.IsUsable new → (m : Content) → store.IsInGroup old m
    → store.IsInGroup new m

-- Holds if the result is `Ok`, or a refusal that is not the store's fault.
abbrev pub IsAvailable : {A : Type 0} → Result A Refusal → Type 0
IsAvailable (Ok a) = ⊤
IsAvailable (Err refusal) = (refusal ≢ RefusedStorage) × (refusal ≢ RefusedMemory)

-- Holds if a call neither begins a group nor ends one.
abbrev pub KeepsGroup : {S : Type 0} → Ghosts S → (old new : S) → Type 0
KeepsGroup store old new = BeginsNoGroup store old new × EndsNoGroup store old new

-- Holds if a call keeps a store's promises. The store was usable, or honest, or in a group, before
-- the call if it is after. If `Answers` holds, a usable store stays usable over an honest device.
-- The count of failures does not fall; if `Reports` holds, it rose or was at its greatest value.
pub record PreservesStore {S : Type 0} (store : Ghosts S) (old new : S)
    (Answers Reports : Type 0) : Type 0 where
  pub usable : store.IsUsable new → store.IsUsable old
  pub honest : store.HasHonestDevice new → store.HasHonestDevice old
  pub begins : BeginsNoGroup store old new
  pub ends : EndsNoGroup store old new
  pub stays : Answers → store.IsUsable old → store.HasHonestDevice new → store.IsUsable new
  pub rises : store.failed old ≤ store.failed new
  pub storage : Reports → HasDeviceFailed (store.failed old) (store.failed new)

-- Holds if, over an honest device, a crash may leave only what it could leave before the call.
abbrev pub AddsNoCrashState : {S : Type 0} → Ghosts S → (old new : S) → Type 0
AddsNoCrashState store old new = store.HasHonestDevice new → (m : Content)
    → store.IsCrashState new m
    → store.IsCrashState old m

-- Holds if a call keeps a store's promises, keeps the content and the group, and adds no crash
-- state.
pub record IsReadOnly {S : Type 0} (store : Ghosts S) (old new : S)
    (Answers Reports : Type 0) : Type 0 where
  pub same : store.IsUsable new → store.IsUsable old × (store.content new ≡ store.content old)
  pub honest : store.HasHonestDevice new → store.HasHonestDevice old
  pub begins : BeginsNoGroup store old new
  pub ends : EndsNoGroup store old new
  pub stays : Answers → store.IsUsable old → store.HasHonestDevice new → store.IsUsable new
  pub rises : store.failed old ≤ store.failed new
  pub storage : Reports → HasDeviceFailed (store.failed old) (store.failed new)
  pub left : AddsNoCrashState store old new

-- Holds if a look-up keeps its promises, besides its value.
pub record LooksUp {S A : Type 0} (store : Ghosts S) (old new : S)
    (result : Result A StoreFault) : Type 0 where
  -- Nothing changes, and `Storage` comes only with a counted failure.
  pub read_only : IsReadOnly store old new (IsAnswer result) (result ≡ Err Storage)
  pub counts : CountsFailure result (store.failed old) (store.failed new)
  -- Whatever else the implementation promises of each call.
  pub step : store.IsStep old new (reports_storage result)
  pub shuts : ShutsOnlyOnFault store old new
  -- A shut store answers no look-up.
  pub answers : IsAnswer result → store.HasHonestDevice new → store.IsUsable new

-- Holds if, over an honest device, a crash may leave only what it could leave before the call, or a
-- content with `Made`.
abbrev pub AddsOnlyCrashStates : {S : Type 0} → Ghosts S → (old new : S)
    → (Made : Content → Type 0) → Type 0
AddsOnlyCrashStates store old new Made = store.HasHonestDevice new → (m : Content)
    → store.IsCrashState new m
    → store.IsCrashState old m ⊎ Made m

-- Holds if a usable store reports `Storage`, and the content before the call represents a state and
-- has a clock's row.
pub record ReportsStorage (Usable : Type 0) (before : Content) (Says : Type 0) : Type 0 where
  pub usable : Usable
  pub st : State
  pub represents : Represents before st
  pub written : is_some before.clock ≡ true
  pub says : Says

-- ---- groups

-- Holds if the group that began has this content at its beginning, or, if none began, if a group is
-- kept.
abbrev pub IsGroupBegun : {S : Type 0} → Ghosts S → (old new : S) → Result Bool StoreFault → Type 0
IsGroupBegun store old new (Ok true) =
    (store.IsUsable new → store.IsInGroup new (store.content old))
    × ((m : Content) → store.IsInGroup new m → store.IsUsable old × (m ≡ store.content old))
IsGroupBegun store old new (Ok false) = KeepsGroup store old new
IsGroupBegun store old new (Err fault) = KeepsGroup store old new

-- Holds if a call begins a group, or none, and changes nothing else.
pub record BeginsGroup {S : Type 0} (store : Ghosts S) (old new : S)
    (result : Result Bool StoreFault) : Type 0 where
  pub same : store.IsUsable new → store.IsUsable old × (store.content new ≡ store.content old)
  pub honest : store.HasHonestDevice new → store.HasHonestDevice old
  pub begun : IsGroupBegun store old new result
  pub stays : IsAnswer result → store.IsUsable old → store.HasHonestDevice new → store.IsUsable new
  pub rises : store.failed old ≤ store.failed new
  pub counts : CountsFailure result (store.failed old) (store.failed new)
  pub step : store.IsStep old new (reports_storage result)
  pub shuts : ShutsOnlyOnFault store old new
  pub left : AddsNoCrashState store old new

-- Holds if no group is left, and the count of failures is kept.
pub record LeavesGroup {S : Type 0} (store : Ghosts S) (old new : S)
    (result : Result ⊤ StoreFault) : Type 0 where
  pub ended : ¬ HasGroup store new
  pub honest : store.HasHonestDevice new → store.HasHonestDevice old
  pub rises : store.failed old ≤ store.failed new
  pub counts : CountsFailure result (store.failed old) (store.failed new)
  pub faults : store.faults old ≤ store.faults new

-- Holds if the content is that of the group's beginning, or, if there was no group, as it was.
abbrev pub IsUndone : {S : Type 0} → Ghosts S → (old new : S) → Type 0
IsUndone store old new = store.IsUsable new
    → ((m : Content) × store.IsInGroup old m × (store.content new ≡ m))
    ⊎ (store.IsUsable old × (¬ HasGroup store old) × (store.content new ≡ store.content old))

-- What the content is after the end of a group: what it was, or after a fault, that of the group's
-- beginning.
abbrev pub IsGroupEnded : {S : Type 0} → Ghosts S → (old new : S) → Result ⊤ StoreFault → Type 0
IsGroupEnded store old new (Ok done) = store.IsUsable new
    → store.IsUsable old × (store.content new ≡ store.content old)
IsGroupEnded store old new (Err fault) = IsUndone store old new

-- Holds if a call ends the group: all of its commits last, or none.
pub record EndsGroup {S : Type 0} (store : Ghosts S) (old new : S)
    (result : Result ⊤ StoreFault) : Type 0 where
  pub leaves : LeavesGroup store old new result
  pub content : IsGroupEnded store old new result
  pub stays : IsAnswer result → store.IsUsable old → store.HasHonestDevice new → store.IsUsable new
  pub left : AddsOnlyCrashStates store old new
      (λ m. store.IsUsable old × (m ≡ store.content old))

-- Holds if a call undoes the group.
pub record UndoesGroup {S : Type 0} (store : Ghosts S) (old new : S)
    (result : Result ⊤ StoreFault) : Type 0 where
  pub leaves : LeavesGroup store old new result
  pub undone : IsUndone store old new
  pub left : AddsNoCrashState store old new
