-- What a crash may leave of a register to which a reader's messages are fed.
--
-- Feeding begins in the state `st`, with `from` failures counted. No minute is supplied, and
-- `POST /clock` is served. `left` is a content that a crash may leave.
use Rattle.std.specs.Prelude.{◌≡◌, ◌⊎◌, ◌≤◌, ℕ, List, [], Option, Some, None, IfSome, true}
use Rattle.model.specs.Content.{Content}
use Rattle.model.specs.State.{State}
use Rattle.register.specs.Refinement.{Refines}
use Rattle.settle.specs.StoreContract.{AddsOnlyCrashStates, HasGroup}
use Rattle.settle.specs.declared.store_model.StoreModel.{Ghosts}
use Rattle.http_messages.specs.Parsing.{ParsesAs, WholeMessage}
use Rattle.http_messages.specs.declared.message.Request.{Request}
use Rattle.api.specs.Crashes.{RefinesStep}
use Rattle.api.specs.Run.{Exchange, Run, ticks_of}
use Rattle.api.specs.Ticks.{ConsumesTicks}
use Rattle.hub.specs.Connections.{ConnectionModel}
use Rattle.hub.specs.Feeding.{IsFed}
use Rattle.hub.specs.Schedules.{Chain}

-- Holds if `left` refines the state after the message that `rest` begins with, from the state
-- `mid`. The message counts as executed, or as not.
abbrev pub LeavesMessage : (mid : State) → (rest : List ℕ) → (left : Content) → Type 0
LeavesMessage mid rest left =
    (request : Request) × (body : List ℕ) × (rest_after : List ℕ) × (from : ℕ) × (to : ℕ)
    × ParsesAs rest (WholeMessage request body rest_after)
    × RefinesStep true None from to mid request body left

-- Holds if `left` refines the state after the first messages of the input.
pub record LeavesFirst (from : ℕ) (st : State) (input : List ℕ) (left : Content) : Type 0 where
  pub exchanges : List Exchange
  pub between : ℕ
  pub mid : State
  pub rest : List ℕ
  pub run : Run true from between st input exchanges mid rest
  pub supplied : ConsumesTicks (Some []) (ticks_of exchanges) (Some [])
  pub last : Refines left mid ⊎ LeavesMessage mid rest left

-- Holds if `left` refines the state after the first messages that reached the connection: `earlier`
-- are those that were executed before the state `st`, when at most `n` failures were counted.
abbrev pub LeavesOfConnection : (n : ℕ) → State → ConnectionModel → (left : Content) → Type 0
LeavesOfConnection n st c left =
    (from past : ℕ) (start : State) (input received : List ℕ) (earlier : List Exchange) → past ≤ n
    → Chain true from past start earlier st
    → ConsumesTicks (Some []) (ticks_of earlier) (Some []) → IsFed c input received earlier
    → LeavesFirst from start input left

-- Holds if, over an honest device, a crash may leave only what it could leave before, or what the
-- first messages that reached the connection lead to.
abbrev pub LeavesFirstOf : {S : Type 0} → Ghosts S → (old new : S) → ConnectionModel → Type 0
LeavesFirstOf store old new c = AddsOnlyCrashStates store old new (λ m. store.IsUsable old
    × ((st : State) → Refines (store.content old) st
    → LeavesOfConnection (store.failed old) st c m))

-- Holds if, over an honest device, a crash may leave only what it could leave before, or what the
-- first messages of the input lead to, if the input is known.
abbrev pub LeavesFirstMessages : {S : Type 0} → Ghosts S → (old new : S)
    → (input : Option (List ℕ)) → Type 0
LeavesFirstMessages store old new input = AddsOnlyCrashStates store old new
    (λ m. store.IsUsable old × ((st : State) → Refines (store.content old) st
    → IfSome input (λ bytes. LeavesFirst (store.failed old) st bytes m)))

-- Holds if a crash after the call leaves the content of a usable store, and nothing else. Such a
-- store has an honest device. If a group had begun before the call, nothing is said.
--
-- `FeedsTo` says what this content is: the state after all messages that were executed. Those that
-- were answered are among them. So nothing that was answered is lost.
abbrev pub LeavesContent : {S : Type 0} → Ghosts S → (old new : S) → Type 0
LeavesContent store old new = store.IsUsable new → (¬ HasGroup store old) → (m : Content)
    → store.IsCrashState new m → m ≡ store.content new
