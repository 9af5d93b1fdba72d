-- What a crash may leave of a register when calls and messages were executed.
--
-- `old` is the content before, and `left` a content that a crash may leave. The call that a crash
-- interrupts counts as executed, or as not executed with the response `no_memory`. `n` counts the
-- device's failures; none is counted meanwhile. `offered` says whether `POST /clock` is served.
use Rattle.std.specs.Prelude.{◌⊎◌, ℕ, List, ◌++◌, Bool, Option, Some}
use Rattle.std.specs.Io.KnownBytes.{Appends}
use Rattle.model.specs.Content.{Content}
use Rattle.model.specs.State.{State}
use Rattle.register.specs.Refinement.{Refines}
use Rattle.json_api.specs.Forms.{ApiCall}
use Rattle.http_messages.specs.Parsing.{ParsesAs, WholeMessage}
use Rattle.http_messages.specs.declared.message.NextMessage.{NextMessage}
use Rattle.http_messages.specs.declared.message.Request.{Request}
use Rattle.api.specs.Run.{Exchange, Run, responses, ticks_of}
use Rattle.api.specs.Step.{DispatchesCall, IsPerformed, Step, ticked}
use Rattle.api.specs.Ticks.{ConsumesTick, ConsumesTicks}

-- Holds if, for each state that `old` refines, `left` refines it or that after the supplied minute.
abbrev pub LeavesTick : (old left : Content) → (tick : Option ℕ) → Type 0
LeavesTick old left tick = (st : State) → Refines old st
    → Refines left st ⊎ Refines left (ticked st tick)

-- Holds if, for each state that `old` refines, `left` refines the state after the call.
abbrev pub LeavesCall : (old left : Content) → (caller : ℕ) → ApiCall → Type 0
LeavesCall old left caller asked = (n : ℕ) (st : State) → Refines old st
    → (text : List ℕ) × IsPerformed n n left st caller asked text

-- Holds if, for each state that `old` refines, `left` refines the state after the request on a
-- path.
abbrev pub LeavesDispatched : (old left : Content) → (IsAsked : ApiCall → Type 0)
    → (caller : ℕ) → Type 0
LeavesDispatched old left IsAsked caller = (n : ℕ) (st : State) → Refines old st
    → (text : List ℕ) × (after : State) × DispatchesCall n n st IsAsked caller text after
    × Refines left after

-- Holds if `left` refines the state after the message, with some response.
abbrev pub RefinesStep : (offered : Bool) → (tick : Option ℕ) → (from to : ℕ) → State → Request
    → (body : List ℕ) → (left : Content) → Type 0
RefinesStep offered tick from to st request body left =
    (text : List ℕ) × (after : State) × Step offered tick from to st request body text after
    × Refines left after

-- Holds if, for each state that `old` refines, `left` refines the state after the message.
abbrev pub LeavesStep : (offered : Bool) → (tick : Option ℕ) → (old left : Content) → Request
    → (body : List ℕ) → Type 0
LeavesStep offered tick old left request body = (n : ℕ) (st : State) → Refines old st
    → RefinesStep offered tick n n st request body left

-- Holds if, for each state that `old` refines, `left` refines the state after the next message. A
-- refused message leaves nothing.
abbrev pub LeavesNext : (offered : Bool) → (ticks_before ticks_after : Option (List (Option ℕ)))
    → (old left : Content) → NextMessage → (body : List ℕ) → Type 0
LeavesNext offered ticks_before ticks_after old left (NextMessage.Message request) body =
    (tick : Option ℕ) × ConsumesTick ticks_before tick ticks_after
    × LeavesStep offered tick old left request body
LeavesNext offered ticks_before ticks_after old left (NextMessage.Refused fault) body = ⊥

-- Holds if `left` refines the state after the first messages of the input, from the state `st`. All
-- of them but the last were answered, and more may have been appended after their responses. The
-- last one counts as executed, or as not, and need not have been answered.
pub record LeavesPrefix (offered : Bool) (from : ℕ) (st : State) (input : List ℕ)
    (ticks_before : Option (List (Option ℕ))) (had has : List ℕ) (left : Content) : Type 0 where
  pub exchanges : List Exchange
  pub between : ℕ
  pub mid : State
  pub rest : List ℕ
  pub run : Run offered from between st input exchanges mid rest
  pub remaining_ticks : Option (List (Option ℕ))
  pub supplied : ConsumesTicks ticks_before (ticks_of exchanges) remaining_ticks
  pub more : List ℕ
  pub written : Appends (Some had) (Some has) (responses exchanges ++ more)
  pub tick : Option ℕ
  pub ticks_after : Option (List (Option ℕ))
  pub next_tick : ConsumesTick remaining_ticks tick ticks_after
  pub request : Request
  pub body : List ℕ
  pub rest_after : List ℕ
  pub parses : ParsesAs rest (WholeMessage request body rest_after)
  pub refines : (n : ℕ) → RefinesStep offered tick n n mid request body left
