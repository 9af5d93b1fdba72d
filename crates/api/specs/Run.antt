-- A run: one message of the input after another, with the responses.
use Rattle.std.specs.Prelude.{◌≡◌, ◌≢◌, ℕ, List, [], ◌∷◌, Bool, false, Option, All, map}
use Rattle.std.specs.List.{flat_map}
use Rattle.model.specs.State.{State}
use Rattle.settle.specs.Reads.{HasDeviceFailed}
use Rattle.json_api.specs.RefusalTexts.{refusal_text}
use Rattle.http_messages.specs.Parsing.{ParsesAs, WholeMessage}
use Rattle.api.specs.Step.{Step}
use Rattle.http_messages.specs.declared.message.Request.{Request}

-- A message, the minute supplied before it, and its response.
pub record Exchange : Type 0 where
  pub tick : Option ℕ
  pub request : Request
  pub body : List ℕ
  pub response : List ℕ

abbrev pub responses : List Exchange → List ℕ
responses = flat_map (λ x. x.response)

-- The minutes supplied, in order.
abbrev pub ticks_of : List Exchange → List (Option ℕ)
ticks_of = map (λ x. x.tick)

-- Holds if the messages at the start of the input are executed from the state `st` with these
-- responses. They leave `rest` of the input and the state `end`. None of them closes the
-- connection. `from` and `to` count the device's failures before the first message and after the
-- last; each message begins with the count that its predecessor ended with.
abbrev pub Run : (offered : Bool) → (from to : ℕ) → State → List ℕ → List Exchange → State → List ℕ
    → Type 0
Run offered from to st input [] end rest = (to ≡ from) × (end ≡ st) × (rest ≡ input)
Run offered from to st input (x ∷ xs) end rest =
    (between : ℕ) × (mid : State) × (next : List ℕ)
    × ParsesAs input (WholeMessage x.request x.body next)
    × (x.request.closes ≡ false)
    × Step offered x.tick from between st x.request x.body x.response mid
    × Run offered between to mid next xs end rest

-- Holds if no response of a run is `storage` (29), unless the device failed during the run.
abbrev pub StaysClear : Type 0
StaysClear =
    (offered : Bool) (from to : ℕ) (st end : State) (input rest : List ℕ)
    (exchanges : List Exchange) →
    Run offered from to st input exchanges end rest → ¬ (HasDeviceFailed from to)
    → All (λ x. x.response ≢ refusal_text 29) exchanges
