-- What `serve` does with the input.
--
-- Serving begins in the state `st`. `from` and `to` count the device's failures before and after;
-- `offered` says whether `POST /clock` is served; `new` is the content afterwards.
use Rattle.std.specs.Prelude.{◌≡◌, ℕ, ◌+◌, ◌⊎◌, List, [], ◌∷◌, ◌++◌, length, take, Option, Some, None, Result, Ok, Err, Bool, true, if◌then◌else◌}
use Rattle.std.specs.Io.KnownBytes.{Appends, IsAtEnd}
use Rattle.model.specs.Content.{Content}
use Rattle.model.specs.Machine.{state_after}
use Rattle.model.specs.State.{State}
use Rattle.model.specs.Refusals.{Input as MachineInput}
use Rattle.register.specs.Refinement.{Refines}
use Rattle.http_messages.specs.Parsing.{ParsesAs, EndOfInput, RefusedMessage, WholeMessage}
use Rattle.http_messages.specs.Reading.{HasNoWholeMessage, IsReadAhead, IsReadTo}
use Rattle.json_api.specs.Failures.{failure_text}
use Rattle.api.specs.Run.{Exchange, Run, responses, ticks_of}
use Rattle.api.specs.Step.{IsUnavailableText, Step}
use Rattle.api.specs.Ticks.{ConsumesTick, ConsumesTicks}
use Rattle.json_api.specs.declared.fault.Failure.TheVariants as Failure
use Rattle.http_messages.specs.declared.fault.MessageFault.{MessageFault}
use Rattle.http_messages.specs.declared.message.NextMessage.{NextMessage}
use Rattle.http_messages.specs.declared.message.Request.{Request}
use Rattle.api.specs.declared.serving.End.{End}
use Rattle.api.specs.declared.serving.End.TheVariants.{Input, Closed, Refused}
use Rattle.api.specs.declared.serving.Served.{Served}
use Rattle.api.specs.declared.serving.Fault.{Fault}
use Rattle.api.specs.declared.serving.Fault.TheVariants.{Read, Write, Memory}

-- The response to a refused message.
abbrev pub message_refusal_text : MessageFault → List ℕ
message_refusal_text fault = failure_text (Failure.Message fault)

-- What is known of the reader, the ticks and the writer, before serving and after it.
pub record IoTrace : Type 0 where
  -- The bytes of the reader, before and after.
  pub input : List ℕ
  pub unread : Option (List ℕ)
  -- The minutes that the ticks have still to supply, before and after.
  pub ticks_before : Option (List (Option ℕ))
  pub ticks_after : Option (List (Option ℕ))
  -- The bytes written, before and after.
  pub written_before : Option (List ℕ)
  pub written_after : Option (List ℕ)

-- Holds if `k` messages had their step and were answered in full, each with one tick, a minute or
-- none, and nothing else was written.
pub record AfterExchanges (offered : Bool) (from to : ℕ) (st : State) (new : Content)
    (trace : IoTrace)
    (k : ℕ) : Type 0 where
  pub exchanges : List Exchange
  pub end : State
  pub rest : List ℕ
  pub run : Run offered from to st trace.input exchanges end rest
  pub refines : Refines new end
  pub count : length exchanges ≡ k
  pub supplied : ConsumesTicks trace.ticks_before (ticks_of exchanges) trace.ticks_after
  pub written : Appends trace.written_before trace.written_after (responses exchanges)

-- Holds if the last of `k` messages closes the connection, and nothing after it was answered.
pub record AfterClose (offered : Bool) (from to : ℕ) (st : State) (new : Content) (trace : IoTrace)
    (k : ℕ) : Type 0 where
  pub exchanges : List Exchange
  pub between : ℕ
  pub mid : State
  pub rest : List ℕ
  pub run : Run offered from between st trace.input exchanges mid rest
  pub last : Exchange
  pub rest_after : List ℕ
  pub parses : ParsesAs rest (WholeMessage last.request last.body rest_after)
  pub closes : last.request.closes ≡ true
  pub end : State
  pub step : Step offered last.tick between to mid last.request last.body last.response end
  pub refines : Refines new end
  pub count : length exchanges + 1 ≡ k
  pub supplied : ConsumesTicks trace.ticks_before (ticks_of (exchanges ++ last ∷ []))
      trace.ticks_after
  pub written : Appends trace.written_before trace.written_after
      (responses exchanges ++ last.response)

-- Holds if what follows the messages that had their step is refused, its response was written, and
-- it is counted among the `k`. It takes no tick.
pub record AfterRefusal (fault : MessageFault) (offered : Bool) (from to : ℕ) (st : State)
    (new : Content) (trace : IoTrace) (k : ℕ) : Type 0 where
  pub exchanges : List Exchange
  pub end : State
  pub rest : List ℕ
  pub run : Run offered from to st trace.input exchanges end rest
  pub refused : ParsesAs rest (RefusedMessage fault)
  pub refines : Refines new end
  pub count : length exchanges + 1 ≡ k
  pub supplied : ConsumesTicks trace.ticks_before (ticks_of exchanges) trace.ticks_after
  pub written : Appends trace.written_before trace.written_after
      (responses exchanges ++ message_refusal_text fault)

-- Holds if `response` is the response to what `rest` begins with: a message that had its step with
-- the next tick, or a refused one.
abbrev pub IsNextResponse : (offered : Bool) → (from to : ℕ) → State → List ℕ
    → (unread : Option (List ℕ)) → (ticks_before ticks_after : Option (List (Option ℕ))) → List ℕ
    → State
    → Type 0
IsNextResponse offered from to mid rest unread ticks_before ticks_after response end =
    ((x : Exchange) × (rest_after : List ℕ)
    × ParsesAs rest (WholeMessage x.request x.body rest_after)
    × IsReadAhead rest_after unread × ConsumesTick ticks_before x.tick ticks_after
    × Step offered x.tick from to mid x.request x.body x.response end × (response ≡ x.response))
    ⊎ ((fault : MessageFault) × ParsesAs rest (RefusedMessage fault) × IsReadTo fault rest unread
    × (ticks_after ≡ ticks_before) × (response ≡ message_refusal_text fault) × (end ≡ mid)
    × (to ≡ from))

-- Holds if `k` messages had their step and were answered in full, and a prefix of the next response
-- was written.
pub record AfterPartialResponse (offered : Bool) (from to : ℕ) (st : State) (new : Content)
    (trace : IoTrace)
    (k : ℕ) : Type 0 where
  pub exchanges : List Exchange
  pub between : ℕ
  pub mid : State
  pub rest : List ℕ
  pub run : Run offered from between st trace.input exchanges mid rest
  pub remaining_ticks : Option (List (Option ℕ))
  pub supplied : ConsumesTicks trace.ticks_before (ticks_of exchanges) remaining_ticks
  pub response : List ℕ
  pub end : State
  pub next : IsNextResponse offered between to mid rest trace.unread remaining_ticks
      trace.ticks_after response
      end
  pub refines : Refines new end
  pub count : length exchanges ≡ k
  pub part : ℕ
  pub written : Appends trace.written_before trace.written_after (responses exchanges ++ take part
      response)

-- Holds if serving ended so, and no more was read than that needs. At the end of the input, only
-- empty lines are left.
abbrev pub EndsAt : End → (offered : Bool) → (from to : ℕ) → State → Content → IoTrace → ℕ → Type 0
EndsAt Input offered from to st new trace k =
    (whole : AfterExchanges offered from to st new trace k)
    × ParsesAs whole.rest EndOfInput × IsAtEnd trace.unread
EndsAt Closed offered from to st new trace k =
    (closed : AfterClose offered from to st new trace k)
    × IsReadAhead closed.rest_after trace.unread
EndsAt (Refused fault) offered from to st new trace k =
    (refusal : AfterRefusal fault offered from to st new trace k)
    × IsReadTo fault refusal.rest trace.unread

-- Holds if serving failed so. `Read`: what was read of the rest is no whole message. `Memory`: at
-- most 8,192 bytes of the rest were read, or there are more messages than can be counted. `Write`:
-- a prefix of a response was written.
abbrev pub FailsAt : Fault → (offered : Bool) → (from to : ℕ) → State → Content → IoTrace → Type 0
FailsAt (Read k) offered from to st new trace =
    (whole : AfterExchanges offered from to st new trace k)
    × HasNoWholeMessage whole.rest trace.unread
FailsAt (Memory k) offered from to st new trace =
    (whole : AfterExchanges offered from to st new trace k)
    × (IsReadAhead whole.rest trace.unread ⊎ (k ≡ 18446744073709551615))
FailsAt (Write k) offered from to st new trace = AfterPartialResponse offered from to st new trace k

-- Holds if serving ended or failed so.
abbrev pub Serves : Result Served Fault → (offered : Bool) → (from to : ℕ) → State → Content
    → IoTrace
    → Type 0
Serves (Ok served) offered from to st new trace =
    EndsAt served.end offered from to st new trace served.count
Serves (Err fault) offered from to st new trace = FailsAt fault offered from to st new trace

-- A run from the state `st`, then a message whose response is `storage` or `no_memory`. These
-- messages begin the input. Each message of the run has one tick, a minute or none.
pub record RunUntilUnavailable (offered : Bool) (from : ℕ) (st : State) (input : List ℕ)
    (ticks_before : Option (List (Option ℕ))) : Type 0 where
  pub exchanges : List Exchange
  pub between : ℕ
  pub mid : State
  pub rest : List ℕ
  pub run : Run offered from between st input exchanges mid rest
  pub remaining_ticks : Option (List (Option ℕ))
  pub supplied : ConsumesTicks ticks_before (ticks_of exchanges) remaining_ticks
  pub request : Request
  pub body : List ℕ
  pub rest_after : List ℕ
  pub parses : ParsesAs rest (WholeMessage request body rest_after)
  pub response : List ℕ
  pub is_unavailable : IsUnavailableText response

-- Holds if the responses of such a run were written, the last of them in part or in full. Not said:
-- what was written after the last response.
abbrev pub WritesUntil : (offered : Bool) → (from : ℕ) → State → (input : List ℕ)
    → (ticks_before : Option (List (Option ℕ))) → (had has : Option (List ℕ)) → Type 0
WritesUntil offered from st input ticks_before had has =
    (until : RunUntilUnavailable offered from st input ticks_before)
    × (((part : ℕ) × Appends had has (responses until.exchanges ++ take part until.response))
    ⊎ ((more : List ℕ) × Appends had has ((responses until.exchanges ++ until.response) ++ more)))

-- Holds if the next message is whole, and the text answers it with `storage` or `no_memory`.
abbrev pub IsUnavailableResponse : NextMessage → List ℕ → Type 0
IsUnavailableResponse (NextMessage.Message request) text = IsUnavailableText text
IsUnavailableResponse (NextMessage.Refused fault) text = ⊥

-- Holds if the content refines a state that the machine can reach from `st`.
abbrev pub RefinesReachable : State → Content → Type 0
RefinesReachable st new = (inputs : List MachineInput) × Refines new (state_after st inputs)

-- Holds if a message had its step with the next tick and the text is its response; or if the text
-- is the response to a refused message, which changes nothing and takes no tick. `ticks_before` and
-- `ticks_after` are the minutes that the ticks have still to supply, if known.
abbrev pub Responds : (offered : Bool) → (ticks_before ticks_after : Option (List (Option ℕ)))
    → (from to : ℕ)
    → NextMessage → List ℕ → List ℕ → Content → Content → Type 0
Responds offered ticks_before ticks_after from to (NextMessage.Message request) body text old new =
    (tick : Option ℕ) × ConsumesTick ticks_before tick ticks_after
    × ((st : State) → Refines old st → (after : State) × Step offered tick from to st request body
    text after × Refines new after)
Responds offered ticks_before ticks_after from to (NextMessage.Refused fault) body text old new =
    (text ≡ message_refusal_text fault) × (new ≡ old) × (to ≡ from) × (ticks_after ≡ ticks_before)

-- Why serving ends after the next message, if it does.
abbrev pub end_of : NextMessage → Option End
end_of (NextMessage.Message request) = if request.closes then Some Closed else None
end_of (NextMessage.Refused fault) = Some (Refused fault)
