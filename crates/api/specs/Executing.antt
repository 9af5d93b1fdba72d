-- What `Executor::execute` does with the bytes that have arrived.
--
-- It begins in the state `st`. `from` and `to` count the device's failures before and after;
-- `offered` says whether `POST /clock` is served; `new` is the content afterwards.
use Rattle.std.specs.Prelude.{◌≡◌, ◌⊎◌, ◌<◌, ◌≤◌, ℕ, ◌+◌, ◌-◌, List, ◌++◌, length, take, drop, Option, Result, Ok, Err, Bool, false, ⊤}
use Rattle.model.specs.Content.{Content}
use Rattle.model.specs.State.{State}
use Rattle.http_messages.specs.Arrived.{HasArrived}
use Rattle.http_messages.specs.declared.arrived.Arrived.{Arrived}
use Rattle.http_messages.specs.declared.arrived.Arrived.TheVariants as arrived
use Rattle.http_messages.specs.declared.message.NextMessage.TheVariants as next
use Rattle.http_messages.specs.declared.next.NextFault.{NextFault}
use Rattle.api.specs.Serving.{AfterClose, AfterExchanges, AfterPartialResponse, AfterRefusal, IoTrace}
use Rattle.api.specs.declared.executor.Executed.{Executed}
use Rattle.api.specs.declared.executor.Lost.{Lost}
use Rattle.api.specs.declared.executor.Next.{Next}
use Rattle.api.specs.declared.executor.Progress.{Progress}
use Rattle.api.specs.declared.executor.TurnLimit.{TurnLimit}
use Rattle.api.specs.declared.executor.Progress.TheVariants.{Wants, Paused, Ended}
use Rattle.api.specs.declared.serving.End.TheVariants.{Input, Closed, Refused}

-- Holds if this is answered next, or if this is left.
abbrev pub IsNextOf : Arrived → Result Next Progress → Type 0
IsNextOf (arrived.Message request head) result = result ≡ Ok (record {
  message = next.Message request;
  head = head;
  end = head + request.length;
})
IsNextOf (arrived.Refused fault) result =
    result ≡ Ok (record { message = next.Refused fault; head = 0; end = 0 })
IsNextOf arrived.Nothing result = result ≡ Err (Ended Input)
IsNextOf (arrived.Part wanted) result = result ≡ Err (Wants wanted)

-- The body of what is answered next.
abbrev pub body_of : Next → List ℕ → List ℕ
body_of next bytes = take (next.end - next.head) (drop next.head bytes)

-- Holds if this is no message, or the bytes begin with it.
abbrev pub IsReady : List ℕ → Arrived → Type 0
IsReady bytes (arrived.Message request head) =
    HasArrived bytes false (arrived.Message request head)
IsReady bytes (arrived.Refused fault) = ⊤
IsReady bytes arrived.Nothing = ⊤
IsReady bytes (arrived.Part wanted) = ⊤

-- What a read brought, if it left this in its place.
abbrev pub read_as : Result ⊤ NextFault → Arrived → Result Arrived NextFault
read_as (Ok done) arrived = Ok arrived
read_as (Err fault) arrived = Err fault

-- The bytes of the messages that were executed, if that is known.
abbrev pub consumed_of : Result Executed Lost → ℕ
consumed_of (Ok done) = done.consumed
consumed_of (Err lost) = 0

-- Holds if `k` messages were answered, and `left` is left of the input, which begins so.
abbrev pub ExecutesTo : Progress → (offered has_ended : Bool) → (from to : ℕ) → State → Content
    → IoTrace → (k : ℕ) → (left : List ℕ) → Type 0
ExecutesTo (Wants wanted) offered has_ended from to st new trace k left =
    (whole : AfterExchanges offered from to st new trace k) × (whole.rest ≡ left)
    × HasArrived left has_ended (arrived.Part wanted)
ExecutesTo Paused offered has_ended from to st new trace k left =
    (whole : AfterExchanges offered from to st new trace k) × (whole.rest ≡ left)
ExecutesTo (Ended Input) offered has_ended from to st new trace k left =
    (whole : AfterExchanges offered from to st new trace k) × (whole.rest ≡ left)
    × HasArrived left has_ended arrived.Nothing
ExecutesTo (Ended Closed) offered has_ended from to st new trace k left =
    (closed : AfterClose offered from to st new trace k) × (closed.rest_after ≡ left)
ExecutesTo (Ended (Refused fault)) offered has_ended from to st new trace k left =
    (refusal : AfterRefusal fault offered from to st new trace k) × (refusal.rest ≡ left)
    × HasArrived left has_ended (arrived.Refused fault)

-- Holds if the input begins with no message, be it one that is refused.
abbrev pub HasNoMessage : Progress → (has_ended : Bool) → (input : List ℕ) → Type 0
HasNoMessage (Wants wanted) has_ended input = HasArrived input has_ended (arrived.Part wanted)
HasNoMessage Paused has_ended input = ⊥
HasNoMessage (Ended Input) has_ended input = HasArrived input has_ended arrived.Nothing
HasNoMessage (Ended Closed) has_ended input = ⊥
HasNoMessage (Ended (Refused fault)) has_ended input = ⊥

-- Holds if execution paused only after as many messages as are allowed, or with more output than is.
abbrev pub PausesAt : TurnLimit → (output : List ℕ) → Executed → Type 0
PausesAt limit output done = done.progress ≡ Paused
    → (done.count ≡ limit.messages) ⊎ (limit.output < length output)

-- Holds if each response was appended to no more output than is allowed.
abbrev pub StaysWithin : (most : ℕ) → (before after : List ℕ) → Type 0
StaysWithin most before after = (after ≡ before)
    ⊎ ((earlier last : List ℕ) × (after ≡ earlier ++ last) × (length earlier ≤ most))

-- Holds if no message was executed only because none is whole, or none was allowed.
abbrev pub Progresses : TurnLimit → (has_ended : Bool) → (input output : List ℕ) → Executed → Type 0
Progresses limit has_ended input output done = done.count ≡ 0 → 1 ≤ limit.messages
    → length output ≤ limit.output
    → (done.consumed ≡ 0) × HasNoMessage done.progress has_ended input

-- Holds if `k` messages were answered, and nothing of the next response was appended. How much of
-- the input that response is for is not said.
abbrev pub LosesAfter : (offered : Bool) → (from to : ℕ) → State → Content → IoTrace → (k : ℕ)
    → Type 0
LosesAfter offered from to st new trace k =
    (unread : Option (List ℕ))
    × (lost : AfterPartialResponse offered from to st new (record {
      input = trace.input;
      unread = unread;
      ticks_before = trace.ticks_before;
      ticks_after = trace.ticks_after;
      written_before = trace.written_before;
      written_after = trace.written_after;
    }) k)
    × (lost.part ≡ 0)

-- Holds if executing ended or failed so.
abbrev pub Executes : Result Executed Lost → (offered has_ended : Bool) → (from to : ℕ) → State
    → Content → IoTrace → Type 0
Executes (Ok done) offered has_ended from to st new trace =
    ExecutesTo done.progress offered has_ended from to st new trace done.count
    (drop done.consumed trace.input)
Executes (Err lost) offered has_ended from to st new trace =
    LosesAfter offered from to st new trace lost.count
