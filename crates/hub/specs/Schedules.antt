-- The law of many connections. Bytes arrive, connections have turns, and bytes are sent, in any
-- order. All executed messages are one chain of the machine's steps, and each client gets the
-- responses to its own.
--
-- `from` and `to` count the device's failures before and after; `offered` says whether
-- `POST /clock` is served; `new` is the content afterwards.
use Rattle.std.specs.Prelude.{◌≡◌, ◌⊎◌, ℕ, ◌+◌, ◌-◌, ◌≤◌, min, List, [], ◌∷◌, ◌++◌, length, take, slice_get, slice_range, slice_set, Option, Some, Result, Bool, true, false, nat_eq, if◌then◌else◌, IfOk}
use Rattle.std.specs.List.{flat_map}
use Rattle.model.specs.Content.{Content}
use Rattle.model.specs.State.{State}
use Rattle.register.specs.Refinement.{Refines}
use Rattle.http_messages.specs.Arrived.{HasArrived}
use Rattle.http_messages.specs.Parsing.{ParsesAs, WholeMessage}
use Rattle.http_messages.specs.declared.arrived.Arrived.TheVariants as arrived
use Rattle.api.specs.Executing.{Progresses}
use Rattle.api.specs.Run.{Exchange, responses, ticks_of}
use Rattle.api.specs.Serving.{message_refusal_text}
use Rattle.api.specs.Step.{Step}
use Rattle.api.specs.Ticks.{ConsumesTicks}
use Rattle.api.specs.declared.executor.Executed.{Executed}
use Rattle.api.specs.declared.executor.Lost.{Lost as LostResponse}
use Rattle.api.specs.declared.executor.TurnLimit.{TurnLimit}
use Rattle.api.specs.declared.serving.End.TheVariants.{Input, Closed, Refused}
use Rattle.hub.specs.Connections.{ConnectionModel, connection_of, has_work, with_end, with_executed, with_input, with_sent}
use Rattle.hub.specs.declared.connection.Phase.{Phase}
use Rattle.hub.specs.declared.connection.Phase.TheVariants.{Open, Stopped, Ended, Lost}
use Rattle.hub.specs.declared.client.Client.{Client}
use Rattle.hub.specs.declared.schedule.Event.{Event}
use Rattle.hub.specs.declared.schedule.Event.TheVariants.{Arrives, Ends, TakesTurn, Receives}
use Rattle.hub.specs.declared.schedule.ScheduledEvent.{ScheduledEvent}

-- Holds if the machine takes these steps, one after another, from the state `st` to `end`. Each
-- begins with the count of failures that its predecessor ended with.
abbrev pub Chain : (offered : Bool) → (from to : ℕ) → State → List Exchange → State → Type 0
Chain offered from to st [] end = (to ≡ from) × (end ≡ st)
Chain offered from to st (x ∷ xs) end =
    (between : ℕ) × (mid : State)
    × Step offered x.tick from between st x.request x.body x.response mid
    × Chain offered between to mid xs end

-- Holds if these are the messages at the start of the input, none closes the connection, and `rest`
-- follows them.
abbrev pub Begins : List ℕ → List Exchange → (rest : List ℕ) → Type 0
Begins input [] rest = rest ≡ input
Begins input (x ∷ xs) rest =
    (next : List ℕ) × ParsesAs input (WholeMessage x.request x.body next)
    × (x.request.closes ≡ false) × Begins next xs rest

-- Holds if the input begins with these messages, and the last of them closes the connection.
pub record BeginsToClose (input : List ℕ) (xs : List Exchange) : Type 0 where
  pub earlier : List Exchange
  pub last : Exchange
  pub rest : List ℕ
  pub rest_after : List ℕ
  pub all : xs ≡ earlier ++ last ∷ []
  pub begins : Begins input earlier rest
  pub parses : ParsesAs rest (WholeMessage last.request last.body rest_after)
  pub closes : last.request.closes ≡ true

-- Holds if the input begins with these messages, and the output is the responses to all of them,
-- or to all but the last.
pub record AnswersButLast (input : List ℕ) (xs : List Exchange) (output : List ℕ) : Type 0 where
  pub answered : List Exchange
  pub rest : List ℕ
  pub begins : Begins input answered rest
  pub answers : output ≡ responses answered
  pub last : (xs ≡ answered)
      ⊎ ((x : Exchange) × (rest_after : List ℕ)
      × ParsesAs rest (WholeMessage x.request x.body rest_after) × (xs ≡ answered ++ x ∷ []))

-- Holds if a connection is this far, `unread` is what was not executed of the bytes that arrived,
-- `xs` are the messages that were executed, and all that was to be sent is `output`.
abbrev pub Answers : Phase → (unread input : List ℕ) → (has_ended : Bool) → (xs : List Exchange)
    → (output : List ℕ) → Type 0
Answers Open unread input has_ended xs output =
    Begins input xs unread × (output ≡ responses xs)
Answers Stopped unread input has_ended xs output =
    (rest : List ℕ) × Begins input xs rest × (output ≡ responses xs)
Answers (Ended Input) unread input has_ended xs output =
    (rest : List ℕ) × Begins input xs rest × HasArrived rest has_ended arrived.Nothing
    × (output ≡ responses xs)
Answers (Ended Closed) unread input has_ended xs output =
    BeginsToClose input xs × (output ≡ responses xs)
Answers (Ended (Refused fault)) unread input has_ended xs output =
    (rest : List ℕ) × Begins input xs rest × HasArrived rest has_ended (arrived.Refused fault)
    × (output ≡ responses xs ++ message_refusal_text fault)
Answers Lost unread input has_ended xs output = AnswersButLast input xs output

-- Holds if a connection's messages so far are `xs`, and what was received, with what is still to be
-- sent, is their responses.
abbrev pub AnswersTo : ConnectionModel → (input received : List ℕ) → (xs : List Exchange) → Type 0
AnswersTo c input received xs =
    Answers c.phase c.unread input c.has_ended xs (received ++ c.unsent)

-- A client: its connection, the stream that it sends, how much of it has arrived, and what it has
-- received.
pub record ClientModel : Type 0 where
  pub connection : ConnectionModel
  pub stream : List ℕ
  pub arrived : ℕ
  pub received : List ℕ

abbrev pub client_of : Client → ClientModel
client_of client = record {
  connection = connection_of client.connection;
  stream = client.stream.items;
  arrived = client.arrived;
  received = client.received.items;
}

-- Holds if the client's messages so far are `xs`.
abbrev pub IsAnswered : ClientModel → (xs : List Exchange) → Type 0
IsAnswered m xs = AnswersTo m.connection (take m.arrived m.stream) m.received xs

-- Holds if each client's messages so far are those at its place.
abbrev pub AreAnswered : List Client → (ℕ → List Exchange) → Type 0
AreAnswered clients messages = (place : ℕ) → (client : Client)
    → slice_get clients place ≡ Some client → IsAnswered (client_of client) (messages place)

-- How much of the stream has arrived once `count` bytes more have, or all that are left.
abbrev pub arrived_after : ClientModel → (count : ℕ) → ℕ
arrived_after m count = m.arrived + min count (length m.stream - m.arrived)

-- The client after the next `count` bytes of its stream arrived. None arrive after its end.
abbrev pub with_arrived : ClientModel → (count : ℕ) → ClientModel
with_arrived m count = if m.connection.has_ended then m else record m {
  connection = with_input m.connection (slice_range m.stream m.arrived (arrived_after m count));
  arrived = arrived_after m count;
}

-- The client after its input ended.
abbrev pub with_ended : ClientModel → ClientModel
with_ended m = record m { connection = with_end m.connection }

-- The client after it received `count` bytes, or all that were to be sent.
abbrev pub with_received : ClientModel → (count : ℕ) → ClientModel
with_received m count =
    let n = min count (length m.connection.unsent) in
    record m {
      connection = with_sent m.connection n;
      received = m.received ++ take n m.connection.unsent;
    }

-- How much a turn with at most `most` messages takes.
abbrev pub turn_limit : (most : ℕ) → TurnLimit
turn_limit most = record { messages = most; output = 65536 }

-- Holds if a turn makes this of the client: if its connection has work, at most `most` messages are
-- executed, and at least one if one is whole.
abbrev pub HasTurn : (most : ℕ) → ClientModel → ClientModel → Type 0
HasTurn most old new =
    ((has_work old.connection ≡ false) × (new ≡ old))
    ⊎ ((result : Result Executed LostResponse) × IfOk result (λ done. (done.count ≤ most)
    × Progresses (turn_limit most) old.connection.has_ended old.connection.unread [] done)
    × (new ≡ record old {
      connection = with_executed old.connection result new.connection.unsent;
    }))

-- Holds if the event makes this of the client.
abbrev pub Happens : Event → ClientModel → ClientModel → Type 0
Happens (Arrives count) old new = new ≡ with_arrived old count
Happens Ends old new = new ≡ with_ended old
Happens (TakesTurn most) old new = HasTurn most old new
Happens (Receives count) old new = new ≡ with_received old count

-- Holds if the event makes this of the clients.
abbrev pub HappensAt : (place : ℕ) → Event → List Client → List Client → Type 0
HappensAt place event old new =
    ((length old ≤ place) × (new ≡ old))
    ⊎ ((before : Client) × (after : Client) × (slice_get old place ≡ Some before)
    × (new ≡ slice_set old place after) × Happens event (client_of before) (client_of after))

-- Holds if the events happen one after another, each at the client at its place, if there is one.
-- Nothing else happens to any client.
abbrev pub Plays : List ScheduledEvent → List Client → List Client → Type 0
Plays [] old new = new ≡ old
Plays (e ∷ es) old new =
    (mid : List Client) × HappensAt e.place e.event old mid × Plays es mid new

-- Holds if the machine took the steps of some messages, one after another, each message with one
-- tick, a minute or none; and `Holds` of these messages.
pub record TakesSteps (offered : Bool) (from to : ℕ) (st : State) (new : Content)
    (ticks_before ticks_after : Option (List (Option ℕ))) (Holds : List Exchange → Type 0)
    : Type 0 where
  pub exchanges : List Exchange
  pub end : State
  pub chain : Chain offered from to st exchanges end
  pub refines : Refines new end
  pub supplied : ConsumesTicks ticks_before (ticks_of exchanges) ticks_after
  pub holds : Holds exchanges

-- What was executed in one turn, for the client at a place.
pub record Turn : Type 0 where
  pub place : ℕ
  pub exchanges : List Exchange

-- All that was executed, in order.
abbrev pub all_exchanges : List Turn → List Exchange
all_exchanges = flat_map (λ t. t.exchanges)

-- What was executed for the client at a place, in order.
abbrev pub exchanges_at : ℕ → List Turn → List Exchange
exchanges_at place = flat_map (λ t. if nat_eq t.place place then t.exchanges else [])

-- Holds if the machine took the steps of some turns, and `Holds` of these turns.
abbrev pub TakesTurns : (offered : Bool) → (from to : ℕ) → State → (new : Content)
    → (ticks_before ticks_after : Option (List (Option ℕ))) → (Holds : List Turn → Type 0)
    → Type 0
TakesTurns offered from to st new ticks_before ticks_after Holds =
    TakesSteps offered from to st new ticks_before ticks_after
    (λ xs. (turns : List Turn) × (xs ≡ all_exchanges turns) × Holds turns)
