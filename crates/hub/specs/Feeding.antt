-- Feeding: the messages of a reader, executed in groups of commits, and their responses.
--
-- It begins in the state `st`. `from` and `to` count the device's failures before and after. No
-- minute is supplied, and `POST /clock` is served. `new` is the content afterwards.
use Rattle.std.specs.Prelude.{◌≡◌, ◌⊎◌, ℕ, ◌≤◌, List, [], ◌++◌, length, take, Option, Some, Result, Ok, Err, Bool, true}
use Rattle.std.specs.Io.KnownBytes.{Appends, Consumes, IsAtEnd, Keeps}
use Rattle.model.specs.Content.{Content}
use Rattle.model.specs.State.{State}
use Rattle.register.specs.Refinement.{Refines}
use Rattle.settle.specs.declared.store_model.StoreModel.{Ghosts}
use Rattle.http_messages.specs.Arrived.{WantsMore}
use Rattle.http_messages.specs.Reading.{HasNoWholeMessage}
use Rattle.api.specs.Run.{Exchange}
use Rattle.api.specs.Serving.{AfterClose, AfterExchanges, AfterRefusal, EndsAt, IoTrace}
use Rattle.api.specs.declared.serving.End.{End}
use Rattle.api.specs.declared.serving.End.TheVariants.{Input, Closed, Refused}
use Rattle.hub.specs.Connections.{ConnectionModel, with_end, with_input, with_sent}
use Rattle.hub.specs.Schedules.{Answers, AnswersTo, TakesSteps}
use Rattle.hub.specs.declared.connection.Phase.{Phase}
use Rattle.hub.specs.declared.feeding.FeedFault.{FeedFault}
use Rattle.hub.specs.declared.feeding.FeedFault.TheVariants as fault

-- ---- the parts

-- Holds if a read put `n` bytes at the start of the buffer. It gives none only at the end.
pub record ReadsSome (had has : Option (List ℕ)) (buffer : List ℕ) (n : ℕ) : Type 0 where
  pub within : n ≤ length buffer
  pub read : Consumes had has (take n buffer)
  pub end : n ≡ 0 → IsAtEnd has

-- Holds if a read makes this of the connection: more has arrived, or the input has ended.
abbrev pub Receives : Result (Unit {0}) FeedFault → (had has : Option (List ℕ))
    → (c d : ConnectionModel) → Type 0
Receives (Ok done) had has c d =
    ((more : List ℕ) × Consumes had has more × (d ≡ with_input c more))
    ⊎ (Consumes had has [] × IsAtEnd has × (d ≡ with_end c))
Receives (Err fault.Read) had has c d = Keeps had has × (d ≡ c)
Receives (Err fault.Write) had has c d = ⊥
Receives (Err fault.NoMemory) had has c d = (more : List ℕ) × Consumes had has more × (d ≡ c)

-- Holds if all that was to be sent was written.
abbrev pub IsSent : (c d : ConnectionModel) → (had has : Option (List ℕ)) → Type 0
IsSent c d had has = (d ≡ with_sent c (length c.unsent)) × Appends had has c.unsent

-- Holds if the messages so far are `xs`, and no message is whole with fewer bytes than the
-- connection wants.
abbrev pub IsFed : ConnectionModel → (input received : List ℕ) → (xs : List Exchange) → Type 0
IsFed c input received xs = AnswersTo c input received xs × WantsMore c.unread c.wanted

-- Holds if the machine took the steps of some messages, and the connection has become one whose
-- messages are those before and these. After the last of them, `last` failures were counted. A
-- group without messages may count more.
abbrev pub StepsOn : (offered : Bool) → (ticks : Option (List (Option ℕ))) → (from to : ℕ) → State
    → (new : Content) → (c d : ConnectionModel) → Type 0
StepsOn offered ticks from to st new c d = (input received : List ℕ) (earlier : List Exchange)
    → IsFed c input received earlier
    → (last : ℕ) × (last ≤ to)
    × TakesSteps offered from last st new ticks ticks
    (λ xs. IsFed d input received (earlier ++ xs))

-- Holds if the connection has become one whose further messages had their steps, each once. What
-- has arrived, and whether that is all, stays.
pub record GoesOn (offered : Bool) (ticks : Option (List (Option ℕ))) {S : Type 0}
    (store : Ghosts S) (old new : S) (c d : ConnectionModel) : Type 0 where
  pub same_end : d.has_ended ≡ c.has_ended
  pub steps : store.IsUsable new → (st : State) → Refines (store.content old) st
      → StepsOn offered ticks (store.failed old) (store.failed new) st (store.content new) c d

-- ---- the whole

-- What is known of the reader and the writer. No minute is supplied.
abbrev pub io_of : (input : List ℕ) (unread had has : Option (List ℕ)) → IoTrace
io_of input unread had has = record {
  input = input;
  unread = unread;
  ticks_before = Some [];
  ticks_after = Some [];
  written_before = had;
  written_after = has;
}

-- Holds if the messages of what was read had their steps, `output` is what answers them, and a
-- connection is this far with that: `left` is what was not executed.
pub record HasAnswered (from to : ℕ) (st : State) (new : Content) (trace : IoTrace) (phase : Phase)
    (left output : List ℕ) : Type 0 where
  pub arrived : List ℕ
  pub read : Consumes (Some trace.input) trace.unread arrived
  pub has_ended : Bool
  pub ended : has_ended ≡ true → IsAtEnd trace.unread
  pub steps : TakesSteps true from to st new (Some []) (Some [])
      (λ xs. Answers phase left arrived has_ended xs output)

-- Holds if this was written: all that answers the messages that had their steps.
pub record WritesAll (from to : ℕ) (st : State) (new : Content) (trace : IoTrace) (phase : Phase)
    (left : List ℕ) : Type 0 where
  pub output : List ℕ
  pub answered : HasAnswered from to st new trace phase left output
  pub written : Appends trace.written_before trace.written_after output

-- Holds if a part of what answers the messages that had their steps was written.
pub record WritesPart (from to : ℕ) (st : State) (new : Content) (trace : IoTrace) : Type 0 where
  pub phase : Phase
  pub left : List ℕ
  pub output : List ℕ
  pub answered : HasAnswered from to st new trace phase left output
  pub part : ℕ
  pub written : Appends trace.written_before trace.written_after (take part output)

-- Holds if some bytes more than the messages' were read.
abbrev pub IsReadPast : (rest : List ℕ) → (unread : Option (List ℕ)) → Type 0
IsReadPast rest unread = (read : List ℕ) × Consumes (Some rest) unread read

-- Holds if feeding ended or failed so. As in `serve`, but for these: how much is read past the last
-- message is not said. After `Write`, a prefix of the responses was written, and all messages that
-- had their steps may be more than were answered. After `NoMemory`, all of them were answered, or
-- all but the last.
abbrev pub FeedsAs : Result End FeedFault → (from to : ℕ) → State → (new : Content) → IoTrace
    → Type 0
FeedsAs (Ok Input) from to st new trace = (k : ℕ) × EndsAt Input true from to st new trace k
FeedsAs (Ok Closed) from to st new trace =
    (k : ℕ) × (closed : AfterClose true from to st new trace k)
    × IsReadPast closed.rest_after trace.unread
FeedsAs (Ok (Refused fault)) from to st new trace =
    (k : ℕ) × (refusal : AfterRefusal fault true from to st new trace k)
    × IsReadPast refusal.rest trace.unread
FeedsAs (Err fault.Read) from to st new trace =
    (k : ℕ) × (whole : AfterExchanges true from to st new trace k)
    × HasNoWholeMessage whole.rest trace.unread
FeedsAs (Err fault.Write) from to st new trace = WritesPart from to st new trace
FeedsAs (Err fault.NoMemory) from to st new trace =
    (phase : Phase) × (left : List ℕ) × WritesAll from to st new trace phase left

-- Holds if feeding ended or failed so, and after the last message at most `to` failures were
-- counted. A group without messages may count more.
abbrev pub FeedsTo : Result End FeedFault → (from to : ℕ) → State → (new : Content) → IoTrace
    → Type 0
FeedsTo result from to st new trace =
    (last : ℕ) × (last ≤ to) × FeedsAs result from last st new trace
