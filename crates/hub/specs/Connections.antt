-- What is known of a connection.
use Rattle.std.specs.Prelude.{◌≡◌, ℕ, List, [], ◌++◌, length, drop, Option, Some, None, Result, Ok, Err, Bool, true, false, not, ◌&&◌, ◌||◌, nat_eq, nat_le, if◌then◌else◌}
use Rattle.api.specs.declared.executor.Executed.{Executed}
use Rattle.api.specs.declared.executor.Lost.{Lost as LostResponse}
use Rattle.api.specs.declared.executor.Progress.{Progress}
use Rattle.api.specs.declared.executor.Progress.TheVariants.{Wants, Paused, Ended as EndsWith}
use Rattle.hub.specs.declared.byte_queue.ByteQueue.{ByteQueue}
use Rattle.hub.specs.declared.connection.Connection.{Connection}
use Rattle.hub.specs.declared.connection.Phase.{Phase}
use Rattle.hub.specs.declared.connection.Phase.TheVariants.{Open, Stopped, Ended, Lost}

-- How far a connection is; the bytes that arrived and were not executed; with how many of them a
-- message may be whole; whether no more will arrive; the bytes that are to be sent.
pub record ConnectionModel : Type 0 where
  pub phase : Phase
  pub unread : List ℕ
  pub wanted : ℕ
  pub has_ended : Bool
  pub unsent : List ℕ

abbrev pub queued : ByteQueue → List ℕ
queued queue = drop queue.start queue.bytes.items

-- What is to be sent: nothing of what was executed ahead.
abbrev pub unsent_of : Option (Result Executed LostResponse) → ByteQueue → List ℕ
unsent_of None output = queued output
unsent_of (Some ahead) output = []

-- The connection, without what was executed ahead.
abbrev pub connection_of : Connection → ConnectionModel
connection_of connection = record {
  phase = connection.phase;
  unread = queued connection.input;
  wanted = connection.wanted;
  has_ended = connection.has_ended;
  unsent = unsent_of connection.ahead connection.output;
}

-- A connection before anything arrives.
abbrev pub new_connection : ConnectionModel
new_connection = record {
  phase = Open;
  unread = [];
  wanted = 1;
  has_ended = false;
  unsent = [];
}

abbrev pub is_open : Phase → Bool
is_open Open = true
is_open Stopped = false
is_open (Ended end) = false
is_open Lost = false

-- Whether what arrives is kept.
abbrev pub takes_input : ConnectionModel → Bool
takes_input c = is_open c.phase && not c.has_ended

-- The connection after these bytes arrived.
abbrev pub with_input : ConnectionModel → List ℕ → ConnectionModel
with_input c bytes = record c {
  unread = if takes_input c then c.unread ++ bytes else c.unread;
}

-- The connection after its input ended.
abbrev pub with_end : ConnectionModel → ConnectionModel
with_end c = record c { has_ended = true }

-- The connection after the first `count` unsent bytes were sent.
abbrev pub with_sent : ConnectionModel → ℕ → ConnectionModel
with_sent c count = record c { unsent = drop count c.unsent }

abbrev pub stopped_phase : Phase → Phase
stopped_phase Open = Stopped
stopped_phase Stopped = Stopped
stopped_phase (Ended end) = Ended end
stopped_phase Lost = Lost

-- The connection after it was stopped.
abbrev pub with_stop : ConnectionModel → ConnectionModel
with_stop c = record c { phase = stopped_phase c.phase }

-- Whether a message may be whole, or the input is at its end.
abbrev pub may_go_on : ConnectionModel → Bool
may_go_on c = c.has_ended || nat_le c.wanted (length c.unread)

-- Whether messages may be executed: none is while bytes are unsent.
abbrev pub has_work : ConnectionModel → Bool
has_work c = is_open c.phase && may_go_on c && nat_eq (length c.unsent) 0

abbrev pub wants_input : ConnectionModel → Bool
wants_input c = is_open c.phase && not (may_go_on c)

abbrev pub phase_after : Progress → Phase
phase_after (Wants wanted) = Open
phase_after Paused = Open
phase_after (EndsWith end) = Ended end

abbrev pub wanted_after : Progress → ℕ
wanted_after (Wants wanted) = wanted
wanted_after Paused = 1
wanted_after (EndsWith end) = 1

-- The connection after messages were executed, with these bytes to be sent.
abbrev pub with_executed : ConnectionModel → Result Executed LostResponse → (unsent : List ℕ)
    → ConnectionModel
with_executed c (Ok done) unsent = record c {
  phase = phase_after done.progress;
  unread = drop done.consumed c.unread;
  wanted = wanted_after done.progress;
  unsent = unsent;
}
with_executed c (Err lost) unsent = record c { phase = Lost; unsent = unsent }

abbrev pub with_ahead : Option (Result Executed LostResponse) → ConnectionModel
    → (responses : List ℕ) → ConnectionModel
with_ahead None c responses = c
with_ahead (Some result) c responses = with_executed c result responses

-- The connection, with what was executed ahead.
abbrev pub kept_of : Connection → ConnectionModel
kept_of connection = with_ahead connection.ahead (connection_of connection)
    (queued connection.output)

-- Holds if nothing was executed ahead.
abbrev pub HasNothingAhead : Connection → Type 0
HasNothingAhead connection = connection.ahead ≡ None

-- Holds if a call that makes `new` of `old` executes nothing ahead.
abbrev pub StaysInStep : (old new : Connection) → Type 0
StaysInStep old new = HasNothingAhead old → HasNothingAhead new

-- The connection after these bytes arrived: none at the end of the input.
abbrev pub with_bytes : ConnectionModel → List ℕ → ConnectionModel
with_bytes c bytes = if nat_eq (length bytes) 0 then with_end c else with_input c bytes
