-- The law of many connections, each under a key, whose messages are executed in rounds.
--
-- All executed messages are one chain of the machine's steps, and what is sent and unsent under a
-- key is the responses to its own messages, in order. `POST /clock` is not served, and the minutes
-- that are supplied are not known.
use Rattle.std.specs.Prelude.{◌≡◌, ◌⊎◌, ◌≤◌, ℕ, Contains, List, ◌++◌, Option, Some, None, false, option_map}
use Rattle.model.specs.State.{State}
use Rattle.register.specs.Refinement.{Refines}
use Rattle.settle.specs.declared.store_model.StoreModel.{Ghosts}
use Rattle.slab.specs.Slab.{Slab, get}
use Rattle.api.specs.Run.{Exchange}
use Rattle.hub.specs.Connections.{ConnectionModel, HasNothingAhead, connection_of, kept_of}
use Rattle.hub.specs.Feeding.{IsFed}
use Rattle.hub.specs.Schedules.{TakesTurns, Turn, exchanges_at}
use Rattle.hub.specs.declared.member.Member.{Member}

-- The connection under each key, if there is one.
abbrev pub Connections : Type 0
Connections = ℕ → Option ConnectionModel

module _ {P : Type 0} where
  -- The connections, without what was executed ahead.
  abbrev pub connections_of : Slab (Member P) → Connections
  connections_of members key = option_map (λ m. connection_of m.connection) (get members key)

  -- The connections, with what was executed ahead.
  abbrev pub kept_connections : Slab (Member P) → Connections
  kept_connections members key = option_map (λ m. kept_of m.connection) (get members key)

  -- Holds if nothing was executed ahead for the connection under this key.
  abbrev pub IsSettledAt : (key : ℕ) → Slab (Member P) → Type 0
  IsSettledAt key members = (m : Member P) → get members key ≡ Some m
      → HasNothingAhead m.connection

  -- Holds if nothing was executed ahead.
  abbrev pub IsSettled : Slab (Member P) → Type 0
  IsSettled members = (key : ℕ) → IsSettledAt key members

  -- Holds if nothing was executed ahead, but for connections under these keys.
  abbrev pub IsSettledBut : (keys : List ℕ) → Slab (Member P) → Type 0
  IsSettledBut keys members = (key : ℕ) → (m : Member P) → get members key ≡ Some m
      → HasNothingAhead m.connection ⊎ Contains keys key

-- What is known of the connection under a key: the bytes that arrived, those that were sent of its
-- responses, and its messages.
pub record History : Type 0 where
  pub input : List ℕ
  pub sent : List ℕ
  pub messages : List Exchange

-- Holds if each connection's messages so far are those of its history, and what was sent, with what
-- is unsent, is their responses.
abbrev pub AreFed : Connections → (histories : ℕ → History) → Type 0
AreFed connections histories = (key : ℕ) → (c : ConnectionModel) → connections key ≡ Some c
    → IsFed c (histories key).input (histories key).sent (histories key).messages

-- The histories after the messages of some turns.
abbrev pub with_turns : (histories : ℕ → History) → List Turn → ℕ → History
with_turns histories turns key = record (histories key) {
  messages = (histories key).messages ++ exchanges_at key turns;
}

-- Holds if the machine took the steps of some turns, and each connection has become one whose
-- messages are those before and those of its turns.
abbrev pub ConnectionsGoOn : {S : Type 0} → Ghosts S → (old new : S)
    → (before after : Connections) → Type 0
ConnectionsGoOn store old new before after = store.IsUsable new → (st : State)
    → Refines (store.content old) st → (histories : ℕ → History) → AreFed before histories
    → (last : ℕ) × (last ≤ store.failed new)
    × TakesTurns false (store.failed old) last st (store.content new) None None
    (λ turns. AreFed after (with_turns histories turns))
