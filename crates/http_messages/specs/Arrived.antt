-- What the bytes that have arrived begin with.
use Rattle.std.specs.Prelude.{◌≡◌, ◌⊎◌, ℕ, ◌+◌, ◌<◌, ◌≤◌, List, [], ◌++◌, length, take, drop, Bool, true, false, Some}
use Rattle.httparse.specs.Grammar.{HasNoRequest, RequestHead}
use Rattle.http_messages.specs.Fields.{body_length}
use Rattle.http_messages.specs.Head.{HasHead}
use Rattle.http_messages.specs.Parsing.{ParsesAs, EndOfInput, RefusedMessage, WholeMessage, body_limit}
use Rattle.http_messages.specs.declared.arrived.Arrived.{Arrived}
use Rattle.http_messages.specs.declared.arrived.Arrived.TheVariants.{Message, Refused, Nothing, Part}
use Rattle.http_messages.specs.declared.message.Request.{Request}

-- Holds if nothing follows once the input has ended.
abbrev pub MayFollow : (has_ended : Bool) → List ℕ → Type 0
MayFollow has_ended more = has_ended ≡ true → more ≡ []

-- Holds if the bytes begin with a whole message, with a head of this length.
pub record IsWholeAt (bytes : List ℕ) (request : Request) (head : ℕ) : Type 0 where
  pub fits : head + request.length ≤ length bytes
  pub parses : ParsesAs bytes (WholeMessage request (take request.length (drop head bytes))
      (drop (head + request.length) bytes))

-- Holds if the bytes begin with no whole head, which one more byte may change.
abbrev pub WaitsForHead : List ℕ → (wanted : ℕ) → Type 0
WaitsForHead bytes wanted = HasNoRequest bytes × (length bytes < 8192)
    × (wanted ≡ length bytes + 1)

-- Holds if the bytes begin with a head, and with its body the message is `wanted` bytes, more than
-- have arrived.
pub record WaitsForBody (bytes : List ℕ) (wanted : ℕ) : Type 0 where
  pub head : RequestHead
  pub rest : List ℕ
  pub front : HasHead bytes head rest
  pub size : ℕ
  pub has_size : body_length head ≡ Some size
  pub small : size ≤ body_limit
  pub missing : length rest < size
  pub ends : wanted + length rest ≡ length bytes + size

-- Holds if the bytes begin with a head that is refused, or with a whole message.
pub record IsDecided (bytes : List ℕ) : Type 0 where
  pub head : RequestHead
  pub rest : List ℕ
  pub front : HasHead bytes head rest
  pub whole : (size : ℕ) → body_length head ≡ Some size → size ≤ body_limit → size ≤ length rest

-- Holds if no input of fewer than `wanted` bytes that begins with these has a whole message.
abbrev pub WantsMore : List ℕ → (wanted : ℕ) → Type 0
WantsMore bytes wanted = (more : List ℕ) → length (bytes ++ more) < wanted
    → (request : Request) (body rest : List ℕ)
    → ¬ (ParsesAs (bytes ++ more) (WholeMessage request body rest))

-- Holds if the bytes begin so, whatever follows them. `Part`: no whole message has arrived, nor
-- will one before there are `wanted` bytes.
abbrev pub HasArrived : List ℕ → (has_ended : Bool) → Arrived → Type 0
HasArrived bytes has_ended (Message request head) = IsWholeAt bytes request head
HasArrived bytes has_ended (Refused fault) = (more : List ℕ) → MayFollow has_ended more
    → ParsesAs (bytes ++ more) (RefusedMessage fault)
HasArrived bytes has_ended Nothing = (has_ended ≡ true) × ParsesAs bytes EndOfInput
HasArrived bytes has_ended (Part wanted) = (has_ended ≡ false)
    × (WaitsForHead bytes wanted ⊎ WaitsForBody bytes wanted) × WantsMore bytes wanted

-- Holds if the bytes begin with `start`, and have no more if that is fewer than 8,192 bytes.
pub record IsStart (input start : List ℕ) : Type 0 where
  pub after : List ℕ
  pub all : input ≡ start ++ after
  pub most : length start ≤ 8192
  pub short : length start < 8192 → after ≡ []
