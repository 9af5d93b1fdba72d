-- How an input parses: as a message, as one that is refused, or as its end.
use Rattle.std.specs.Prelude.{◌≡◌, ℕ, ◌<◌, ◌≤◌, List, [], ◌∷◌, ◌++◌, length, codes, Option, Some, None}
use Rattle.httparse.specs.Grammar.{RequestHead}
use Rattle.numbers.specs.Spids.{IsSpid}
use Rattle.numbers.specs.Texts.{spid_text}
use Rattle.numbers.specs.declared.spid.Spid.{Spid}
use Rattle.http_messages.specs.declared.fault.MessageFault.{MessageFault}
use Rattle.http_messages.specs.declared.fault.MessageFault.TheVariants.{BadRequest, NoPath, BadMethod, TooLarge, BadHead, CutBody}
use Rattle.http_messages.specs.declared.message.Request.{Request}
use Rattle.http_messages.specs.declared.message.NextMessage.{NextMessage}
use Rattle.http_messages.specs.declared.message.NextMessage.TheVariants.{Message, Refused}
use Rattle.http_messages.specs.Fields.{body_length, closes, values_of}
use Rattle.http_messages.specs.Head.{HasHead, IsBlank, IsBad}
use Rattle.http_messages.specs.Table.{path_of, method_of}

-- Holds if this is the provider that the bytes name.
abbrev pub IsNamed : List ℕ → Option Spid → Type 0
IsNamed value (Some spid) = value ≡ spid_text spid.number
IsNamed value None = (n : ℕ) → IsSpid n → ¬ (value ≡ spid_text n)

-- Holds if this is the provider that the only value names.
abbrev pub IsCaller : List (List ℕ) → Option Spid → Type 0
IsCaller [] caller = caller ≡ None
IsCaller (v ∷ []) caller = IsNamed v caller
IsCaller (v ∷ w ∷ vs) caller = caller ≡ None

-- Holds if this is the request of a head.
pub record IsRequestOf (h : RequestHead) (request : Request) : Type 0 where
  pub route : request.route ≡ path_of h.target
  pub method : request.method ≡ method_of h.method
  pub caller : IsCaller (values_of (codes "x-spid") h) request.caller
  pub length : body_length h ≡ Some request.length
  pub closes : request.closes ≡ closes h

-- The most bytes of a body.
abbrev pub body_limit : ℕ
body_limit = 1048576

-- Holds if the body's length, as the head gives it, is over the limit.
abbrev pub HasTooLargeBody : RequestHead → Type 0
HasTooLargeBody h = (n : ℕ) × (body_length h ≡ Some n) × (body_limit < n)

-- Holds if the input is a whole message, followed by rest.
pub record IsMessage (input : List ℕ) (request : Request) (body rest : List ℕ) : Type 0 where
  pub head : RequestHead
  pub front : HasHead input head (body ++ rest)
  pub asks : IsRequestOf head request
  pub whole : length body ≡ request.length
  pub small : length body ≤ body_limit

-- Holds if the input begins with a head whose body is too large.
pub record IsTooLarge (input : List ℕ) : Type 0 where
  pub head : RequestHead
  pub rest : List ℕ
  pub front : HasHead input head rest
  pub large : HasTooLargeBody head

-- Holds if the input begins with a head and ends before its body does.
pub record IsCutShort (input : List ℕ) : Type 0 where
  pub head : RequestHead
  pub rest : List ℕ
  pub front : HasHead input head rest
  pub size : ℕ
  pub has_size : body_length head ≡ Some size
  pub small : size ≤ body_limit
  pub short : length rest < size

-- What an input begins with: nothing more, a refused message, or a whole message with its body and
-- what follows.
pub data Parsed : Type 0 where
  EndOfInput : Parsed
  RefusedMessage : (fault : MessageFault) → Parsed
  WholeMessage : (request : Request) → (body rest : List ℕ) → Parsed

abbrev pub ParsesAs : List ℕ → Parsed → Type 0
ParsesAs input EndOfInput = IsBlank input
ParsesAs input (RefusedMessage BadHead) = IsBad input
ParsesAs input (RefusedMessage TooLarge) = IsTooLarge input
ParsesAs input (RefusedMessage CutBody) = IsCutShort input
ParsesAs input (RefusedMessage BadRequest) = ⊥
ParsesAs input (RefusedMessage NoPath) = ⊥
ParsesAs input (RefusedMessage BadMethod) = ⊥
ParsesAs input (WholeMessage request body rest) = IsMessage input request body rest

-- Holds if this comes next in the input; after a message, left is the input that follows it.
abbrev pub IsNextMessage : List ℕ → NextMessage → List ℕ → Option (List ℕ) → Type 0
IsNextMessage input (Message request) body left = (rest : List ℕ) × (left ≡ Some rest)
    × ParsesAs input (WholeMessage request body rest)
IsNextMessage input (Refused fault) body left = ParsesAs input (RefusedMessage fault)

-- Holds if the fields of the head are refused with this fault.
abbrev pub RefusesHead : RequestHead → MessageFault → Type 0
RefusesHead h BadHead = body_length h ≡ None
RefusesHead h TooLarge = HasTooLargeBody h
RefusesHead h CutBody = ⊥
RefusesHead h BadRequest = ⊥
RefusesHead h NoPath = ⊥
RefusesHead h BadMethod = ⊥
