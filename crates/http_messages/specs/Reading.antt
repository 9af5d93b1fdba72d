-- How much of the input was read. Unread is what the reader still has, if that is known.
use Rattle.std.specs.Prelude.{◌≡◌, ℕ, ◌+◌, ◌≤◌, List, length, Option, Some, Result, Ok, Err, Bool, true, ⊤}
use Rattle.std.specs.Io.KnownBytes.{IsAtEnd, prepend_known}
use Rattle.http_messages.specs.Arrived.{HasArrived}
use Rattle.http_messages.specs.Parsing.{ParsesAs, WholeMessage}
use Rattle.http_messages.specs.declared.fault.MessageFault.{MessageFault}
use Rattle.http_messages.specs.declared.fault.MessageFault.TheVariants.{BadRequest, NoPath, BadMethod, TooLarge, BadHead, CutBody}
use Rattle.http_messages.specs.declared.arrived.Arrived.{Arrived}
use Rattle.http_messages.specs.declared.arrived.Arrived.TheVariants.{Message, Refused, Nothing, Part}
use Rattle.http_messages.specs.declared.next.NextFault.{NextFault}
use Rattle.http_messages.specs.declared.next.NextFault.TheVariants.{Read, Memory}
use Rattle.http_messages.specs.declared.message.Request.{Request}

-- Holds if at most one buffer's length of the input was read.
pub record IsReadAhead (input : List ℕ) (unread : Option (List ℕ)) : Type 0 where
  pub read : List ℕ
  pub short : length read ≤ 8192
  pub all : prepend_known read unread ≡ Some input

-- Holds if the part of the input that was read does not begin with a whole message.
pub record HasNoWholeMessage (input : List ℕ) (unread : Option (List ℕ)) : Type 0 where
  pub read : List ℕ
  pub all : prepend_known read unread ≡ Some input
  pub none : (request : Request) (body rest : List ℕ)
      → ¬ (ParsesAs read (WholeMessage request body rest))

-- Holds if no more was read than the refusal needs: at most a buffer for a refused head, the whole
-- input for a body that it cuts short.
abbrev pub IsReadTo : MessageFault → List ℕ → Option (List ℕ) → Type 0
IsReadTo BadHead input unread = IsReadAhead input unread
IsReadTo TooLarge input unread = IsReadAhead input unread
IsReadTo CutBody input unread = IsAtEnd unread
IsReadTo BadRequest input unread = ⊥
IsReadTo NoPath input unread = ⊥
IsReadTo BadMethod input unread = ⊥

-- The bytes of the message that was found, if one was.
abbrev pub message_length : Arrived → ℕ
message_length (Message request head) = head + request.length
message_length (Refused fault) = 0
message_length Nothing = 0
message_length (Part wanted) = 0

-- Holds if at most 8,192 bytes are buffered after a message.
abbrev pub IsBufferedAhead : List ℕ → Arrived → Type 0
IsBufferedAhead buffered (Message request head) =
    length buffered ≤ 8192 + (head + request.length)
IsBufferedAhead buffered (Refused fault) = ⊤
IsBufferedAhead buffered Nothing = ⊤
IsBufferedAhead buffered (Part wanted) = ⊤

-- Holds if the buffered bytes begin so. Where that needs the end of the input, the reader is at it.
abbrev pub IsAtHand : List ℕ → (unread : Option (List ℕ)) → Arrived → Type 0
IsAtHand buffered unread arrived =
    (has_ended : Bool) × (has_ended ≡ true → IsAtEnd unread) × HasArrived buffered has_ended arrived

-- Holds if no more was read than the outcome needs.
abbrev pub IsRead : Result Arrived NextFault → List ℕ → Option (List ℕ) → Type 0
IsRead (Ok Nothing) input unread = IsAtEnd unread
IsRead (Ok (Message request head)) input unread = ⊤
IsRead (Ok (Refused fault)) input unread = IsReadTo fault input unread
IsRead (Ok (Part wanted)) input unread = ⊥
IsRead (Err Read) input unread = HasNoWholeMessage input unread
IsRead (Err Memory) input unread = IsReadAhead input unread
