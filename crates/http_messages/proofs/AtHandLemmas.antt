-- What the bytes at hand say of the input, whose other bytes the reader still has.
use Rattle.std.proofs.Common.{ℕ, ◌+◌, List, ◌++◌, take, drop, Option, Some, None, refl, sym, ap, ◌∙◌, subst, append_assoc, append-nil}
use Rattle.std.specs.Prelude.{IfSome}
use Rattle.std.specs.Io.KnownBytes.{prepend_known}
use Rattle.http_messages.specs.Head.{HasHead}
use Rattle.http_messages.specs.Parsing.{EndOfInput, IsMessage, IsNextMessage, ParsesAs, RefusedMessage}
use Rattle.http_messages.specs.Reading.{IsAtHand}
use Rattle.http_messages.specs.declared.arrived.Arrived.TheVariants.{Message, Refused, Nothing}
use Rattle.http_messages.specs.declared.fault.MessageFault.{MessageFault}
use Rattle.http_messages.specs.declared.message.NextMessage.TheVariants as next
use Rattle.http_messages.specs.declared.message.Request.{Request}
use Rattle.http_messages.proofs.UniqueHeads.{head_more}

-- A message stays whole, whatever follows.
pub message_more : (input : List ℕ) (request : Request) (body rest more : List ℕ)
    → IsMessage input request body rest → IsMessage (input ++ more) request body (rest ++ more)
message_more input request body rest more is = record {
  head = is.head;
  front = subst (HasHead (input ++ more) is.head) (append_assoc body rest more)
      (head_more input is.head (body ++ rest) more is.front);
  asks = is.asks;
  whole = is.whole;
  small = is.small;
}

pub message_at : (bytes : List ℕ) (unread : Option (List ℕ)) (request : Request) (head : ℕ)
    → IsAtHand bytes unread (Message request head)
    → IfSome (prepend_known bytes unread) (λ input. IsNextMessage input (next.Message request)
    (take request.length (drop head bytes))
    (prepend_known (drop (head + request.length) bytes) unread))
message_at bytes None request head at = tt
message_at bytes (Some more) request head at = (
  drop (head + request.length) bytes ++ more,
  refl,
  message_more bytes request (take request.length (drop head bytes))
      (drop (head + request.length) bytes) more at.2.parses,
)

pub refused_at : (bytes : List ℕ) (unread : Option (List ℕ)) (fault : MessageFault)
    → IsAtHand bytes unread (Refused fault)
    → IfSome (prepend_known bytes unread) (λ input. ParsesAs input (RefusedMessage fault))
refused_at bytes None fault at = tt
refused_at bytes (Some more) fault at = at.2 more at.1

pub nothing_at : (bytes : List ℕ) (unread : Option (List ℕ)) → IsAtHand bytes unread Nothing
    → IfSome (prepend_known bytes unread) (λ input. ParsesAs input EndOfInput)
nothing_at bytes None at = tt
nothing_at bytes (Some more) at =
    subst (λ (t : List ℕ). ParsesAs t EndOfInput)
    (sym (ap (λ (t : List ℕ). bytes ++ t) (at.1 at.2.0) ∙ append-nil bytes)) at.2.1
