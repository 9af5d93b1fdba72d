-- What is answered next, in the bytes at hand and in the input.
use Rattle.std.proofs.Common.{◌≡◌, ℕ, ◌+◌, ◌-◌, ◌≤◌, List, take, drop, length, Option, Some, None, Result, Ok, Err, Bool, false, sym, ap, subst, arith, length-drop}
use Rattle.std.specs.Prelude.{IfSome}
use Rattle.std.specs.Io.KnownBytes.{IsAtEnd, Keeps, prepend_known}
use Rattle.http_messages.specs.Arrived.{HasArrived}
use Rattle.http_messages.specs.Parsing.{EndOfInput, IsNextMessage, ParsesAs}
use Rattle.http_messages.specs.Reading.{IsAtHand, IsBufferedAhead, IsRead, message_length}
use Rattle.http_messages.specs.declared.arrived.Arrived.{Arrived}
use Rattle.http_messages.specs.declared.arrived.Arrived.TheVariants.{Message, Refused, Nothing, Part}
use Rattle.http_messages.specs.declared.fault.MessageFault.{MessageFault}
use Rattle.http_messages.specs.declared.message.NextMessage.{NextMessage}
use Rattle.http_messages.specs.declared.message.NextMessage.TheVariants as next
use Rattle.http_messages.specs.declared.message.Request.{Request}
use Rattle.http_messages.proofs.AtHandLemmas.{message_at, nothing_at, refused_at}
use Rattle.api.specs.Executing.{IsNextOf, IsReady, body_of}
use Rattle.api.proofs.Going.{ReadsFor, buffered_ahead}
use Rattle.api.specs.Serving.{end_of}
use Rattle.api.specs.declared.executor.Next.{Next}
use Rattle.api.specs.declared.executor.Progress.{Progress}

pub kept_some : (a b : Option (List ℕ)) (P : List ℕ → Type 0) → Keeps a b → IfSome b P → IfSome a P
kept_some None b P keeps p = tt
kept_some (Some xs) None P keeps p = absurd keeps
kept_some (Some xs) (Some ys) P keeps p = subst P keeps p

none_if : (a : Option (List ℕ)) (P : List ℕ → Type 0) → IfSome a (λ input. ⊥) → IfSome a P
none_if None P never = tt
none_if (Some xs) P never = absurd never

abbrev Told : Type 0
Told = Result Next Progress

pub ok_is : (a b : Next) → ◌≡◌ {A = Told} (Ok a) (Ok b) → a ≡ b
ok_is a b e = cc

pub no_ok : (a : Next) (b : Progress) → ◌≡◌ {A = Told} (Ok a) (Err b) → ⊥
no_ok a b e = cc

pub err_is : (a b : Progress) → ◌≡◌ {A = Told} (Err a) (Err b) → a ≡ b
err_is a b e = cc

-- A ready message is at hand.
pub ready_at_hand : (bytes : List ℕ) (unread : Option (List ℕ)) (arrived : Arrived)
    (request : Request) (head : ℕ) → arrived ≡ Message request head → IsReady bytes arrived
    → IsAtHand bytes unread arrived
ready_at_hand bytes unread arrived request head is ready = rw is (
  false,
  (λ e. cc),
  subst (IsReady bytes) is ready,
)

pub is_ready : (bytes : List ℕ) (arrived : Arrived) → HasArrived bytes false arrived
    → IsReady bytes arrived
is_ready bytes (Message request head) at = at
is_ready bytes (Refused fault) at = tt
is_ready bytes Nothing at = tt
is_ready bytes (Part wanted) at = tt

-- The body and the message are within the bytes.
pub next_within : (bytes : List ℕ) (has_ended : Bool) (arrived : Arrived) (n : Next)
    → HasArrived bytes has_ended arrived → IsNextOf arrived (Ok n)
    → (n.head ≤ n.end) × (n.end ≤ length bytes) × (n.end ≡ message_length arrived)
next_within bytes has_ended (Message request head) n at is =
    let e = ok_is n (record {
      message = next.Message request;
      head = head;
      end = head + request.length;
    }) is in
    let start : n.head ≡ head = ap (λ (x : Next). x.head) e in
    let stop : n.end ≡ head + request.length = ap (λ (x : Next). x.end) e in
    (omega (arith, start, stop), omega (arith, stop, at.fits), stop)
next_within bytes has_ended (Refused fault) n at is =
    let e = ok_is n (record { message = next.Refused fault; head = 0; end = 0 }) is in
    let start : n.head ≡ 0 = ap (λ (x : Next). x.head) e in
    let stop : n.end ≡ 0 = ap (λ (x : Next). x.end) e in
    (omega (arith, start, stop), omega (arith, stop), stop)
next_within bytes has_ended Nothing n at is = absurd (no_ok n _ is)
next_within bytes has_ended (Part wanted) n at is = absurd (no_ok n _ is)

pub whole_body : (head size : ℕ) (bytes : List ℕ)
    → take (head + size - head) (drop head bytes) ≡ take size (drop head bytes)
whole_body head size bytes =
    let e : head + size - head ≡ size = omega arith in
    ap (λ (n : ℕ). take n (drop head bytes)) e

pub next_in : (bytes : List ℕ) (unread : Option (List ℕ)) (arrived : Arrived) (n : Next)
    → IsAtHand bytes unread arrived → IsNextOf arrived (Ok n)
    → IfSome (prepend_known bytes unread) (λ input. IsNextMessage input n.message (body_of n bytes)
    (prepend_known (drop n.end bytes) unread))
next_in bytes unread (Message request head) n at is =
    let e = ok_is n (record {
      message = next.Message request;
      head = head;
      end = head + request.length;
    }) is in
    subst (λ (x : Next). IfSome (prepend_known bytes unread) (λ input. IsNextMessage input x.message
    (body_of x bytes) (prepend_known (drop x.end bytes) unread))) (sym e)
    (subst (λ (body : List ℕ). IfSome (prepend_known bytes unread) (λ input. IsNextMessage input
    (next.Message request) body (prepend_known (drop (head + request.length) bytes) unread)))
    (sym (whole_body head request.length bytes)) (message_at bytes unread request head at))
next_in bytes unread (Refused fault) n at is =
    let e = ok_is n (record { message = next.Refused fault; head = 0; end = 0 }) is in
    subst (λ (x : Next). IfSome (prepend_known bytes unread) (λ input. IsNextMessage input x.message
    (body_of x bytes) (prepend_known (drop x.end bytes) unread))) (sym e)
    (refused_at bytes unread fault at)
next_in bytes unread Nothing n at is = absurd (no_ok n _ is)
next_in bytes unread (Part wanted) n at is = absurd (no_ok n _ is)

-- What is answered next comes from the input left.
pub next_comes : (left : Option (List ℕ)) (bytes : List ℕ) (unread : Option (List ℕ))
    (arrived : Arrived) (n : Next) → Keeps left (prepend_known bytes unread)
    → IsAtHand bytes unread arrived → IsNextOf arrived (Ok n)
    → IfSome left (λ rest. IsNextMessage rest n.message (body_of n bytes)
    (prepend_known (drop n.end bytes) unread))
next_comes left bytes unread arrived n keeps at is =
    kept_some left (prepend_known bytes unread) _ keeps (next_in bytes unread arrived n at is)

-- No more was read than what is answered next needs.
pub next_read : (left : Option (List ℕ)) (bytes bytes' : List ℕ) (unread : Option (List ℕ))
    (arrived : Arrived) (n : Next) → IsNextOf arrived (Ok n) → IsBufferedAhead bytes arrived
    → bytes' ≡ drop n.end bytes → IfSome left (λ input. IsRead (Ok arrived) input unread)
    → ReadsFor left (prepend_known bytes' unread) unread n.message
next_read left bytes bytes' unread (Message request head) n is ahead dropped reads =
    let e = ok_is n (record {
      message = next.Message request;
      head = head;
      end = head + request.length;
    }) is in
    let stop : n.end ≡ head + request.length = ap (λ (x : Next). x.end) e in
    let short : length bytes' ≤ 8192 =
    omega (arith, ahead, stop, ap length dropped, length-drop n.end bytes) in
    subst (ReadsFor left (prepend_known bytes' unread) unread) (sym (ap (λ (x : Next). x.message)
    e))
    (λ rest is_rest. buffered_ahead bytes' unread rest short is_rest)
next_read left bytes bytes' unread (Refused fault) n is ahead dropped reads =
    let e = ok_is n (record { message = next.Refused fault; head = 0; end = 0 }) is in
    subst (ReadsFor left (prepend_known bytes' unread) unread) (sym (ap (λ (x : Next). x.message)
    e))
    reads
next_read left bytes bytes' unread Nothing n is ahead dropped reads = absurd (no_ok n _ is)
next_read left bytes bytes' unread (Part wanted) n is ahead dropped reads = absurd (no_ok n _ is)

-- Nothing but the end of the input is left.
pub next_ended : (left : Option (List ℕ)) (bytes : List ℕ) (unread : Option (List ℕ))
    (arrived : Arrived) (progress : Progress) → IsNextOf arrived (Err progress)
    → Keeps left (prepend_known bytes unread) → IsAtHand bytes unread arrived
    → IfSome left (λ input. IsRead (Ok arrived) input unread)
    → IfSome left (λ rest. ParsesAs rest EndOfInput) × IfSome left (λ rest. IsAtEnd unread)
next_ended left bytes unread (Message request head) progress is keeps at reads =
    absurd (no_ok _ progress (sym is))
next_ended left bytes unread (Refused fault) progress is keeps at reads =
    absurd (no_ok _ progress (sym is))
next_ended left bytes unread Nothing progress is keeps at reads =
    (kept_some left (prepend_known bytes unread) _ keeps (nothing_at bytes unread at), reads)
next_ended left bytes unread (Part wanted) progress is keeps at reads =
    (none_if left _ reads, none_if left _ reads)

-- The same, once the message is discarded.
pub came : (left : Option (List ℕ)) (bytes bytes' : List ℕ) (unread : Option (List ℕ)) (n : Next)
    → bytes' ≡ drop n.end bytes
    → IfSome left (λ rest. IsNextMessage rest n.message (body_of n bytes)
    (prepend_known (drop n.end bytes) unread))
    → IfSome left (λ rest. IsNextMessage rest n.message (body_of n bytes)
    (prepend_known bytes' unread))
came left bytes bytes' unread n dropped comes =
    subst (λ (b : List ℕ). IfSome left (λ rest. IsNextMessage rest n.message (body_of n bytes)
    (prepend_known b unread))) (sym dropped) comes

message_stays : (m : NextMessage) (fault : MessageFault) → m ≡ next.Refused fault
    → ¬ (end_of m ≡ None)
message_stays (next.Message request) fault e stays = cc
message_stays (next.Refused other) fault e stays = cc

-- At most 8,192 bytes are left after a message that does not end serving.
pub left_short : (bytes bytes' : List ℕ) (arrived : Arrived) (n : Next) → IsNextOf arrived (Ok n)
    → IsBufferedAhead bytes arrived → bytes' ≡ drop n.end bytes → end_of n.message ≡ None
    → length bytes' ≤ 8192
left_short bytes bytes' (Message request head) n is ahead dropped stays =
    let e = ok_is n (record {
      message = next.Message request;
      head = head;
      end = head + request.length;
    }) is in
    let stop : n.end ≡ head + request.length = ap (λ (x : Next). x.end) e in
    omega (arith, ahead, stop, ap length dropped, length-drop n.end bytes)
left_short bytes bytes' (Refused fault) n is ahead dropped stays =
    let e = ok_is n (record { message = next.Refused fault; head = 0; end = 0 }) is in
    absurd (message_stays n.message fault (ap (λ (x : Next). x.message) e) stays)
left_short bytes bytes' Nothing n is ahead dropped stays = absurd (no_ok n _ is)
left_short bytes bytes' (Part wanted) n is ahead dropped stays = absurd (no_ok n _ is)
