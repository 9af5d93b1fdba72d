-- What was executed of the bytes that have arrived.
use Rattle.std.proofs.Common.{◌≡◌, ℕ, ◌+◌, ◌-◌, List, [], ◌++◌, length, take, drop, Option, Some, Ok, Err, Bool, true, false, if◌then◌else◌, refl, sym, ap, ◌∙◌, subst, arith, append-nil, length-drop}
use Rattle.std.specs.Io.KnownBytes.{Appends}
use Rattle.std.proofs.lemmas.List.{drop-drop, take_all}
use Rattle.model.specs.Content.{Content}
use Rattle.model.specs.State.{State}
use Rattle.http_messages.specs.Arrived.{HasArrived}
use Rattle.http_messages.specs.Parsing.{IsMessage, IsNextMessage, ParsesAs, RefusedMessage}
use Rattle.http_messages.specs.Reading.{IsReadAhead}
use Rattle.http_messages.specs.Sending.{AppendsPrefix}
use Rattle.http_messages.specs.declared.arrived.Arrived.{Arrived}
use Rattle.http_messages.specs.declared.arrived.Arrived.TheVariants as arrived
use Rattle.http_messages.specs.declared.fault.MessageFault.{MessageFault}
use Rattle.http_messages.specs.declared.fault.MessageFault.TheVariants.{BadRequest, NoPath, BadMethod, TooLarge, BadHead, CutBody}
use Rattle.http_messages.specs.declared.message.NextMessage.{NextMessage}
use Rattle.http_messages.specs.declared.message.NextMessage.TheVariants as next
use Rattle.http_messages.specs.declared.message.Request.{Request}
use Rattle.api.specs.Executing.{ExecutesTo, HasNoMessage, IsNextOf, body_of}
use Rattle.api.specs.Serving.{AfterExchanges, IoTrace, end_of}
use Rattle.api.specs.declared.executor.Next.{Next}
use Rattle.api.specs.declared.executor.Progress.{Progress}
use Rattle.api.specs.declared.executor.Progress.TheVariants.{Wants, Paused, Ended}
use Rattle.api.specs.declared.serving.End.{End}
use Rattle.api.specs.declared.serving.End.TheVariants.{Input, Closed, Refused}
use Rattle.api.proofs.Going.{HasEnded, ReadsFor, not_refused}
use Rattle.api.proofs.NextLemmas.{err_is, no_ok, ok_is, whole_body}

bytes_is : (a b : List ℕ) → Some a ≡ Some b → a ≡ b
bytes_is a b e = cc

-- The bytes after a message that begins after `consumed` bytes.
pub dropped_more : (input : List ℕ) (consumed n : ℕ)
    → drop n (drop consumed input) ≡ drop (consumed + n) input
dropped_more input consumed n = drop-drop n consumed input

-- What is answered next comes first in the bytes left.
pub next_here : (left : List ℕ) (has_ended : Bool) (a : Arrived) (n : Next)
    → HasArrived left has_ended a → IsNextOf a (Ok n)
    → IsNextMessage left n.message (body_of n left) (Some (drop n.end left))
next_here left has_ended (arrived.Message request head) n at is =
    let e = ok_is n (record {
      message = next.Message request;
      head = head;
      end = head + request.length;
    }) is in
    subst (λ (x : Next). IsNextMessage left x.message (body_of x left) (Some (drop x.end left)))
    (sym e) (
      drop (head + request.length) left,
      refl,
      subst (λ (body : List ℕ). IsMessage left request body (drop (head + request.length) left))
          (sym (whole_body head request.length left)) at.parses,
    )
next_here left has_ended (arrived.Refused fault) n at is =
    let e = ok_is n (record { message = next.Refused fault; head = 0; end = 0 }) is in
    subst (λ (x : Next). IsNextMessage left x.message (body_of x left) (Some (drop x.end left)))
    (sym e)
    (subst (λ (t : List ℕ). ParsesAs t (RefusedMessage fault)) (append-nil left)
    (at [] (λ ended. refl)))
next_here left has_ended arrived.Nothing n at is = absurd (no_ok n _ is)
next_here left has_ended (arrived.Part wanted) n at is = absurd (no_ok n _ is)

-- Nothing is answered next.
pub stops_at : (offered has_ended : Bool) (from to : ℕ) (st : State)
    (new : Content) (trace : IoTrace) (k : ℕ) (left : List ℕ) (a : Arrived) (p : Progress)
    → HasArrived left has_ended a → IsNextOf a (Err p)
    → (whole : AfterExchanges offered from to st new trace k) × (Some left ≡ Some whole.rest)
    → ExecutesTo p offered has_ended from to st new trace k left
stops_at offered has_ended from to st new trace k left (arrived.Message request head) p at is
    whole = absurd (no_ok _ p (sym is))
stops_at offered has_ended from to st new trace k left (arrived.Refused fault) p at is whole =
    absurd (no_ok _ p (sym is))
stops_at offered has_ended from to st new trace k left arrived.Nothing p at is whole =
    subst (λ p. ExecutesTo p offered has_ended from to st new trace k left)
    (sym (err_is p (Ended Input) is)) (whole.0, sym (bytes_is left whole.0.rest whole.1), at)
stops_at offered has_ended from to st new trace k left (arrived.Part wanted) p at is whole =
    subst (λ p. ExecutesTo p offered has_ended from to st new trace k left)
    (sym (err_is p (Wants wanted) is)) (whole.0, sym (bytes_is left whole.0.rest whole.1), at)

-- As much was executed as the limit allows.
pub pauses_at : (offered has_ended : Bool) (from to : ℕ) (st : State)
    (new : Content) (trace : IoTrace) (k : ℕ) (left : List ℕ)
    → (whole : AfterExchanges offered from to st new trace k) × (Some left ≡ Some whole.rest)
    → ExecutesTo Paused offered has_ended from to st new trace k left
pauses_at offered has_ended from to st new trace k left whole =
    (whole.0, sym (bytes_is left whole.0.rest whole.1))

-- One more is some.
pub no_more : (n : ℕ) → n + 1 ≡ 0 → ⊥
no_more n e = omega (arith, e)

-- Nothing is answered at the start of the input.
pub nothing_whole : (has_ended : Bool) (left : List ℕ) (a : Arrived) (p : Progress)
    → HasArrived left has_ended a → IsNextOf a (Err p) → HasNoMessage p has_ended left
nothing_whole has_ended left (arrived.Message request head) p at is = absurd (no_ok _ p (sym is))
nothing_whole has_ended left (arrived.Refused fault) p at is = absurd (no_ok _ p (sym is))
nothing_whole has_ended left arrived.Nothing p at is =
    subst (λ p. HasNoMessage p has_ended left) (sym (err_is p (Ended Input) is)) at
nothing_whole has_ended left (arrived.Part wanted) p at is =
    subst (λ p. HasNoMessage p has_ended left) (sym (err_is p (Wants wanted) is)) at

refused_is : (a b : MessageFault) → next.Refused a ≡ next.Refused b → a ≡ b
refused_is a b e = cc

no_refusal : (request : Request) (fault : MessageFault) → next.Message request ≡ next.Refused fault
    → ⊥
no_refusal request fault e = cc

-- What is refused stays in the input.
refusal_stays : (left : List ℕ) (has_ended : Bool) (a : Arrived) (n : Next) (fault : MessageFault)
    → HasArrived left has_ended a → IsNextOf a (Ok n) → n.message ≡ next.Refused fault
    → (n.end ≡ 0) × HasArrived left has_ended (arrived.Refused fault)
refusal_stays left has_ended (arrived.Message request head) n fault at is refused =
    let e = ok_is n (record {
      message = next.Message request;
      head = head;
      end = head + request.length;
    }) is in
    absurd (no_refusal request fault (sym (ap (λ (x : Next). x.message) e) ∙ refused))
refusal_stays left has_ended (arrived.Refused other) n fault at is refused =
    let e = ok_is n (record { message = next.Refused other; head = 0; end = 0 }) is in (
      ap (λ (x : Next). x.end) e,
      subst (λ f. HasArrived left has_ended (arrived.Refused f))
          (refused_is other fault (sym (ap (λ (x : Next). x.message) e) ∙ refused)) at,
    )
refusal_stays left has_ended arrived.Nothing n fault at is refused = absurd (no_ok n _ is)
refusal_stays left has_ended (arrived.Part wanted) n fault at is refused = absurd (no_ok n _ is)

refused_end : (m : NextMessage) (fault : MessageFault) → end_of m ≡ Some (Refused fault)
    → m ≡ next.Refused fault
refused_end (next.Message request) fault e = absurd (not_refused request.closes fault e)
refused_end (next.Refused other) fault e = ap next.Refused (fault_is other fault e)
  where
    fault_is : (a b : MessageFault) → Some (Refused a) ≡ Some (Refused b) → a ≡ b
    fault_is a b e = cc

-- The response was the last.
pub ends_at : (offered has_ended : Bool) (from to : ℕ) (st : State)
    (new : Content) (trace : IoTrace) (k : ℕ) (input : List ℕ) (consumed : ℕ) (a : Arrived)
    (n : Next) (end : End) → HasArrived (drop consumed input) has_ended a → IsNextOf a (Ok n)
    → end_of n.message ≡ Some end
    → HasEnded end offered from to st new trace k (Some (drop consumed input))
    (Some (drop n.end (drop consumed input)))
    → ExecutesTo (Ended end) offered has_ended from to st new trace k
    (drop (consumed + n.end) input)
ends_at offered has_ended from to st new trace k input consumed a n Input at is ends has =
    absurd has
ends_at offered has_ended from to st new trace k input consumed a n Closed at is ends has = (
  has.0,
  sym (bytes_is (drop n.end (drop consumed input)) has.0.rest_after has.1)
      ∙ dropped_more input consumed n.end,
)
ends_at offered has_ended from to st new trace k input consumed a n (Refused fault) at is ends
    has =
    let stays = refusal_stays (drop consumed input) has_ended a n fault at is
    (refused_end n.message fault ends) in
    let same : consumed ≡ consumed + n.end = omega (arith, stays.0) in
    subst (λ (n : ℕ). ExecutesTo (Ended (Refused fault)) offered has_ended from to st new trace
    k (drop n input)) same
    (has.0, sym (bytes_is (drop consumed input) has.0.rest has.1), stays.1)

-- ---- a response that was lost

-- What counts as unread after a response that was lost.
abbrev pub unread_after : NextMessage → (left left' : List ℕ) → Option (List ℕ)
unread_after (next.Message request) left left' = Some left'
unread_after (next.Refused CutBody) left left' = Some []
unread_after (next.Refused fault) left left' = Some left

nothing_read : (bytes : List ℕ) → IsReadAhead bytes (Some bytes)
nothing_read bytes = record { read = []; short = omega arith; all = refl }

pub reads_so : (m : NextMessage) (left left' body : List ℕ)
    → IsNextMessage left m body (Some left')
    → ReadsFor (Some left) (Some left') (unread_after m left left') m
reads_so (next.Message request) left left' body comes = λ rest is.
    subst (λ (t : List ℕ). IsReadAhead t (Some left')) (bytes_is left' rest is) (nothing_read left')
reads_so (next.Refused BadHead) left left' body comes = nothing_read left
reads_so (next.Refused TooLarge) left left' body comes = nothing_read left
reads_so (next.Refused CutBody) left left' body comes = refl
reads_so (next.Refused BadRequest) left left' body comes = absurd comes
reads_so (next.Refused NoPath) left left' body comes = absurd comes
reads_so (next.Refused BadMethod) left left' body comes = absurd comes

-- Nothing of the response was appended.
abbrev pub nothing_appended : (had : List ℕ) (text : List ℕ) → AppendsPrefix (Some had) (Some had)
    text
nothing_appended had text = (0, omega arith, sym (append-nil had))

-- ---- the bytes left and the output

-- A slice to the end of the input is what follows.
pub rest_is : (input : List ℕ) (consumed : ℕ)
    → take (length input - consumed) (drop consumed input) ≡ drop consumed input
rest_is input consumed =
    take_all (length input - consumed) (drop consumed input)
    (omega (arith, length-drop consumed input))

pub appended : (had has more text : List ℕ) (ok : Bool)
    → has ≡ (if ok then had ++ more else had) → ok ≡ true → more ≡ text
    → Appends (Some had) (Some has) text
appended had has more text ok items is same =
    items ∙ ap (λ (b : Bool). if b then had ++ more else had) is
    ∙ ap (λ (t : List ℕ). had ++ t) same

pub not_appended : (had has more : List ℕ) (ok : Bool)
    → has ≡ (if ok then had ++ more else had) → ok ≡ false → has ≡ had
not_appended had has more ok items is =
    items ∙ ap (λ (b : Bool). if b then had ++ more else had) is
