-- How much of the input was read.
use Rattle.std.proofs.Common.{◌≡◌, inl, inr, ℕ, ◌+◌, ◌-◌, ◌<◌, ◌≤◌, Bool, true, false, List, [], ◌++◌, length, max, Option, Some, None, Result, Ok, Err, refl, sym, ap, ◌∙◌, subst, arith, append-nil, length-append}
use Rattle.std.specs.Prelude.{IfSome, ⊤}
use Rattle.std.specs.Io.KnownBytes.{IsAtEnd, Keeps, prepend_known}
use Rattle.std.proofs.Math.ListN.{replicate}
use Rattle.std.proofs.Math.Nat.{lt_of_not-le}
use Rattle.std.proofs.lemmas.List.{length-drop, length-replicate}
use Rattle.httparse.specs.Grammar.{RequestHead}
use Rattle.http_messages.specs.Arrived.{HasArrived, IsDecided, IsWholeAt}
use Rattle.http_messages.specs.Fields.{body_length}
use Rattle.http_messages.specs.Head.{HasHead, IsBad}
use Rattle.http_messages.specs.Parsing.{IsCutShort, IsMessage, IsTooLarge, ParsesAs, RefusedMessage, body_limit}
use Rattle.http_messages.specs.Reading.{HasNoWholeMessage, IsBufferedAhead, IsRead, IsReadAhead, IsReadTo}
use Rattle.http_messages.specs.declared.arrived.Arrived.{Arrived}
use Rattle.http_messages.specs.declared.arrived.Arrived.TheVariants.{Message, Refused, Nothing, Part}
use Rattle.http_messages.specs.declared.fault.MessageFault.{MessageFault}
use Rattle.http_messages.specs.declared.fault.MessageFault.TheVariants.{BadRequest, NoPath, BadMethod, TooLarge, BadHead, CutBody}
use Rattle.http_messages.specs.declared.message.Request.{Request}
use Rattle.http_messages.specs.declared.next.NextFault.{NextFault}
use Rattle.http_messages.specs.declared.next.NextFault.TheVariants.{Read, Memory}
use Rattle.http_messages.proofs.UniqueHeads.{head_more, one_head}
use Rattle.numbers.proofs.Small.{impossible, no_members, some_is}

-- Holds if the bytes are a head and at most its body, and all of it unless the input has ended.
pub record EndsInBody (bytes : List ℕ) (has_ended : Bool) : Type 0 where
  pub head : RequestHead
  pub rest : List ℕ
  pub front : HasHead bytes head rest
  pub size : ℕ
  pub has_size : body_length head ≡ Some size
  pub small : size ≤ body_limit
  pub most : length rest ≤ size
  pub enough : has_ended ≡ false → size ≤ length rest

-- Holds if more than 8,192 bytes are buffered for a body only.
abbrev pub HasNoExcess : List ℕ → (has_ended : Bool) → Type 0
HasNoExcess bytes has_ended = 8192 < length bytes → EndsInBody bytes has_ended

-- The measure of the loop: how many bytes a head may still have, and one for the end of the input.
abbrev pub looks_left : List ℕ → (has_ended : Bool) → ℕ
looks_left bytes true = 8193 - length bytes
looks_left bytes false = 8193 - length bytes + 1

-- ---- a part of a message

at_most : (n most : ℕ) → (most < n → ⊥) → n ≤ most
at_most n most false_if =
    omega (arith, lt_of_not-le (λ (more : most + 1 ≤ n). false_if (omega (arith, more))))

no_part : (bytes : List ℕ) (wanted : ℕ) (x : EndsInBody bytes false)
    → ¬ (HasArrived bytes false (Part wanted))
no_part bytes wanted x (e, inl waits, more) = waits.0 x.head x.rest x.front.reads
no_part bytes wanted x (e, inr waits, more) =
    let heads = one_head bytes x.head waits.head x.rest waits.rest x.front waits.front in
    let size : x.size ≡ waits.size =
    some_is x.size waits.size (sym x.has_size ∙ ap body_length heads.0 ∙ waits.has_size) in
    omega (arith, size, ap length heads.1, waits.missing, x.enough refl)

-- No part is decided.
not_decided : (bytes : List ℕ) (has_ended : Bool) (wanted : ℕ)
    → HasArrived bytes has_ended (Part wanted) → ¬ (IsDecided bytes)
not_decided bytes has_ended wanted (e, inl waits, more) is = waits.0 is.head is.rest is.front.reads
not_decided bytes has_ended wanted (e, inr waits, more) is =
    let heads = one_head bytes is.head waits.head is.rest waits.rest is.front waits.front in
    omega (
      arith,
      ap length heads.1,
      waits.missing,
      is.whole waits.size (ap body_length heads.0 ∙ waits.has_size) waits.small,
    )

-- Nor were the bytes decided at first, if they would be the same now.
pub undecided : (old bytes : List ℕ) (has_ended : Bool) (wanted : ℕ) (P : Type 0)
    → HasArrived bytes has_ended (Part wanted) → (IsDecided old → (bytes ≡ old) × P)
    → ¬ (IsDecided old)
undecided old bytes has_ended wanted P part same decided =
    not_decided bytes has_ended wanted part (subst IsDecided (sym (same decided).0) decided)

-- A part has at most 8,192 bytes.
few_bytes : (bytes : List ℕ) (has_ended : Bool) (wanted : ℕ) → HasNoExcess bytes has_ended
    → HasArrived bytes has_ended (Part wanted) → length bytes ≤ 8192
few_bytes bytes true wanted ends part = impossible part.0
few_bytes bytes false wanted ends part =
    at_most (length bytes) 8192 (λ many. no_part bytes wanted (ends many) part)

more_wanted : (bytes : List ℕ) (has_ended : Bool) (wanted : ℕ)
    → HasArrived bytes has_ended (Part wanted) → length bytes < wanted
more_wanted bytes has_ended wanted (e, inl waits, more) = omega (arith, waits.2)
more_wanted bytes has_ended wanted (e, inr waits, more) = omega (arith, waits.missing, waits.ends)

-- The bytes after a read for a part end in its body.
ends_in_body : (bytes more : List ℕ) (had_ended has_ended : Bool) (wanted : ℕ)
    → HasArrived bytes had_ended (Part wanted)
    → length (bytes ++ more) ≤ max 8192 wanted
    → (has_ended ≡ false → wanted ≤ length (bytes ++ more)) → HasNoExcess (bytes ++ more) has_ended
ends_in_body bytes more had_ended has_ended wanted (e, inl waits, none) most enough many =
    absurd (omega (arith, waits.1, waits.2, most, many))
ends_in_body bytes more had_ended has_ended wanted (e, inr waits, none) most enough many = record {
  head = waits.head;
  rest = waits.rest ++ more;
  front = head_more bytes waits.head waits.rest more waits.front;
  size = waits.size;
  has_size = waits.has_size;
  small = waits.small;
  most = omega (
    arith,
    most,
    many,
    waits.ends,
    length-append bytes more,
    length-append waits.rest more,
  );
  enough = λ waiting. omega (
    arith,
    enough waiting,
    waits.ends,
    length-append bytes more,
    length-append waits.rest more,
  );
}

fewer_left : (bytes after : List ℕ) (had_ended has_ended : Bool) (wanted : ℕ) → length bytes ≤ 8192
    → HasArrived bytes had_ended (Part wanted) → length bytes ≤ length after
    → (has_ended ≡ false → wanted ≤ length after)
    → looks_left after has_ended < looks_left bytes had_ended
fewer_left bytes after true has_ended wanted few part long enough = impossible part.0
fewer_left bytes after false true wanted few part long enough = omega (arith, few, long)
fewer_left bytes after false false wanted few part long enough =
    omega (arith, few, more_wanted bytes false wanted part, enough refl)

-- What was read for a part.
module _ (bytes : List ℕ) (had_ended : Bool) (wanted : ℕ) (ends : HasNoExcess bytes had_ended)
    (part : HasArrived bytes had_ended (Part wanted)) (after : List ℕ) (has_ended : Bool)
    (grown : (more : List ℕ) × (after ≡ bytes ++ more))
    (enough : has_ended ≡ false → wanted ≤ length after) where
  pub no_excess : length after ≤ max 8192 wanted → HasNoExcess after has_ended
  no_excess most = subst (λ (t : List ℕ). HasNoExcess t has_ended) (sym grown.1)
      (ends_in_body bytes grown.0 had_ended has_ended wanted part
      (omega (arith, most, ap length grown.1))
      (λ e. omega (arith, enough e, ap length grown.1)))

  pub looks_smaller : looks_left after has_ended < looks_left bytes had_ended
  looks_smaller =
      let few = few_bytes bytes had_ended wanted ends part in
      let long : length bytes ≤ length after =
      omega (arith, ap length grown.1, length-append bytes grown.0) in
      fewer_left bytes after had_ended has_ended wanted few part long enough

-- ---- a message

-- Nothing is buffered after the message.
nothing_after : (bytes : List ℕ) (has_ended : Bool) (request : Request) (body rest : List ℕ)
    (x : EndsInBody bytes has_ended) → IsMessage bytes request body rest → rest ≡ []
nothing_after bytes has_ended request body rest x is =
    let heads = one_head bytes x.head is.head x.rest (body ++ rest) x.front is.front in
    let size : x.size ≡ request.length = some_is x.size request.length
    (sym x.has_size ∙ ap body_length heads.0 ∙ is.asks.length) in
    no_members rest (omega (
      arith,
      size,
      x.most,
      is.whole,
      ap length heads.1,
      length-append body rest,
    ))

message_ahead : (bytes : List ℕ) (has_ended : Bool) (request : Request) (head : ℕ)
    → HasNoExcess bytes has_ended → IsWholeAt bytes request head
    → length bytes ≤ 8192 + (head + request.length)
message_ahead bytes has_ended request head ends is =
    at_most (length bytes) (8192 + (head + request.length)) (λ many.
    let none = nothing_after bytes has_ended request _ _ (ends (omega (arith, many))) is.parses in
    omega (arith, many, ap length none, length-drop (head + request.length) bytes))

-- ---- what is refused

no_bad : (bytes : List ℕ) (has_ended : Bool) → EndsInBody bytes has_ended → ¬ (IsBad bytes)
no_bad bytes has_ended x bad =
    let none : None ≡ Some x.size = sym (bad.none x.head x.rest x.front) ∙ x.has_size in cc

no_large : (bytes : List ℕ) (has_ended : Bool) → EndsInBody bytes has_ended → ¬ (IsTooLarge bytes)
no_large bytes has_ended x is =
    let heads = one_head bytes x.head is.head x.rest is.rest x.front is.front in
    let size : x.size ≡ is.large.0 = some_is x.size is.large.0
    (sym x.has_size ∙ ap body_length heads.0 ∙ is.large.1) in
    omega (arith, size, x.small, is.large.2)

-- A body that more bytes would complete is not cut short by them.
no_cut : (bytes : List ℕ) (cut : IsCutShort bytes)
    → ¬ (IsCutShort (bytes ++ replicate cut.size 0))
no_cut bytes cut is =
    let more : List ℕ = replicate cut.size 0 in
    let long : length more ≡ cut.size = length-replicate {A = ℕ} cut.size 0 in
    let heads = one_head (bytes ++ more) cut.head is.head (cut.rest ++ more) is.rest
    (head_more bytes cut.head cut.rest more cut.front) is.front in
    let size : cut.size ≡ is.size = some_is cut.size is.size
    (sym cut.has_size ∙ ap body_length heads.0 ∙ is.has_size) in
    omega (
      arith,
      size,
      is.short,
      ap length heads.1,
      length-append cut.rest more,
      long,
    )

-- All that was read is buffered.
buffered_ahead : (all r : Option (List ℕ)) (bytes : List ℕ) → Keeps all (prepend_known bytes r)
    → length bytes ≤ 8192 → IfSome all (λ input. IsReadAhead input r)
buffered_ahead None r bytes keeps short = tt
buffered_ahead (Some input) None bytes keeps short = absurd keeps
buffered_ahead (Some input) (Some more) bytes keeps short = record {
  read = bytes;
  short = short;
  all = ap Some keeps;
}

if_some : (all : Option (List ℕ)) (P : Type 0) → P → IfSome all (λ input. P)
if_some None P p = tt
if_some (Some input) P p = p

module _ (all r : Option (List ℕ)) (bytes : List ℕ)
    (keeps : Keeps all (prepend_known bytes r)) where
  refused_read : (has_ended : Bool) (fault : MessageFault) → HasNoExcess bytes has_ended
      → (has_ended ≡ true → IsAtEnd r) → HasArrived bytes has_ended (Refused fault)
      → ParsesAs bytes (RefusedMessage fault) → IfSome all (λ input. IsReadTo fault input r)
  refused_read has_ended BadHead ends end refused is = buffered_ahead all r bytes keeps
      (at_most (length bytes) 8192 (λ many. no_bad bytes has_ended (ends many) is))
  refused_read has_ended TooLarge ends end refused is = buffered_ahead all r bytes keeps
      (at_most (length bytes) 8192 (λ many. no_large bytes has_ended (ends many) is))
  refused_read true CutBody ends end refused is = if_some all (IsAtEnd r) (end refl)
  refused_read false CutBody ends end refused is =
      absurd (no_cut bytes is (refused (replicate is.size 0) (λ e. impossible (sym e))))
  refused_read has_ended BadRequest ends end refused is = absurd is
  refused_read has_ended NoPath ends end refused is = absurd is
  refused_read has_ended BadMethod ends end refused is = absurd is

  -- No more was read than what has arrived needs.
  pub is_read : (has_ended : Bool) (arrived : Arrived) → HasNoExcess bytes has_ended
      → (has_ended ≡ true → IsAtEnd r) → HasArrived bytes has_ended arrived
      → ((wanted : ℕ) → ¬ (arrived ≡ Part wanted))
      → IfSome all (λ input. IsRead (Ok arrived) input r)
  is_read has_ended (Message request head) ends end is whole = if_some all ⊤ tt
  is_read has_ended (Refused fault) ends end is whole =
      refused_read has_ended fault ends end is
      (subst (λ (t : List ℕ). ParsesAs t (RefusedMessage fault)) (append-nil bytes)
      (is [] (λ _. refl)))
  is_read has_ended Nothing ends end is whole = if_some all (IsAtEnd r) (end is.0)
  is_read has_ended (Part wanted) ends end is whole = absurd (whole wanted refl)

-- At most 8,192 bytes are buffered after a message.
pub is_ahead : (bytes : List ℕ) (has_ended : Bool) (arrived : Arrived)
    → HasNoExcess bytes has_ended → HasArrived bytes has_ended arrived
    → IsBufferedAhead bytes arrived
is_ahead bytes has_ended (Message request head) ends is =
    message_ahead bytes has_ended request head ends is
is_ahead bytes has_ended (Refused fault) ends is = tt
is_ahead bytes has_ended Nothing ends is = tt
is_ahead bytes has_ended (Part wanted) ends is = tt

-- As long as there are fewer bytes than wanted, no whole message was read.
part_read : (all r : Option (List ℕ)) (bytes more : List ℕ) (has_ended : Bool) (wanted : ℕ)
    → Keeps all (prepend_known (bytes ++ more) r) → HasArrived bytes has_ended (Part wanted)
    → length (bytes ++ more) < wanted → IfSome all (λ input. HasNoWholeMessage input r)
part_read None r bytes more has_ended wanted keeps part few = tt
part_read (Some input) None bytes more has_ended wanted keeps part few = absurd keeps
part_read (Some input) (Some after) bytes more has_ended wanted keeps part few = record {
  read = bytes ++ more;
  all = ap Some keeps;
  none = part.2 more few;
}

-- What a failed read for a part leaves.
pub failed_read : (all r : Option (List ℕ)) (bytes after : List ℕ) (has_ended : Bool) (wanted : ℕ)
    (result : Result Arrived NextFault) (fault : NextFault)
    → Keeps all (prepend_known after r) → HasNoExcess bytes has_ended
    → HasArrived bytes has_ended (Part wanted)
    → ((more : List ℕ) × (after ≡ bytes ++ more))
    → (fault ≡ Read → length after < wanted) → (fault ≡ Memory → after ≡ bytes)
    → result ≡ Err fault → IfSome all (λ input. IsRead result input r)
failed_read all r bytes after has_ended wanted result Read keeps ends part grown few same is =
    subst (λ (t : Result Arrived NextFault). IfSome all (λ input. IsRead t input r)) (sym is)
    (part_read all r bytes grown.0 has_ended wanted
    (subst (λ (t : List ℕ). Keeps all (prepend_known t r)) grown.1 keeps) part
    (omega (arith, few refl, ap length grown.1)))
failed_read all r bytes after has_ended wanted result Memory keeps ends part grown few same is =
    subst (λ (t : Result Arrived NextFault). IfSome all (λ input. IsRead t input r)) (sym is)
    (buffered_ahead all r after keeps
    (omega (arith, few_bytes bytes has_ended wanted ends part, ap length (same refl))))
