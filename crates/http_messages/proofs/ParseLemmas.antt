-- An input parses in one way only.
use Rattle.std.proofs.Common.{◌≡◌, ℕ, ◌<◌, ◌≤◌, List, [], ◌∷◌, ◌++◌, length, drop, get_or, codes, ◌/◌, ◌%◌, Option, Some, None, refl, sym, ap, ◌∙◌, subst, arith, length-append}
use Rattle.std.proofs.Math.Bool.{Bool-set}
use Rattle.httparse.specs.Grammar.{RequestHead}
use Rattle.numbers.specs.Spids.{IsSpid}
use Rattle.numbers.specs.Texts.{spid_text}
use Rattle.numbers.specs.declared.spid.Spid.{Spid}
use Rattle.http_messages.specs.Parsing.{IsNamed, IsCaller, IsRequestOf, IsMessage, IsTooLarge, IsCutShort, Parsed, EndOfInput, RefusedMessage, WholeMessage, ParsesAs}
use Rattle.http_messages.specs.Fields.{body_length, values_of}
use Rattle.http_messages.specs.Head.{HasHead, IsBlank, IsBad}
use Rattle.http_messages.specs.declared.fault.MessageFault.{MessageFault}
use Rattle.http_messages.specs.declared.fault.MessageFault.TheVariants.{BadRequest, NoPath, BadMethod, TooLarge, BadHead, CutBody}
use Rattle.http_messages.specs.declared.message.Request.{Request}
use Rattle.http_messages.proofs.UniqueHeads.{head_not_blank, one_head}
use Rattle.numbers.proofs.Small.{some_is}

-- ---- one provider for a text

pub spid_number : (n m : ℕ) → spid_text n ≡ spid_text m → n ≡ m
spid_number n m e =
    let first : n / 16777216 ≡ m / 16777216 = ap (λ (t : List ℕ). get_or t 0 0) e in
    let second : n / 65536 % 256 ≡ m / 65536 % 256 = ap (λ (t : List ℕ). get_or t 1 0) e in
    let third : n / 256 % 256 ≡ m / 256 % 256 = ap (λ (t : List ℕ). get_or t 2 0) e in
    let fourth : n % 256 ≡ m % 256 = ap (λ (t : List ℕ). get_or t 3 0) e in
    omega (arith, first, second, third, fourth)

abbrev spid_made : (n : ℕ) → IsSpid n → Spid
spid_made n valid = record { number = n; valid = valid }

same_spid : (n m : ℕ) (v : IsSpid n) (w : IsSpid m) → n ≡ m → spid_made n v ≡ spid_made m w
same_spid n m v w e = subst (λ (k : ℕ). (u : IsSpid k) → spid_made n v ≡ spid_made k u) e
    (λ u. ap (spid_made n) (Bool-set _ _ v u)) w

one_name : (value : List ℕ) (a b : Option Spid) → IsNamed value a → IsNamed value b → a ≡ b
one_name value (Some s) (Some t) x y =
    ap Some (same_spid s.number t.number s.valid t.valid (spid_number s.number t.number (sym x
    ∙ y)))
one_name value (Some s) None x y = absurd (y s.number s.valid x)
one_name value None (Some t) x y = absurd (x t.number t.valid y)
one_name value None None x y = refl

one_caller : (values : List (List ℕ)) (a b : Option Spid) → IsCaller values a → IsCaller values b
    → a ≡ b
one_caller [] a b x y = x ∙ sym y
one_caller (v ∷ []) a b x y = one_name v a b x y
one_caller (v ∷ w ∷ vs) a b x y = x ∙ sym y

-- ---- one request for a head

none_number : (n : ℕ) → None ≡ Some n → ⊥
none_number n e = cc

one_request : (h : RequestHead) (a b : Request) → IsRequestOf h a → IsRequestOf h b → a ≡ b
one_request h a b x y =
    let route = x.route ∙ sym y.route in
    let method = x.method ∙ sym y.method in
    let caller = one_caller (values_of (codes "x-spid") h) a.caller b.caller x.caller y.caller in
    let size = some_is a.length b.length (sym x.length ∙ y.length) in
    let closes = x.closes ∙ sym y.closes in
    λ i. record {
      route = route i;
      method = method i;
      caller = caller i;
      length = size i;
      closes = closes i;
    }

-- ---- one message

parts : (a b r q : List ℕ) → length a ≡ length b → a ++ r ≡ b ++ q → (a ≡ b) × (r ≡ q)
parts [] [] r q l e = (refl, e)
parts [] (y ∷ b) r q l e = cc
parts (x ∷ a) [] r q l e = cc
parts (x ∷ a) (y ∷ b) r q l e =
    let first : x ≡ y = ap (λ (t : List ℕ). get_or t 0 0) e in
    let more = parts a b r q (omega (arith, l)) (ap (drop 1) e) in
    (λ i. first i ∷ more.0 i, more.1)

one_message : (input : List ℕ) (a b : Request) (body text rest left : List ℕ)
    → IsMessage input a body rest → IsMessage input b text left
    → WholeMessage a body rest ≡ WholeMessage b text left
one_message input a b body text rest left x y =
    let heads = one_head input x.head y.head (body ++ rest) (text ++ left) x.front y.front in
    let asked = one_request y.head a b (subst (λ (h : RequestHead). IsRequestOf h a) heads.0 x.asks)
    y.asks in
    let split = parts body text rest left (x.whole ∙ ap (λ (r : Request). r.length) asked
    ∙ sym y.whole) heads.1 in
    λ i. WholeMessage (asked i) (split.0 i) (split.1 i)

-- ---- one parse

-- Holds if the input begins with a head that gives this length, and `after` bytes follow the head.
abbrev GivesLength : List ℕ → ℕ → ℕ → Type 0
GivesLength input size after = (h : RequestHead) × (rest : List ℕ) × HasHead input h rest
    × (body_length h ≡ Some size) × (after ≡ length rest)

one_size : (input : List ℕ) (n m k l : ℕ) → GivesLength input n k → GivesLength input m l
    → (n ≡ m) × (k ≡ l)
one_size input n m k l x y =
    let heads = one_head input x.0 y.0 x.1 y.1 x.2 y.2 in
    (some_is n m (sym x.3 ∙ ap body_length heads.0 ∙ y.3), x.4 ∙ ap length heads.1 ∙ sym y.4)

large_length : (input : List ℕ) → IsTooLarge input → (n : ℕ) × (k : ℕ) × GivesLength input n k
    × (1048576 < n)
large_length input x = (
  x.large.0,
  length x.rest,
  (x.head, x.rest, x.front, x.large.1, refl),
  x.large.2,
)

short_length : (input : List ℕ) → IsCutShort input → (n : ℕ) × (k : ℕ) × GivesLength input n k
    × (n ≤ 1048576) × (k < n)
short_length input x = (
  x.size,
  length x.rest,
  (x.head, x.rest, x.front, x.has_size, refl),
  x.small,
  x.short,
)

whole_length : (input : List ℕ) (request : Request) (body rest : List ℕ)
    → IsMessage input request body rest → (n : ℕ) × (k : ℕ) × GivesLength input n k × (n ≤ 1048576)
    × (n ≤ k)
whole_length input request body rest x =
    let size : request.length ≤ 1048576 = omega (arith, x.whole, x.small) in
    let fits : request.length ≤ length (body ++ rest) =
    omega (arith, x.whole, length-append body rest) in (
      request.length,
      length (body ++ rest),
      (x.head, body ++ rest, x.front, x.asks.length, refl),
      size,
      fits,
    )

bad_length : (input : List ℕ) (n k : ℕ) → IsBad input → GivesLength input n k → ⊥
bad_length input n k bad x = none_number n (sym (bad.none x.0 x.1 x.2) ∙ x.3)

module _ (input : List ℕ) where
  large_short : IsTooLarge input → IsCutShort input → ⊥
  large_short x y =
      let a = large_length input x in
      let b = short_length input y in
      absurd (omega (arith, (one_size input a.0 b.0 a.1 b.1 a.2 b.2).0, a.3, b.3))

  bad_is : (g : MessageFault) → IsBad input → ParsesAs input (RefusedMessage g) → BadHead ≡ g
  bad_is BadHead x y = refl
  bad_is TooLarge x y = let a = large_length input y in absurd (bad_length input a.0 a.1 x a.2)
  bad_is CutBody x y = let a = short_length input y in absurd (bad_length input a.0 a.1 x a.2)
  bad_is BadRequest x y = absurd y
  bad_is NoPath x y = absurd y
  bad_is BadMethod x y = absurd y

  large_is : (g : MessageFault) → IsTooLarge input → ParsesAs input (RefusedMessage g)
      → TooLarge ≡ g
  large_is BadHead x y = let a = large_length input x in absurd (bad_length input a.0 a.1 y a.2)
  large_is TooLarge x y = refl
  large_is CutBody x y = absurd (large_short x y)
  large_is BadRequest x y = absurd y
  large_is NoPath x y = absurd y
  large_is BadMethod x y = absurd y

  short_is : (g : MessageFault) → IsCutShort input → ParsesAs input (RefusedMessage g) → CutBody ≡ g
  short_is BadHead x y = let a = short_length input x in absurd (bad_length input a.0 a.1 y a.2)
  short_is TooLarge x y = absurd (large_short y x)
  short_is CutBody x y = refl
  short_is BadRequest x y = absurd y
  short_is NoPath x y = absurd y
  short_is BadMethod x y = absurd y

  one_fault : (f g : MessageFault) → ParsesAs input (RefusedMessage f)
      → ParsesAs input (RefusedMessage g) → f ≡ g
  one_fault BadHead g x y = bad_is g x y
  one_fault TooLarge g x y = large_is g x y
  one_fault CutBody g x y = short_is g x y
  one_fault BadRequest g x y = absurd x
  one_fault NoPath g x y = absurd x
  one_fault BadMethod g x y = absurd x

  not_done : (f : MessageFault) → ParsesAs input (RefusedMessage f) → IsBlank input → ⊥
  not_done BadHead x y = x.not_blank y
  not_done TooLarge x y = head_not_blank input x.head x.rest x.front y
  not_done CutBody x y = head_not_blank input x.head x.rest x.front y
  not_done BadRequest x y = x
  not_done NoPath x y = x
  not_done BadMethod x y = x

  not_whole : (f : MessageFault) (request : Request) (body rest : List ℕ)
      → ParsesAs input (RefusedMessage f)
      → IsMessage input request body rest → ⊥
  not_whole BadHead request body rest x y = let b = whole_length input request body rest y in
      bad_length input b.0 b.1 x b.2
  not_whole TooLarge request body rest x y =
      let a = large_length input x in
      let b = whole_length input request body rest y in
      absurd (omega (arith, (one_size input a.0 b.0 a.1 b.1 a.2 b.2).0, a.3, b.3))
  not_whole CutBody request body rest x y =
      let a = short_length input x in
      let b = whole_length input request body rest y in
      let same = one_size input a.0 b.0 a.1 b.1 a.2 b.2 in
      absurd (omega (arith, same.0, same.1, a.4, b.4))
  not_whole BadRequest request body rest x y = x
  not_whole NoPath request body rest x y = x
  not_whole BadMethod request body rest x y = x

  pub one_parse : (a b : Parsed) → ParsesAs input a → ParsesAs input b → a ≡ b
  one_parse EndOfInput EndOfInput x y = refl
  one_parse EndOfInput (RefusedMessage g) x y = absurd (not_done g y x)
  one_parse EndOfInput (WholeMessage q text left) x y =
      absurd (head_not_blank input y.head (text ++ left) y.front x)
  one_parse (RefusedMessage f) EndOfInput x y = absurd (not_done f x y)
  one_parse (RefusedMessage f) (RefusedMessage g) x y = ap RefusedMessage (one_fault f g x y)
  one_parse (RefusedMessage f) (WholeMessage q text left) x y = absurd (not_whole f q text left x y)
  one_parse (WholeMessage r body rest) EndOfInput x y =
      absurd (head_not_blank input x.head (body ++ rest) x.front y)
  one_parse (WholeMessage r body rest) (RefusedMessage g) x y = absurd (not_whole g r body rest y x)
  one_parse (WholeMessage r body rest) (WholeMessage q text left) x y =
      one_message input r q body text rest left x y
