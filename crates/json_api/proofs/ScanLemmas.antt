-- A scan of a body's bytes finds what the grammar of JSON reads.
use Rattle.std.proofs.Common.{◌≡◌, ℕ, ◌+◌, ◌-◌, ◌<◌, ◌≤◌, ◌⊎◌, inl, inr, Bool, true, false, cond, ◌&&◌, nat_lt, nat_le, Some, None, List, [], ◌∷◌, ◌++◌, length, drop, get_or, map, fold, refl, sym, ap, ◌∙◌, subst, arith, append_assoc, length-append}
use Rattle.std.specs.Prelude.{option_and_then}
use Rattle.std.specs.Str.{IsUtf8, all_ascii_digits}
use Rattle.std.specs.Str.Parse.{digits_value}
use Rattle.http_messages.specs.Fields.{number_of as said}
use Rattle.std.specs.List.{list_all, prefix_len}
use Rattle.std.specs.Char.{is_ascii_digit}
use Rattle.std.proofs.lemmas.Bool.{and_parts, and_from, not-true, ne_eqb, ltb-true, leb-true, eqb-false, cases_eq}
use Rattle.std.proofs.lemmas.Str.{IsUtf8-append, is_utf8-from_IsUtf8}
use Rattle.std.proofs.lemmas.Grind.{common_steps}
use Rattle.json.specs.Token.{Token}
use Rattle.json.specs.Lex.{tokens}
use Rattle.json.specs.Word.{after_number, after_whole, after_digits, after_fraction, after_exponent}
use Rattle.json.specs.Print.{escape, token_text, ends, separator, IsNumber, IsPrintable, ArePrintable}
use Rattle.json.specs.Spaced.{IsGap, AreGaps, print_spaced}
use Rattle.json.specs.Json.{members, value}
use Rattle.json.proofs.Printed.Strings.{escape_byte_plain}
use Rattle.json.proofs.Printed.Tokens.{tokens-print_spaced, print_spaced_push, AreGaps-push, ArePrintable-push, ends_push, IsGap-append}
use Rattle.json.proofs.Printed.Utf8.{are_ascii, IsUtf8-are_ascii, IsUtf8-key, IsUtf8-separator, IsUtf8-IsGap}
use Rattle.serde_json.specs.Data.{Members, no_members, put}
use Rattle.serde_json.specs.Read.{of_members, converted, read}
use Rattle.json_api.specs.Flat.{scalar_data, flat_data, members_upon, read_object, IsScalar}
use Rattle.json_api.specs.Forms.{json_of}
use Rattle.json_api.specs.Scanned.{is_plain, IsMemberThen}
use Rattle.json_api.specs.declared.flat.Member.{Member}
use Rattle.json_api.proofs.FlatLemmas.{member_read, members_over, whole_object}

-- ---- plain bytes

plain_parts : (x : ℕ) → is_plain x ≡ true → (32 ≤ x) × (x < 127) × (x ≡ 34 → ⊥) × (x ≡ 92 → ⊥)
plain_parts x e =
    let low = and_parts _ _ e in
    let high = and_parts _ _ low.1 in
    let other = and_parts _ _ high.1 in (
      leb-true _ _ low.0,
      ltb-true _ _ high.0,
      eqb-false _ _ (not-true _ other.0),
      eqb-false _ _ (not-true _ other.1),
    )

plain_are_ascii : (s : List ℕ) → list_all is_plain s ≡ true → are_ascii s ≡ true
plain_are_ascii [] e = refl
plain_are_ascii (x ∷ xs) e =
    let both = and_parts _ _ e in
    let part = plain_parts x both.0 in
    let small : x < 128 = omega (arith, part.1) in
    rw (plain_are_ascii xs both.1) (grind (arith, common_steps, small))

pub plain_utf8 : (s : List ℕ) → list_all is_plain s ≡ true → IsUtf8 s
plain_utf8 s e = IsUtf8-are_ascii s (plain_are_ascii s e)

pub plain_escape : (s : List ℕ) → list_all is_plain s ≡ true → escape s ≡ s
plain_escape [] e = refl
plain_escape (x ∷ xs) e =
    let both = and_parts _ _ e in
    let part = plain_parts x both.0 in
    rw (escape_byte_plain x part.2 part.3 part.0, plain_escape xs both.1) refl

-- ---- digits

all_prefix : (p : ℕ → Bool) (s : List ℕ) → list_all p s ≡ true → prefix_len p s ≡ length s
all_prefix p [] e = refl
all_prefix p (x ∷ xs) e =
    let both = and_parts (p x) (list_all p xs) e in
    let first : p x ≡ true = both.0 in
    rw (first, all_prefix p xs both.1) (omega arith)

-- The bytes of a number after its first one are digits too.
digits_then : (s : List ℕ) → list_all is_ascii_digit s ≡ true → 0 < length s
    → after_digits s ≡ Some []
digits_then s e some =
    let all = all_prefix is_ascii_digit s e in
    rw (all, ne_eqb (length s) 0 (λ none. omega arith), drop-all s) refl
  where
    drop-all : (xs : List ℕ) → drop (length xs) xs ≡ []
    drop-all [] = refl
    drop-all (x ∷ xs) = drop-all xs

digit_parts : (x : ℕ) → is_ascii_digit x ≡ true → (48 ≤ x) × (x ≤ 57)
digit_parts x e = (grind (arith, common_steps), grind (arith, common_steps))

pub digits_number : (s : List ℕ) → list_all is_ascii_digit s ≡ true → 0 < length s
    → (1 < length s → get_or s 0 0 ≡ 48 → ⊥) → IsNumber s
unfolding after_number
digits_number [] e some no_zero = absurd (omega arith)
digits_number (x ∷ xs) e some no_zero =
    let both = and_parts (is_ascii_digit x) (list_all is_ascii_digit xs) e in
    let part = digit_parts x both.0 in
    rw (ne_eqb x 45 (λ is. omega (arith, part.0))) (by_cases (cases_eq x 48) xs both.1 no_zero)
  where
    by_cases : (x ≡ 48) ⊎ (x ≡ 48 → ⊥) → (ys : List ℕ) → list_all is_ascii_digit ys ≡ true
        → (1 < length (x ∷ ys) → x ≡ 48 → ⊥)
        → option_and_then after_exponent (option_and_then after_fraction (after_whole (x ∷ ys)))
        ≡ Some []
    by_cases (inl zero) [] f never = rw zero refl
    by_cases (inl zero) (y ∷ ys) f never = absurd (never (omega arith) zero)
    by_cases (inr other) ys f never =
        rw (ne_eqb x 48 other)
        (ap (λ o. option_and_then after_exponent (option_and_then after_fraction o))
        (digits_then (x ∷ ys)
        (and_from _ _ (and_parts (is_ascii_digit x) (list_all is_ascii_digit xs) e).0 f)
        (omega arith)))

digits_are_ascii : (s : List ℕ) → list_all is_ascii_digit s ≡ true → are_ascii s ≡ true
digits_are_ascii [] e = refl
digits_are_ascii (x ∷ xs) e =
    let both = and_parts (is_ascii_digit x) (list_all is_ascii_digit xs) e in
    let part = digit_parts x both.0 in
    let small : x < 128 = omega (arith, part.1) in
    rw (digits_are_ascii xs both.1) (grind (arith, common_steps, small))

pub digits_utf8 : (s : List ℕ) → list_all is_ascii_digit s ≡ true → IsUtf8 s
digits_utf8 s e = IsUtf8-are_ascii s (digits_are_ascii s e)

-- ---- the members of an object, token by token

-- Holds if the tokens are those of the members, in order.
abbrev pub AreTokensOf : List Token → List Member → Type 0
AreTokensOf ts [] = ts ≡ []
AreTokensOf ts (m ∷ ms) = (t : Token) × (us : List Token) × (ts ≡ Token.key m.key.now ∷ t ∷ us)
    × IsScalar t m.value × AreTokensOf us ms

tokens-push : (ts : List Token) (ms : List Member) (t : Token) (m : Member) → AreTokensOf ts ms
    → IsScalar t m.value → AreTokensOf (ts ++ Token.key m.key.now ∷ t ∷ []) (ms ++ m ∷ [])
tokens-push ts [] t m are is = (
  t,
  [],
  ap (λ (us : List Token). us ++ Token.key m.key.now ∷ t ∷ []) are,
  is,
  refl,
)
tokens-push ts (n ∷ ms) t m are is = (
  are.0,
  are.1 ++ Token.key m.key.now ∷ t ∷ [],
  ap (λ (us : List Token). us ++ Token.key m.key.now ∷ t ∷ []) are.2,
  are.3,
  tokens-push are.1 ms t m are.4 is,
)

-- Tokens that end an object read as the members.
read_upon : (n : ℕ) (found : Members) (ts : List Token) (ms : List Member) → AreTokensOf ts ms
    → length (ts ++ Token.end_object ∷ []) ≤ n
    → converted (λ js. of_members js found) (members (value 126) n (ts ++ Token.end_object ∷ []))
    ≡ Some (members_upon found ms, [])
read_upon n found ts [] are enough =
    let one : length (Token.end_object ∷ []) ≤ n =
    subst (λ (l : List Token). length (l ++ Token.end_object ∷ []) ≤ n) are enough in
    rw are (members_over (value 126) found n (Token.end_object ∷ []) [] one refl)
read_upon n found ts (m ∷ ms) are enough =
    let t = are.0 in
    let us = are.1 in
    let same : ts ++ Token.end_object ∷ [] ≡ Token.key m.key.now ∷ t
    ∷ (us ++ Token.end_object ∷ []) = ap (λ (l : List Token). l ++ Token.end_object ∷ []) are.2 in
    let long : length (us ++ Token.end_object ∷ []) + 2 ≤ n =
    omega (arith, enough, ap length same) in
    ap (λ l. converted (λ js. of_members js found) (members (value 126) n l)) same
    ∙ member_read (value 126) found n m.key.now
    (Token.key m.key.now ∷ t ∷ (us ++ Token.end_object ∷ [])) (t ∷ (us ++ Token.end_object ∷ []))
    (us ++ Token.end_object ∷ []) (scalar_data m.value)
    (omega (arith, long)) refl (are.3 126 (us ++ Token.end_object ∷ []))
    ∙ read_upon (n - 1) (put m.key.now (scalar_data m.value) found) us ms are.4
    (omega (arith, long))

-- ---- gaps

pub gap_more : (bytes gap rest behind : List ℕ) (b : ℕ) → IsGap gap → bytes ≡ gap ++ rest
    → rest ≡ b ∷ behind → (b ≡ 32) ⊎ (b ≡ 10) → (g : List ℕ) × IsGap g × (bytes ≡ g ++ behind)
gap_more bytes gap rest behind b is split first blank = (
  gap ++ b ∷ [],
  IsGap-append gap (b ∷ []) is (blank, tt),
  split ∙ ap (λ l. gap ++ l) first ∙ sym (append_assoc gap (b ∷ []) behind),
)

-- ---- the members read so far

pub said_some : (s : List ℕ) (n : ℕ) → Some n ≡ said s → 0 < length s
said_some s n is = by_cases (nat_lt 0 (length s)) refl is
  where
    by_cases : (x : Bool) → nat_lt 0 (length s) ≡ x
        → Some n ≡ cond (x && (nat_le (length s) 19 && all_ascii_digits s))
        (Some (digits_value 10 s)) None → 0 < length s
    by_cases true e k = ltb-true _ _ e
    by_cases false e k = cc

-- Tokens with their gaps that begin an object with these members.
pub record IsBegun (us : List (List ℕ × Token)) (ms : List Member) : Type 0 where
  pub gaps : AreGaps us
  pub printable : ArePrintable (map (λ p. p.1) us)
  pub utf8 : IsUtf8 (print_spaced false us)
  pub tokens_are : (ts : List Token) × (map (λ p. p.1) us ≡ Token.begin_object ∷ ts)
      × AreTokensOf ts ms

-- Whether a value has just ended after the tokens.
abbrev pub ended : List (List ℕ × Token) → Bool
ended us = fold (λ _ u. ends u) false (map (λ q. q.1) us)

-- Holds if a member may begin where the rest of the body begins.
abbrev pub IsBefore : List ℕ → List ℕ → List Member → Type 0
IsBefore body rest ms = (us : List (List ℕ × Token)) × IsBegun us ms
    × (body ≡ print_spaced false us ++ (separator (ended us) (Token.key []) ++ rest))

-- Holds if the rest of the body comes after a member.
abbrev pub IsAfter : List ℕ → List ℕ → List Member → Type 0
IsAfter body rest ms = (us : List (List ℕ × Token)) × IsBegun us ms × (ended us ≡ true)
    × (body ≡ print_spaced false us ++ rest)

pub before_first : (body rest : List ℕ) → body ≡ 123 ∷ rest → IsBefore body rest []
unfolding print_spaced ArePrintable
before_first body rest is = (
  ([], Token.begin_object) ∷ [],
  record {
    gaps = (tt, tt);
    printable = (tt, tt);
    utf8 = IsUtf8-are_ascii (123 ∷ []) refl;
    tokens_are = ([], refl, refl);
  },
  is,
)

pub with_comma : (body rest after : List ℕ) (ms : List Member) → IsAfter body after ms
    → after ≡ 44 ∷ rest → IsBefore body rest ms
with_comma body rest after ms is comma = (
  is.0,
  is.1,
  is.3 ∙ ap (λ l. print_spaced false is.0 ++ l) comma
      ∙ ap (λ b. print_spaced false is.0 ++ (separator b (Token.key []) ++ rest)) (sym is.2),
)

-- ---- one more token

map-push : (us : List (List ℕ × Token)) (p : List ℕ × Token)
    → map (λ q. q.1) (us ++ p ∷ []) ≡ map (λ q. q.1) us ++ p.1 ∷ []
map-push [] p = refl
map-push (u ∷ us) p = ap (λ l. u.1 ∷ l) (map-push us p)

ended-push : (us : List (List ℕ × Token)) (p : List ℕ × Token) → ended (us ++ p ∷ []) ≡ ends p.1
ended-push us p = ap (fold (λ _ u. ends u) false) (map-push us p)
    ∙ ends_push false (map (λ q. q.1) us) p.1

utf8-push : (us : List (List ℕ × Token)) (p : List ℕ × Token) → IsUtf8 (print_spaced false us)
    → IsGap p.0 → IsUtf8 (token_text p.1) → IsUtf8 (print_spaced false (us ++ p ∷ []))
utf8-push us p u g t =
    subst IsUtf8 (sym (print_spaced_push false us p))
    (IsUtf8-append _ _ u (IsUtf8-append _ _ (IsUtf8-separator (ended us) p.1)
    (IsUtf8-append _ _ (IsUtf8-IsGap p.0 g) t)))

printable-push : (us : List (List ℕ × Token)) (p : List ℕ × Token)
    → ArePrintable (map (λ q. q.1) us) → IsPrintable p.1
    → ArePrintable (map (λ q. q.1) (us ++ p ∷ []))
printable-push us p h k =
    subst ArePrintable (sym (map-push us p)) (ArePrintable-push (map (λ q. q.1) us) p.1 h k)

regrouped : (front comma g k h t after : List ℕ)
    → front ++ (comma ++ (g ++ (k ++ (h ++ (t ++ after)))))
    ≡ ((front ++ (comma ++ (g ++ k))) ++ (h ++ t)) ++ after
regrouped front comma g k h t after = simp append_assoc

module _ (body rest after : List ℕ) (ms : List Member) (m : Member) (is : IsBefore body rest ms)
    (next : IsMemberThen rest m after) where
  abbrev us : List (List ℕ × Token)
  us = is.0

  abbrev named : List ℕ × Token
  named = (next.before, Token.key m.key.now)

  abbrev valued : List ℕ × Token
  valued = (next.between, next.token)

  abbrev keyed : List (List ℕ × Token)
  keyed = us ++ named ∷ []

  abbrev now : List (List ℕ × Token)
  now = keyed ++ valued ∷ []

  tokens_now : map (λ q. q.1) now ≡ Token.begin_object ∷ (is.1.tokens_are.0 ++ Token.key m.key.now
      ∷ next.token ∷ [])
  tokens_now =
      map-push keyed valued ∙ ap (λ l. l ++ next.token ∷ []) (map-push us named)
      ∙ append_assoc (map (λ q. q.1) us) (Token.key m.key.now ∷ []) (next.token ∷ [])
      ∙ ap (λ l. l ++ Token.key m.key.now ∷ next.token ∷ []) is.1.tokens_are.1

  key_ended : ended keyed ≡ false
  key_ended = ended-push us named

  text_now : print_spaced false now
      ≡ (print_spaced false us ++ (separator (ended us) (Token.key [])
      ++ (next.before ++ token_text (Token.key m.key.now))))
      ++ (next.between ++ token_text next.token)
  text_now =
      print_spaced_push false keyed valued
      ∙ ap (λ b. print_spaced false keyed
      ++ (separator b next.token ++ (next.between ++ token_text next.token))) key_ended
      ∙ ap (λ l. l ++ (next.between ++ token_text next.token)) (print_spaced_push false us named)

  pub with_member : IsAfter body after (ms ++ m ∷ [])
  with_member = (
    now,
    record {
      gaps = AreGaps-push keyed valued (AreGaps-push us named is.1.gaps next.gaps.0) next.gaps.1;
      printable = printable-push keyed valued (printable-push us named is.1.printable tt)
          next.valued.printable;
      utf8 = utf8-push keyed valued (utf8-push us named is.1.utf8 next.gaps.0
          (IsUtf8-key m.key.now next.named)) next.gaps.1 next.valued.utf8;
      tokens_are = (
        _,
        tokens_now,
        tokens-push is.1.tokens_are.0 ms next.token m is.1.tokens_are.2 next.valued.is,
      );
    },
    ended-push keyed valued ∙ next.valued.ended,
    is.2 ∙ ap (λ l. print_spaced false us ++ (separator (ended us) (Token.key []) ++ l))
        next.bytes_are
        ∙ regrouped (print_spaced false us) (separator (ended us) (Token.key [])) next.before
        (token_text (Token.key m.key.now)) next.between (token_text next.token) after
        ∙ ap (λ l. l ++ after) (sym text_now),
  )

-- ---- the whole body

no_separator : (b : Bool) → separator b Token.end_object ≡ []
no_separator true = refl
no_separator false = refl

pub whole : (body after : List ℕ) (ms : List Member) → IsAfter body after ms → (gap : List ℕ)
    × IsGap gap × (after ≡ gap ++ 125 ∷ []) → json_of body ≡ Some (flat_data ms)
whole body after ms is close =
    let us = is.0 in
    let last : List ℕ × Token = (close.0, Token.end_object) in
    let all = us ++ last ∷ [] in
    let ts = is.1.tokens_are.0 in
    let text : body ≡ print_spaced false all =
    is.3 ∙ ap (λ l. print_spaced false us ++ l) close.2
    ∙ ap (λ l. print_spaced false us ++ (l ++ (close.0 ++ 125 ∷ [])))
    (sym (no_separator (ended us)))
    ∙ sym (print_spaced_push false us last) in
    let tokens_are : tokens body ≡ Token.begin_object ∷ (ts ++ Token.end_object ∷ []) =
    ap tokens text
    ∙ tokens-print_spaced all (AreGaps-push us last is.1.gaps close.1)
    (printable-push us last is.1.printable tt)
    ∙ map-push us last ∙ ap (λ l. l ++ Token.end_object ∷ []) is.1.tokens_are.1 in
    let utf8 : IsUtf8 body =
    subst IsUtf8 (sym text) (utf8-push us last is.1.utf8 close.1
    (IsUtf8-are_ascii (125 ∷ []) refl)) in
    let found : read_object (ts ++ Token.end_object ∷ []) ≡ Some (members_upon no_members ms, []) =
    read_upon (length (ts ++ Token.end_object ∷ [])) no_members ts ms is.1.tokens_are.2
    (omega arith) in
    let value : read body ≡ Some (flat_data ms) =
    whole_object body (ts ++ Token.end_object ∷ []) (members_upon no_members ms) tokens_are found in
    rw (is_utf8-from_IsUtf8 body utf8) value

pub shorter : (rest after : List ℕ) (m : Member) → IsMemberThen rest m after
    → length after < length rest
shorter rest after m next =
    let e = ap length next.bytes_are in
    let a = length-append next.before (token_text (Token.key m.key.now)
    ++ (next.between ++ (token_text next.token ++ after))) in
    let b = length-append (token_text (Token.key m.key.now))
    (next.between ++ (token_text next.token ++ after)) in
    let c = length-append next.between (token_text next.token ++ after) in
    let d = length-append (token_text next.token) after in
    let some : 0 < length (token_text (Token.key m.key.now)) = omega arith in
    omega (arith, e, a, b, c, d, some)

pub empty_of : (l : List ℕ) → length l ≤ 0 → l ≡ []
empty_of [] e = refl
empty_of (x ∷ xs) e = absurd (omega arith)
