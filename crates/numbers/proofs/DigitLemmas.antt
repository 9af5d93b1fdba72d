-- The digits of a number: how many, what they are, and that they determine the number.
use Rattle.std.proofs.Common.{◌≡◌, ℕ, zero, suc, ◌+◌, ◌-◌, ◌*◌, ◌/◌, ◌%◌, ◌^◌, ◌<◌, ◌≤◌, List, [], ◌∷◌, ◌++◌, length, get_or, take, drop, refl, ap, subst, sym, ◌∙◌, arith, length-append, append_assoc, add-one, lit<}
use Rattle.std.specs.Prelude.{All, IsUtf8}
use Rattle.std.specs.Char.{IsAsciiDigit}
use Rattle.std.proofs.lemmas.Str.{IsUtf8-from_ascii}
use Rattle.std.proofs.lemmas.Str.Ascii.{IsAscii-from_all}
use Rattle.std.proofs.lemmas.List.{drop-set}
use Rattle.std.proofs.lemmas.Grind.{pow_more}
use Rattle.std.proofs.lemmas.List.Elements.{All-nil, All-push}
use Rattle.std.proofs.Math.Nat.{pow-le-pow_right, pow-suc, mod-lt}
use Rattle.std.proofs.Math.Arith.{mod-mul}
use Rattle.std.proofs.lemmas.Fmt.{decimal_digit, decimal_step}
use Rattle.std.specs.Fmt.{decimal}
use Rattle.std.proofs.Math.ListN.{set}
use Rattle.std.proofs.Math.Seq.{take-suc}
use Rattle.numbers.specs.Texts.{digits_of}

-- `digits_of width n` has `width` digits.
pub length-digits_of : (width n : ℕ) → length (digits_of width n) ≡ width
unfolding digits_of
length-digits_of zero n = refl
length-digits_of (suc width) n = grind (
  arith,
  length-append (digits_of width (n / 10)) ((48 + n % 10) ∷ []),
  length-digits_of width (n / 10),
)

-- Each is an ASCII digit.
pub digits_of-digits : (width n : ℕ) → All IsAsciiDigit (digits_of width n)
unfolding digits_of
digits_of-digits zero n = All-nil IsAsciiDigit
digits_of-digits (suc width) n =
    All-push IsAsciiDigit (digits_of width (n / 10)) (48 + n % 10) (digits_of-digits width (n / 10))
    (omega arith, omega arith)

-- Bytes below 128 are valid UTF-8.
pub utf8_small : (text : List ℕ) → All (λ b. b < 128) text → IsUtf8 text
utf8_small text small = IsUtf8-from_ascii text (IsAscii-from_all text small)

-- Another digit of a text extends the number read so far.
pub digits_of-more : (text : List ℕ) (i number : ℕ) → i < length text → 48 ≤ get_or text i 0
    → get_or text i 0 ≤ 57 → digits_of i number ≡ take i text
    → digits_of (i + 1) (number * 10 + (get_or text i 0 - 48)) ≡ take (i + 1) text
unfolding digits_of
digits_of-more text i number within low high e =
    let tenth : (number * 10 + (get_or text i 0 - 48)) / 10 ≡ number = omega arith in
    let last : 48 + (number * 10 + (get_or text i 0 - 48)) % 10 ≡ get_or text i 0 = omega arith in
    rw (add-one, take-suc text i 0, tenth, last, e) refl

-- Two lists of equal length that agree after a last member agree in both parts.
snoc_same : (xs ys : List ℕ) (x y : ℕ) → length xs ≡ length ys → xs ++ x ∷ [] ≡ ys ++ y ∷ []
    → (xs ≡ ys) × (x ≡ y)
snoc_same [] [] x y same e = (refl, cc)
snoc_same (a ∷ xs) (b ∷ ys) x y same e =
    let shorter : length xs ≡ length ys = omega arith in
    let first : a ≡ b = cc in
    let others : xs ++ x ∷ [] ≡ ys ++ y ∷ [] = cc in
    let h = snoc_same xs ys x y shorter others in (cc, h.1)
snoc_same [] (b ∷ ys) x y same e = absurd (omega arith)
snoc_same (a ∷ xs) [] x y same e = absurd (omega arith)

-- Different numbers below the power of ten have different digits.
pub digits_of-injective : (width m n : ℕ) → m < 10 ^ width → n < 10 ^ width
    → digits_of width m ≡ digits_of width n → m ≡ n
unfolding digits_of
digits_of-injective zero m n small_m small_n e = omega arith
digits_of-injective (suc width) m n small_m small_n e =
    let p : 10 ^ suc width ≡ 10 ^ width * 10 = pow-suc 10 width in
    let same : length (digits_of width (m / 10)) ≡ length (digits_of width (n / 10)) =
    length-digits_of width (m / 10) ∙ sym (length-digits_of width (n / 10)) in
    let h = snoc_same (digits_of width (m / 10)) (digits_of width (n / 10)) (48 + m % 10)
    (48 + n % 10) same e in
    let front : m / 10 ≡ n / 10 =
    digits_of-injective width (m / 10) (n / 10) (omega arith) (omega arith) h.0 in
    omega (arith, h.1)

-- A power of ten with an exponent of at most eighteen is at most 10^18.
pub pow_small : (i : ℕ) → i ≤ 18 → 10 ^ i ≤ 1000000000000000000
pow_small i h = pow-le-pow_right (lit< tt) h

-- A text of digits has an ASCII digit at each place.
pub digit_at : (text : List ℕ) (width n i : ℕ) → text ≡ digits_of width n → i < length text
    → (48 ≤ get_or text i 0) × (get_or text i 0 ≤ 57)
digit_at text width n i e within =
    let P : List ℕ → Type 0 = λ t. i < length t → (48 ≤ get_or t i 0) × (get_or t i 0 ≤ 57) in
    subst P (sym e) (λ inside. digits_of-digits width n i 0 inside) within

-- One digit more keeps a number below the next power of ten.
pub below_more : (i number digit : ℕ) → number < 10 ^ i → digit ≤ 9
    → number * 10 + digit < 10 ^ (i + 1)
below_more i number digit small one = omega (arith, pow_more 10 i)

-- Writing the last digit of the rest into its place keeps the written number.
pub digits_of-placed : (digits : List ℕ) (place rest : ℕ) → 0 < place → place ≤ length digits
    → digits_of (place - 1) (rest / 10) ++ drop (place - 1)
    (set digits (place - 1) (48 + rest % 10)) ≡ digits_of place rest ++ drop place digits
unfolding digits_of
digits_of-placed digits zero rest positive within = absurd (omega arith)
digits_of-placed digits (suc place) rest positive within =
    let e : suc place - 1 ≡ place = omega arith in
    rw (e, drop-set digits place (48 + rest % 10), append_assoc, add-one) refl

-- At the first place, the digits written are the number's.
pub digits_of-written : (digits : List ℕ) (place rest width number : ℕ) → place ≤ 0
    → digits_of place rest ++ drop place digits ≡ digits_of width number
    → digits ≡ digits_of width number
unfolding digits_of
digits_of-written digits zero rest width number first e = e
digits_of-written digits (suc place) rest width number first e = absurd (omega arith)

-- Digits are valid UTF-8.
pub utf8_digits : (text : List ℕ) (width n : ℕ) → text ≡ digits_of width n → IsUtf8 text
utf8_digits text width n e =
    subst IsUtf8 (sym e) (utf8_small (digits_of width n) (λ k d inside. let h =
    digits_of-digits width n k d inside in omega arith))
