-- The number that digits write, digit by digit.
use Rattle.std.proofs.Common.{◌≡◌, ℕ, ◌+◌, ◌-◌, ◌*◌, ◌^◌, ◌<◌, ◌≤◌, List, [], ◌∷◌, ◌++◌, length, take, drop, get_or, Bool, true, false, ◌&&◌, cond, Option, Some, None, refl, ap, ◌∙◌, sym, arith, lit<, add-one}
use Rattle.std.proofs.Math.Nat.{pow-le-pow_right, pow-suc}
use Rattle.std.proofs.lemmas.Bool.Decides.{nat_tests}
use Rattle.std.proofs.lemmas.List.{length-take-le, take_more, take-append-drop}
use Rattle.std.specs.Char.{is_ascii_digit, digit_value}
use Rattle.std.specs.Str.{all_ascii_digits}
use Rattle.std.specs.Str.Parse.{digits_value, digits_value_after}
use Rattle.std.specs.Prelude.{nat_lt, nat_le}
use Rattle.http_messages.specs.Fields.{number_of}
use Rattle.numbers.proofs.Small.{and_false}

value_snoc : (n : ℕ) (xs : List ℕ) (c : ℕ) → digits_value_after 10 n (xs ++ c ∷ [])
    ≡ digits_value_after 10 n xs * 10 + digit_value c
value_snoc n [] c = refl
value_snoc n (x ∷ xs) c = value_snoc (n * 10 + digit_value x) xs c

and_assoc : (a b c : Bool) → (a && (b && c)) ≡ ((a && b) && c)
and_assoc true b c = refl
and_assoc false b c = refl

digits-append : (xs ys : List ℕ)
    → all_ascii_digits (xs ++ ys) ≡ (all_ascii_digits xs && all_ascii_digits ys)
digits-append [] ys = refl
digits-append (x ∷ xs) ys =
    rw (digits-append xs ys) (and_assoc (is_ascii_digit x) (all_ascii_digits xs)
    (all_ascii_digits ys))

pub digit_is : (c : ℕ) → is_ascii_digit c ≡ true → (48 ≤ c) × (c < 58) × (digit_value c ≡ c - 48)
digit_is c h = (grind (arith, nat_tests), grind (arith, nat_tests), grind (arith, nat_tests))

-- Holds if the first i bytes are digits and write n.
pub record IsSoFar (v : List ℕ) (i n : ℕ) : Type 0 where
  pub digits : all_ascii_digits (take i v) ≡ true
  pub value : n ≡ digits_value 10 (take i v)
  pub small : n < 10 ^ i

pub so_far_more : (v : List ℕ) (i n : ℕ) → i < length v → is_ascii_digit (get_or v i 0) ≡ true
    → IsSoFar v i n → IsSoFar v (i + 1) (n * 10 + (get_or v i 0 - 48))
so_far_more v i n l d s =
    let is = digit_is (get_or v i 0) d in
    let more = take_more v i 0 l in
    record {
      digits = rw (more, digits-append, s.digits, d) refl;
      value = rw (more, value_snoc, ← s.value, is.2) refl;
      small = rw (add-one, pow-suc) (omega (arith, s.small, is.0, is.1));
    }

pub fits : (i n c : ℕ) → i < 19 → n < 10 ^ i → c < 10 → n * 10 + c < 2 ^ 64
fits i n c l h d = let p : 10 ^ i ≤ 10 ^ 18 = pow-le-pow_right {n = 10} (lit< tt) {i = i} {j =
    18} (omega arith) in omega (arith, p)

none_by : (a b : Bool) (x : Option ℕ) → None ≡ cond (a && (b && false)) x None
none_by true true x = refl
none_by true false x = refl
none_by false b x = refl

pub none_number : (v : List ℕ) → all_ascii_digits v ≡ false → None ≡ number_of v
none_number v h =
    rw h (none_by (nat_lt 0 (length v)) (nat_le (length v) 19) (Some (digits_value 10 v)))

-- A byte that is no digit makes the text no number.
pub not_digits : (v : List ℕ) (i : ℕ) → i < length v → is_ascii_digit (get_or v i 0) ≡ false
    → all_ascii_digits v ≡ false
not_digits v i l d =
    let cut : take (i + 1) v ++ drop (i + 1) v ≡ v = take-append-drop (i + 1) v in
    let front : all_ascii_digits (take (i + 1) v) ≡ false =
    rw (take_more v i 0 l, digits-append, d) (and_false (all_ascii_digits (take i v))) in
    ap all_ascii_digits (sym cut) ∙ digits-append (take (i + 1) v) (drop (i + 1) v)
    ∙ ap (λ b. b && all_ascii_digits (drop (i + 1) v)) front

pub at_start : (v : List ℕ) → IsSoFar v 0 0
at_start v = record { digits = refl; value = refl; small = lit< tt }

-- The digits so far write the number, if there are 1 to 19.
pub number_so_far : (v : List ℕ) (i n : ℕ) → 0 < i → i ≤ 19 → i ≤ length v → IsSoFar v i n
    → number_of (take i v) ≡ Some n
number_so_far v i n some most inside s =
    let len : length (take i v) ≡ i = length-take-le i v inside in
    grind (arith, nat_tests, len, s.digits, s.value, some, most)
