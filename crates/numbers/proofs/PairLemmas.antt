-- Digits that are written two or four at a time.
use Rattle.std.proofs.Common.{◌≡◌, ℕ, zero, suc, ◌+◌, ◌-◌, ◌*◌, ◌/◌, ◌%◌, ◌<◌, ◌≤◌, Bool, true, ◌&&◌, T, eqb, List, ◌++◌, length, get_or, set, drop, length-set, ap, ◌∙◌, inl, inr, arith, eq-zero-or-pos, eqb→eq}
use lib.Ieee.Fits.{and_l, and_r}
use Rattle.numbers.specs.Texts.{digits_of}
use Rattle.numbers.proofs.DigitLemmas.{digits_of-placed}
use Rattle.numbers.specs.declared.digits.TheConstants.{PAIRS}

-- Whether the table has the digits of each number below `n`.
abbrev are_pairs : ℕ → Bool
are_pairs zero = true
are_pairs (suc p) =
    (eqb (get_or PAIRS (p * 2) 0) (48 + p / 10) && eqb (get_or PAIRS (p * 2 + 1) 0) (48 + p % 10))
    && are_pairs p

below : (n p : ℕ) → T (are_pairs n) → p < n → (get_or PAIRS (p * 2) 0 ≡ 48 + p / 10)
    × (get_or PAIRS (p * 2 + 1) 0 ≡ 48 + p % 10)
below zero p t h = absurd (omega arith)
below (suc n) p t h =
    elim (eq-zero-or-pos (n - p)) [
      | inl z ↦ let e : p ≡ n = omega arith in let a = and_l _ (are_pairs n) t in
          rw e (eqb→eq _ _ (and_l _ _ a), eqb→eq _ _ (and_r _ _ a))
      | inr g ↦ below n p (and_r _ (are_pairs n) t) (omega arith)
    ]

pub pair_at : (p : ℕ) → p < 100 → (get_or PAIRS (p * 2) 0 ≡ 48 + p / 10)
    × (get_or PAIRS (p * 2 + 1) 0 ≡ 48 + p % 10)
pair_at p h = below 100 p tt h

-- The last two digits of what is left come before the digits written.
pub two_placed : (digits : List ℕ) (place rest : ℕ) → 1 < place → place ≤ length digits
    → digits_of (place - 2) (rest / 100) ++ drop (place - 2)
    (set (set digits (place - 1) (48 + rest % 100 % 10)) (place - 2) (48 + rest % 100 / 10))
    ≡ digits_of place rest ++ drop place digits
two_placed digits place rest two within =
    let next : place - 2 ≡ place - 1 - 1 = omega arith in
    let hundredth : rest / 100 ≡ rest / 10 / 10 = omega arith in
    let ones : rest % 100 % 10 ≡ rest % 10 = omega arith in
    let tens : rest % 100 / 10 ≡ rest / 10 % 10 = omega arith in
    let before : List ℕ = set digits (place - 1) (48 + rest % 10) in
    ap (λ k. digits_of (place - 2) (rest / 100) ++ drop (place - 2)
    (set (set digits (place - 1) (48 + k)) (place - 2) (48 + rest % 100 / 10))) ones
    ∙ ap (λ k. digits_of (place - 2) (rest / 100) ++ drop (place - 2)
    (set before (place - 2) (48 + k))) tens
    ∙ ap (λ k. digits_of (place - 2) k ++ drop (place - 2)
    (set before (place - 2) (48 + rest / 10 % 10))) hundredth
    ∙ ap (λ k. digits_of k (rest / 10 / 10) ++ drop k (set before k (48 + rest / 10 % 10))) next
    ∙ digits_of-placed before (place - 1) (rest / 10) (omega arith)
    (omega (arith, within, length-set digits (place - 1) (48 + rest % 10)))
    ∙ digits_of-placed digits place rest (omega arith) within

-- The last four digits of what is left come before the digits written.
pub four_placed : (digits : List ℕ) (place rest : ℕ) → 3 < place → place ≤ length digits
    → digits_of (place - 4) (rest / 10000) ++ drop (place - 4)
    (set (set (set (set digits (place - 1) (48 + rest % 10000 % 100 % 10)) (place - 2)
    (48 + rest % 10000 % 100 / 10)) (place - 3) (48 + rest % 10000 / 100 % 10)) (place - 4)
    (48 + rest % 10000 / 100 / 10)) ≡ digits_of place rest ++ drop place digits
four_placed digits place rest four within =
    let third : place - 3 ≡ place - 2 - 1 = omega arith in
    let fourth : place - 4 ≡ place - 2 - 2 = omega arith in
    let left : rest / 10000 ≡ rest / 100 / 100 = omega arith in
    let lower : rest % 10000 % 100 ≡ rest % 100 = omega arith in
    let upper : rest % 10000 / 100 ≡ rest / 100 % 100 = omega arith in
    let one : List ℕ = set digits (place - 1) (48 + rest % 100 % 10) in
    let two : List ℕ = set one (place - 2) (48 + rest % 100 / 10) in
    ap (λ k. digits_of (place - 4) (rest / 10000) ++ drop (place - 4)
    (set (set (set (set digits (place - 1) (48 + k % 10)) (place - 2) (48 + k / 10)) (place - 3)
    (48 + rest % 10000 / 100 % 10)) (place - 4) (48 + rest % 10000 / 100 / 10))) lower
    ∙ ap (λ k. digits_of (place - 4) (rest / 10000) ++ drop (place - 4)
    (set (set two (place - 3) (48 + k % 10)) (place - 4) (48 + k / 10))) upper
    ∙ ap (λ k. digits_of (place - 4) k ++ drop (place - 4)
    (set (set two (place - 3) (48 + rest / 100 % 100 % 10)) (place - 4)
    (48 + rest / 100 % 100 / 10))) left
    ∙ ap (λ k. digits_of (place - 4) (rest / 100 / 100) ++ drop (place - 4)
    (set (set two k (48 + rest / 100 % 100 % 10)) (place - 4) (48 + rest / 100 % 100 / 10))) third
    ∙ ap (λ k. digits_of k (rest / 100 / 100) ++ drop k
    (set (set two (place - 2 - 1) (48 + rest / 100 % 100 % 10)) k (48 + rest / 100 % 100 / 10)))
    fourth
    ∙ two_placed two (place - 2) (rest / 100) (omega arith) (omega (
      arith,
      within,
      length-set one (place - 2) (48 + rest % 100 / 10),
      length-set digits (place - 1) (48 + rest % 100 % 10),
    ))
    ∙ two_placed digits place rest (omega arith) within

-- At the first place, the last digit of what is left is the first of all.
pub last_placed : (digits : List ℕ) (place rest width number : ℕ) → 0 < place → place ≤ 1
    → place ≤ length digits → digits_of place rest ++ drop place digits ≡ digits_of width number
    → set digits (place - 1) (48 + rest % 10) ≡ digits_of width number
unfolding digits_of
last_placed digits zero rest width number some first within e = absurd (omega arith)
last_placed digits (suc zero) rest width number some first within e =
    digits_of-placed digits 1 rest (omega arith) within ∙ e
last_placed digits (suc (suc place)) rest width number some first within e = absurd (omega arith)
