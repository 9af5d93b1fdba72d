-- The order of subjects by key is the order of their texts.
use Rattle.std.proofs.Common.{◌≡◌, ℕ, zero, suc, ◌+◌, ◌*◌, ◌/◌, ◌%◌, ◌^◌, ◌<◌, List, [], ◌∷◌, ◌++◌, length, refl, ap, sym, ◌∙◌, arith}
use Rattle.std.specs.Cmp.{nat_cmp_is, ranks}
use Rattle.std.specs.Cmp.Lexicographic.{slice_cmp}
use Rattle.std.specs.Ordering.{MatchOrdering, nat_cmp, ordering_then}
use Rattle.std.specs.declared.cmp.Ordering.{Ordering}
use Rattle.std.specs.declared.cmp.Ordering.TheVariants.{Less, Equal, Greater}
use Rattle.std.proofs.lemmas.List.{append-nil}
use Rattle.std.proofs.Math.Nat.{pow-suc}
use Rattle.numbers.specs.Subjects.{Number, Block}
use Rattle.numbers.specs.Texts.{digits_of, AreInOrderOfTexts}
use Rattle.numbers.proofs.DigitLemmas.{length-digits_of}

then_assoc : (a b c : Ordering) → ordering_then a (ordering_then b c) ≡ ordering_then
    (ordering_then a b) c
then_assoc Less b c = refl
then_assoc Equal b c = refl
then_assoc Greater b c = refl

-- Lists with prefixes of equal length compare as the prefixes, then as the rest.
slice_cmp-append : (xs ys us vs : List ℕ) → length xs ≡ length ys
    → slice_cmp nat_cmp (xs ++ us) (ys ++ vs) ≡ ordering_then (slice_cmp nat_cmp xs ys)
    (slice_cmp nat_cmp us vs)
slice_cmp-append [] [] us vs same = refl
slice_cmp-append (x ∷ xs) (y ∷ ys) us vs same =
    ap (λ o. ordering_then (nat_cmp x y) o) (slice_cmp-append xs ys us vs (omega arith))
    ∙ then_assoc (nat_cmp x y) (slice_cmp nat_cmp xs ys) (slice_cmp nat_cmp us vs)
slice_cmp-append [] (y ∷ ys) us vs same = absurd (omega arith)
slice_cmp-append (x ∷ xs) [] us vs same = absurd (omega arith)

-- Numbers compare as their tenths, then as their last digits.
by_digits : (o p : Ordering) (m n : ℕ) → MatchOrdering o (m / 10 < n / 10) (m / 10 ≡ n / 10)
    (n / 10 < m / 10) → MatchOrdering p (48 + m % 10 < 48 + n % 10) (48 + m % 10 ≡ 48 + n % 10)
    (48 + n % 10 < 48 + m % 10) → MatchOrdering (ordering_then o (ordering_then p Equal)) (m < n)
    (m ≡ n) (n < m)
by_digits Less p m n h k = omega arith
by_digits Equal Less m n h k = omega arith
by_digits Equal Equal m n h k = omega arith
by_digits Equal Greater m n h k = omega arith
by_digits Greater p m n h k = omega arith

-- Texts of equal width compare as their numbers.
slice_cmp-digits_of : (width m n : ℕ) → m < 10 ^ width → n < 10 ^ width
    → slice_cmp nat_cmp (digits_of width m) (digits_of width n) ≡ nat_cmp m n
unfolding digits_of
slice_cmp-digits_of zero m n small_m small_n = nat_cmp_is m n Equal (omega arith)
slice_cmp-digits_of (suc width) m n small_m small_n =
    let p : 10 ^ suc width ≡ 10 ^ width * 10 = pow-suc 10 width in
    let same : length (digits_of width (m / 10)) ≡ length (digits_of width (n / 10)) =
    length-digits_of width (m / 10) ∙ sym (length-digits_of width (n / 10)) in
    let front : slice_cmp nat_cmp (digits_of width (m / 10)) (digits_of width (n / 10))
    ≡ nat_cmp (m / 10) (n / 10) =
    slice_cmp-digits_of width (m / 10) (n / 10) (omega arith) (omega arith) in
    slice_cmp-append (digits_of width (m / 10)) (digits_of width (n / 10)) ((48 + m % 10) ∷ [])
    ((48 + n % 10) ∷ []) same
    ∙ ap (λ o. ordering_then o (ordering_then (nat_cmp (48 + m % 10) (48 + n % 10)) Equal)) front
    ∙ nat_cmp_is m n _ (by_digits _ _ m n (ranks (m / 10) (n / 10))
    (ranks (48 + m % 10) (48 + n % 10)))

-- The digits of a number begin with those of its block.
digits_of-block : (n : ℕ) → digits_of 10 n ≡ digits_of 7 (n / 1000) ++ digits_of 3 n
unfolding digits_of
digits_of-block n = let e : n / 1000 ≡ n / 10 / 10 / 10 = omega arith in rw e refl

-- A text with digits is greater than the empty text.
slice_cmp-nil : (n : ℕ) → (slice_cmp nat_cmp (digits_of 3 n) [] ≡ Greater)
    × (slice_cmp nat_cmp [] (digits_of 3 n) ≡ Less)
unfolding digits_of
slice_cmp-nil n = (refl, refl)

same_width : (m n : ℕ) → length (digits_of 7 m) ≡ length (digits_of 7 n)
same_width m n = length-digits_of 7 m ∙ sym (length-digits_of 7 n)

-- A number and a block compare as the number's block with it; on a tie the number is greater.
number_beside_block : (n b : ℕ) → n < 10000000000 → b < 10000000
    → slice_cmp nat_cmp (digits_of 10 n) (digits_of 7 b) ≡ ordering_then (nat_cmp (n / 1000) b)
    Greater
number_beside_block n b small_n small_b =
    rw (
      digits_of-block n,
      ← append-nil (digits_of 7 b),
      slice_cmp-append (digits_of 7 (n / 1000)) (digits_of 7 b) (digits_of 3 n) []
          (same_width (n / 1000) b),
      slice_cmp-digits_of 7 (n / 1000) b (omega arith) small_b,
      (slice_cmp-nil n).0,
    )

block_beside_number : (b n : ℕ) → b < 10000000 → n < 10000000000
    → slice_cmp nat_cmp (digits_of 7 b) (digits_of 10 n) ≡ ordering_then (nat_cmp b (n / 1000)) Less
block_beside_number b n small_b small_n =
    rw (
      digits_of-block n,
      ← append-nil (digits_of 7 b),
      slice_cmp-append (digits_of 7 b) (digits_of 7 (n / 1000)) [] (digits_of 3 n)
          (same_width b (n / 1000)),
      slice_cmp-digits_of 7 b (n / 1000) small_b (omega arith),
      (slice_cmp-nil n).1,
    )

-- Keys compare as the numbers or the blocks do.
number_keys : (o : Ordering) (n m : ℕ) → MatchOrdering o (n < m) (n ≡ m) (m < n)
    → MatchOrdering o (n / 1000 * 1001 + 1 + n % 1000 < m / 1000 * 1001 + 1 + m % 1000)
    (n / 1000 * 1001 + 1 + n % 1000 ≡ m / 1000 * 1001 + 1 + m % 1000)
    (m / 1000 * 1001 + 1 + m % 1000 < n / 1000 * 1001 + 1 + n % 1000)
number_keys Less n m h = omega arith
number_keys Equal n m h = omega arith
number_keys Greater n m h = omega arith

block_keys : (o : Ordering) (b c : ℕ) → MatchOrdering o (b < c) (b ≡ c) (c < b)
    → MatchOrdering o (b * 1001 < c * 1001) (b * 1001 ≡ c * 1001) (c * 1001 < b * 1001)
block_keys Less b c h = omega arith
block_keys Equal b c h = omega arith
block_keys Greater b c h = omega arith

number_block_keys : (o : Ordering) (n b : ℕ)
    → MatchOrdering o (n / 1000 < b) (n / 1000 ≡ b) (b < n / 1000)
    → MatchOrdering (ordering_then o Greater) (n / 1000 * 1001 + 1 + n % 1000 < b * 1001)
    (n / 1000 * 1001 + 1 + n % 1000 ≡ b * 1001) (b * 1001 < n / 1000 * 1001 + 1 + n % 1000)
number_block_keys Less n b h = omega arith
number_block_keys Equal n b h = omega arith
number_block_keys Greater n b h = omega arith

block_number_keys : (o : Ordering) (b n : ℕ)
    → MatchOrdering o (b < n / 1000) (b ≡ n / 1000) (n / 1000 < b)
    → MatchOrdering (ordering_then o Less) (b * 1001 < n / 1000 * 1001 + 1 + n % 1000)
    (b * 1001 ≡ n / 1000 * 1001 + 1 + n % 1000) (n / 1000 * 1001 + 1 + n % 1000 < b * 1001)
block_number_keys Less b n h = omega arith
block_number_keys Equal b n h = omega arith
block_number_keys Greater b n h = omega arith

pub in_order_of_texts : AreInOrderOfTexts
in_order_of_texts (Number n) (Number m) p q =
    sym (slice_cmp-digits_of 10 n m p.0 q.0 ∙ nat_cmp_is _ _ (nat_cmp n m)
    (number_keys (nat_cmp n m) n m (ranks n m)))
in_order_of_texts (Block b) (Block c) p q =
    sym (slice_cmp-digits_of 7 b c p.0 q.0 ∙ nat_cmp_is _ _ (nat_cmp b c)
    (block_keys (nat_cmp b c) b c (ranks b c)))
in_order_of_texts (Number n) (Block b) p q =
    sym (number_beside_block n b p.0 q.0
    ∙ nat_cmp_is _ _ _ (number_block_keys (nat_cmp (n / 1000) b) n b (ranks (n / 1000) b)))
in_order_of_texts (Block b) (Number n) p q =
    sym (block_beside_number b n p.0 q.0
    ∙ nat_cmp_is _ _ _ (block_number_keys (nat_cmp b (n / 1000)) b n (ranks b (n / 1000))))
