use Rattle.std.proofs.Common.{arith, ◌≡◌, ◌↔◌, ◌+◌, ◌-◌, ◌≤◌, ℕ, ◌++◌, List, take, drop, length, sym, ap, ◌∙◌, drop-drop}
use Rattle.std.proofs.lemmas.List.{take-append-drop}
use Rattle.numbers.proofs.Small.{impossible}
use Rattle.http_messages.proofs.start.are_same.Goals as goal

-- Two texts that begin with the same word are the same if what follows it is.
same_after : (n : ℕ) (xs ys more others : List ℕ) → take n xs ≡ take n ys → more ≡ drop n xs
    → others ≡ drop n ys → (xs ≡ ys) ↔ (more ≡ others)
same_after n xs ys more others words is other_is = (
  λ e. is ∙ ap (drop n) e ∙ sym other_is,
  λ e. sym (take-append-drop n xs) ∙ ap (λ (t : List ℕ). t ++ drop n xs) words
      ∙ ap (λ (t : List ℕ). take n ys ++ t) (sym is ∙ e ∙ other_is) ∙ take-append-drop n ys,
)

-- What follows the next word, where l bytes of n are left, and m then.
left_after : (n l m : ℕ) (text left more : List ℕ) → left ≡ drop (n - l) text → more ≡ drop 8 left
    → m + 8 ≡ l → l ≤ n → more ≡ drop (n - m) text
left_after n l m text left more left_is more_is shorter within =
    more_is ∙ ap (drop 8) left_is ∙ drop-drop 8 (n - l) text
    ∙ ap (λ k. drop k text) (omega (arith, shorter, within))

-- What is left, at most eight bytes, is the end of the last eight.
left_of_end : (n l : ℕ) (text left end : List ℕ) → l ≤ 8 → 8 ≤ n → left ≡ drop (n - l) text
    → end ≡ drop (n - 8) text → left ≡ drop (8 - l) end
left_of_end n l text left end few long left_is end_is =
    left_is ∙ ap (λ k. drop k text) (omega (arith, few, long))
    ∙ sym (drop-drop (8 - l) (n - 8) text) ∙ sym (ap (drop (8 - l)) end_is)

-- A text from its first byte on.
whole : (n : ℕ) (text : List ℕ) → text ≡ drop (n - n) text
whole n text = ap (λ k. drop k text) {x = 0} {y = n - n} (omega arith)

pub words-init : goal.words-init
words-init g c =
    let text = c.args.text.now in (
      c.told-text ∙ sym c.told-other,
      omega arith,
      whole (length text) text,
      whole (length text) c.args.other.now,
      (λ e. e, λ e. e),
    )

pub returns-in_default-split_first_chunk-2 : goal.returns-in_default-split_first_chunk-2
returns-in_default-split_first_chunk-2 g c = absurd (omega (
  arith,
  c.words.invariant.0,
  c.in-Some-split_first_chunk.ensures.cases.2,
  c.in_default-split_first_chunk-2.ensures.cases,
))

pub words-preserved : goal.words-preserved
words-preserved g c =
    let left = c.words.left.now in
    let right = c.words.right.now in
    let (lengths, within, left_is, right_is, before) = c.words.invariant in
    let parts = c.in-Some-split_first_chunk.ensures.cases in
    let other_parts = c.in-Some-split_first_chunk-2.ensures.cases in
    let words = c.are_same_words.ensures.0 c.if-are_same_words.true in
    let after = same_after 8 left right _ _ (sym parts.0 ∙ words ∙ other_parts.0) parts.1
    other_parts.1 in
    let n = length c.args.text.now in (
      omega (arith, lengths, parts.2, other_parts.2),
      omega (arith, within, parts.2),
      left_after n (length left) _ _ left _ left_is parts.1 parts.2 within,
      left_after n (length left) _ _ right _ right_is other_parts.1 parts.2 within,
      (λ e. after.0 (before.0 e), λ e. before.1 (after.1 e)),
    )

pub returns-else-are_same_words : goal.returns-else-are_same_words
returns-else-are_same_words g c =
    let word = c.in-Some-split_first_chunk.word.now in
    let other = c.in-Some-split_first_chunk-2.other_word.now in (
      λ no. impossible (sym no),
      λ same.
          let left = c.words.invariant.4.0 same in
          let words : word ≡ other = c.in-Some-split_first_chunk.ensures.cases.0 ∙ ap (take 8) left
          ∙ sym c.in-Some-split_first_chunk-2.ensures.cases.0 in
          impossible (sym (c.are_same_words.ensures.1 words)
          ∙ c.if-are_same_words.false),
    )

pub returns : goal.returns
returns g c =
    let text = c.args.text.now in
    let other = c.args.other.now in
    let left = c.words.left.now in
    let right = c.words.right.now in
    let end = c.in-Some.end.now in
    let other_end = c.in-Some-split_last_chunk.other_end.now in
    let (lengths, within, left_is, right_is, before) = c.words.invariant in
    let parts = c.in-Some.ensures.cases in
    let n = length text in
    let as_long : length other ≡ n = c.told-other ∙ sym c.told-text in
    let other_is : other_end ≡ drop (n - 8) other = c.in-Some-split_last_chunk.ensures.cases.1
    ∙ ap (λ k. drop (k - 8) other) as_long in
    let few : length left ≤ 8 = omega (arith, c.in_default-split_first_chunk.ensures.cases) in
    let long : 8 ≤ n = omega (arith, parts.2) in
    let ends = c.are_same_words-2.ensures in (
      λ yes. before.1 (left_of_end n (length left) text left end few long left_is parts.1
          ∙ ap (drop (8 - length left)) (ends.0 yes)
          ∙ sym (left_of_end n (length left) other right other_end few long right_is other_is)),
      λ same. ends.1 (parts.1 ∙ ap (drop (n - 8)) same ∙ sym other_is),
    )
