-- Inserting at a place in a list.
use Rattle.std.proofs.Common.{◌≡◌, ℕ, ◌+◌, ◌≤◌, suc, Bool, true, false, not, cond, List, [], ◌∷◌, length, Option, Some, None, refl, ap, ◌∙◌, arith}
use Rattle.std.specs.List.{insert, position, position_or_len}
use Rattle.std.proofs.lemmas.Bool.Decides.{nat_tests}
use Rattle.telnp.specs.Answer.{goes_before, placed}
use Rattle.telnp.specs.Abstraction.{part_text, part_texts}
use Rattle.telnp.specs.declared.part.Part.{Part}

pub place-le : {X : Type 0} (P : X → Bool) (xs : List X) → position_or_len P xs ≤ length xs
place-le P [] = omega arith
place-le P (x ∷ xs) = at_test (not (P x)) (position_or_len P xs) (length xs) (place-le P xs)
  where
    at_test : (b : Bool) (n m : ℕ) → n ≤ m → cond b (1 + n) 0 ≤ suc m
    at_test true n m h = omega arith
    at_test false n m h = omega arith

pub place_found : {X : Type 0} (P : X → Bool) (xs : List X) (i : ℕ) → Some i ≡ position P xs
    → i ≡ position_or_len P xs
place_found P xs i e = grind (arith, nat_tests)

pub place_none : {X : Type 0} (P : X → Bool) (xs : List X) → ◌≡◌ {A = Option ℕ} None (position P xs)
    → length xs ≡ position_or_len P xs
place_none P xs e = let h = place-le P xs in grind (arith, nat_tests)

insert_later : (x part : Part) (xs : List Part) (n : ℕ) → part_texts (insert (x ∷ xs) (1 + n) part)
    ≡ part_text x ∷ part_texts (insert xs n part)
insert_later x part xs n = let e : 1 + n ≡ suc n = omega arith in rw e refl

-- A parameter inserted at its place is placed in order.
pub placed_at : (part : Part) (xs : List Part)
    → part_texts (insert xs (position_or_len (λ q. goes_before (part_text part) (part_text q)) xs)
    part) ≡ placed (part_text part) (part_texts xs)
placed_at part [] = refl
placed_at part (x ∷ xs) = at_test (goes_before (part_text part) (part_text x)) (placed_at part xs)
  where
    at_test : (b : Bool)
        → part_texts (insert xs (position_or_len (λ q. goes_before (part_text part) (part_text q))
        xs) part) ≡ placed (part_text part) (part_texts xs)
        → part_texts
        (insert (x ∷ xs)
        (cond (not b) (1 + position_or_len (λ q. goes_before (part_text part) (part_text q)) xs) 0)
        part)
        ≡ cond b (part_text part ∷ part_text x ∷ part_texts xs)
        (part_text x ∷ placed (part_text part) (part_texts xs))
    at_test true h = refl
    at_test false h = insert_later x part xs _ ∙ ap (λ (t : List (List ℕ)). part_text x ∷ t) h
