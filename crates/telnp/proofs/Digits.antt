-- Gathering digits into eleven places.
use Rattle.std.proofs.Common.{◌≡◌, ◌∙◌, sym, ap, ℕ, zero, suc, ◌+◌, ◌<◌, ◌≤◌, Bool, true, false, cond, List, [], ◌∷◌, ◌++◌, length, get_or, take, append-nil, arith}
use Rattle.std.specs.List.{filter}
use Rattle.std.proofs.Math.ListN.{set}
use Rattle.std.proofs.lemmas.List.{take_more_set, take_all, length-take-le}
use Rattle.std.proofs.lemmas.List.Elements.{filter_more}
use Rattle.std.proofs.lemmas.List.Filters.{length-filter_more}
use Rattle.telnp.specs.Bytes.{is_digit}
use Rattle.telnp.specs.Numbers.{digits_in}

-- A prefix has no more members that pass the test than the list.
fewer : (p : ℕ → Bool) (xs : List ℕ) (k : ℕ) → length (filter p (take k xs)) ≤ length (filter p xs)
fewer p [] zero = omega arith
fewer p [] (suc k) = omega arith
fewer p (x ∷ xs) zero = omega arith
fewer p (x ∷ xs) (suc k) = at_test (p x) (fewer p xs k)
  where
    at_test : (b : Bool) → length (filter p (take k xs)) ≤ length (filter p xs)
        → length (cond b (x ∷ filter p (take k xs)) (filter p (take k xs))) ≤ length
        (cond b (x ∷ filter p xs) (filter p xs))
    at_test true h = omega arith
    at_test false h = h

-- With eleven digits found, another digit makes more than eleven.
pub too_many : (xs ds : List ℕ) (i count : ℕ) → i < length xs → true ≡ is_digit (get_or xs i 0)
    → take count ds ≡ digits_in (take i xs)
    → count ≡ 11 → length ds ≡ 11 → length (digits_in xs) ≡ 11 → ⊥
too_many xs ds i count within digit found full long e =
    let room : count ≤ length ds = omega arith in
    let eleven : length (take count ds) ≡ 11 = length-take-le count ds room ∙ full in
    let before : length (digits_in (take i xs)) ≡ 11 = sym (ap length found) ∙ eleven in
    let more : length (digits_in (take (i + 1) xs)) ≡ length (digits_in (take i xs)) + 1 =
    length-filter_more is_digit xs i 0 within
    ∙ ap (λ b. length (digits_in (take i xs)) + cond b 1 0) (sym digit) in
    let most = fewer is_digit xs (i + 1) in
    omega arith

-- A digit of the text goes into the next place.
pub one_more : (xs ds : List ℕ) (i count : ℕ) → i < length xs → true ≡ is_digit (get_or xs i 0)
    → take count ds ≡ digits_in (take i xs)
    → count < length ds → take (count + 1) (set ds count (get_or xs i 0))
    ≡ digits_in (take (i + 1) xs)
one_more xs ds i count within digit found room =
    take_more_set ds count (get_or xs i 0) room
    ∙ ap (λ (t : List ℕ). t ++ get_or xs i 0 ∷ []) found
    ∙ ap (λ b. digits_in (take i xs) ++ cond b (get_or xs i 0 ∷ []) []) digit
    ∙ sym (filter_more is_digit xs i 0 within)

-- A byte that is not a digit changes nothing.
pub none_more : (xs ds : List ℕ) (i count : ℕ) → i < length xs → false ≡ is_digit (get_or xs i 0)
    → take count ds ≡ digits_in (take i xs)
    → take count ds ≡ digits_in (take (i + 1) xs)
none_more xs ds i count within digit found =
    found ∙ sym (append-nil (digits_in (take i xs)))
    ∙ ap (λ b. digits_in (take i xs) ++ cond b (get_or xs i 0 ∷ []) []) digit
    ∙ sym (filter_more is_digit xs i 0 within)

-- At the end of the text, eleven digits found are all its digits.
pub all_digits : (xs ds : List ℕ) (i count : ℕ) → length xs ≤ i
    → take count ds ≡ digits_in (take i xs) → count ≡ 11 → length ds ≡ 11 → digits_in xs ≡ ds
all_digits xs ds i count ended found full long =
    let room : length ds ≤ count = omega arith in
    sym (ap digits_in (take_all i xs ended)) ∙ sym found ∙ take_all count ds room
