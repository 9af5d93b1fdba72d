-- The numbers of a block in use: those of the set and the list are those of the definitions.
use Rattle.std.proofs.Common.{◌≡◌, ℕ, ◌+◌, Bool, true, false, cond, not, ◌&&◌, ◌||◌, List, [], ◌∷◌, length, map, refl, ap, arith}
use Rattle.std.specs.Prelude.{filter, ◌==◌}
use Rattle.std.specs.List.{list_any}
use Rattle.std.specs.BTreeSet.{BTreeSet, keys}
use Rattle.std.proofs.lemmas.List.{length-append, length-map}
use Rattle.numbers.specs.Subjects.{Subject, Number, subject_eq}
use Rattle.numbers.specs.declared.tn.Tn.{Tn}
use Rattle.version.specs.declared.in_use.NumberInUse.{NumberInUse}
use Rattle.pool.specs.declared.facts.BlockFacts.{BlockFacts}
use Rattle.pool.specs.Facts.{in_force_numbers, is_in_force}
use Rattle.pool.specs.Donations.{tn_subject, numbers_in, is_named, is_unnamed, is_unprotected, unnamed, made_numbers, contaminated_numbers}

any-named : (n : ℕ) (ks : List Tn) → list_any (subject_eq (Number n)) (map tn_subject ks)
    ≡ list_any (λ (t : Tn). n == t.number) ks
any-named n [] = refl
any-named n (k ∷ ks) = ap (λ b. (n == k.number) || b) (any-named n ks)

any-in_force : (n : ℕ) (us : List NumberInUse)
    → list_any (subject_eq (Number n)) (in_force_numbers us) ≡ list_any (is_in_force n) us
any-in_force n [] = refl
any-in_force n (u ∷ us) = by_cases (any-in_force n us) u.is_in_force
  where
    by_cases : list_any (subject_eq (Number n)) (in_force_numbers us) ≡ list_any (is_in_force n) us
        → (b : Bool) →
        list_any (subject_eq (Number n)) (map (λ (v : NumberInUse). Number v.tn.number)
        (cond b (u ∷ filter (λ (v : NumberInUse). v.is_in_force) us)
        (filter (λ (v : NumberInUse). v.is_in_force) us)))
        ≡ ((b && (n == u.tn.number)) || list_any (is_in_force n) us)
    by_cases later true = ap (λ c. (n == u.tn.number) || c) later
    by_cases later false = later

length-unnamed : (used : BTreeSet Tn) (us : List NumberInUse)
    → length (unnamed (numbers_in used) (in_force_numbers us))
    ≡ length (filter (is_unnamed used) us)
length-unnamed used [] = refl
length-unnamed used (u ∷ us) = by_cases (length-unnamed used us) u.is_in_force
  where
    test : Subject → Bool
    test s = not (list_any (subject_eq s) (numbers_in used))

    more : length (unnamed (numbers_in used) (in_force_numbers us))
        ≡ length (filter (is_unnamed used) us) → (b c : Bool) → b ≡ c →
        length (cond (not b) (Number u.tn.number ∷ unnamed (numbers_in used) (in_force_numbers us))
        (unnamed (numbers_in used) (in_force_numbers us)))
        ≡ length (cond (not c) (u ∷ filter (is_unnamed used) us) (filter (is_unnamed used) us))
    more later true true e = later
    more later false false e = omega (arith, later)
    more later true false e = cc
    more later false true e = cc

    by_cases : length (unnamed (numbers_in used) (in_force_numbers us))
        ≡ length (filter (is_unnamed used) us) → (b : Bool) →
        length (unnamed (numbers_in used) (map (λ (v : NumberInUse). Number v.tn.number)
        (cond b (u ∷ filter (λ (v : NumberInUse). v.is_in_force) us)
        (filter (λ (v : NumberInUse). v.is_in_force) us))))
        ≡ length (cond (b && not (is_named used u.tn)) (u ∷ filter (is_unnamed used) us)
        (filter (is_unnamed used) us))
    by_cases later true = more later (list_any (subject_eq (Number u.tn.number)) (numbers_in used))
        (is_named used u.tn) (any-named u.tn.number (keys used))
    by_cases later false = later

-- The contaminated numbers are as many as the set and the other numbers in force.
pub length-contaminated : (used : BTreeSet Tn) (us : List NumberInUse) →
    length (contaminated_numbers (numbers_in used) (in_force_numbers us)) ≡ length (keys used)
    + length (filter (is_unnamed used) us)
length-contaminated used us =
    let all : length (contaminated_numbers (numbers_in used) (in_force_numbers us))
    ≡ length (numbers_in used) + length (unnamed (numbers_in used) (in_force_numbers us)) =
    length-append (numbers_in used) (unnamed (numbers_in used) (in_force_numbers us)) in
    let named : length (numbers_in used) ≡ length (keys used) = length-map (keys used) tn_subject in
    let others : length (unnamed (numbers_in used) (in_force_numbers us))
    ≡ length (filter (is_unnamed used) us) = length-unnamed used us in
    omega (arith, all, named, others)

-- The numbers that get a version are those picked from the set.
pub picked : (facts : BlockFacts) (ks : List Tn)
    → made_numbers (map tn_subject ks) (in_force_numbers facts.numbers.now) ≡ map tn_subject
    (filter (is_unprotected facts) ks)
picked facts [] = refl
picked facts (k ∷ ks) =
    by_cases (picked facts ks) (list_any (subject_eq (Number k.number))
    (in_force_numbers facts.numbers.now)) (list_any (is_in_force k.number) facts.numbers.now)
    (any-in_force k.number facts.numbers.now)
  where
    by_cases : made_numbers (map tn_subject ks) (in_force_numbers facts.numbers.now)
        ≡ map tn_subject
        (filter (is_unprotected facts) ks) → (b c : Bool) → b ≡ c →
        cond (not b) (Number k.number ∷ made_numbers (map tn_subject ks)
        (in_force_numbers facts.numbers.now)) (made_numbers (map tn_subject ks)
        (in_force_numbers facts.numbers.now))
        ≡ map tn_subject (cond (not c) (k ∷ filter (is_unprotected facts) ks)
        (filter (is_unprotected facts) ks))
    by_cases later true true e = later
    by_cases later false false e = ap (λ ss. Number k.number ∷ ss) later
    by_cases later true false e = cc
    by_cases later false true e = cc
