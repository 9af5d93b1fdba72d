-- An accepted donation makes at most a hundred versions.
use Rattle.std.proofs.Common.{◌≡◌, ℕ, zero, suc, ◌≤◌, Bool, true, false, List, [], ◌∷◌, ◌++◌, cond, length, Option, Some, None, refl, ap, arith}
use Rattle.std.proofs.lemmas.Bool.Decides.{nat_tests}
use Rattle.std.proofs.lemmas.List.{length-append}
use Rattle.std.specs.Prelude.{filter, is_none, nat_lt}
use Rattle.model.specs.Commands.{Donate}
use Rattle.model.specs.History.{CommandRequest, subjects_made_by, used_numbers}
use Rattle.model.specs.Machine.{Donated, accepted, answer_of, ids_from, out, refused_or}
use Rattle.model.specs.State.{State, record_now, next_of}
use Rattle.model.specs.Refusals.{RequestFrom, contaminated_numbers, refusal}
use Rattle.model.specs.Versions.{version_in_force}
use Rattle.model.proofs.Accepted.{accepted_command}

fewer : {A : Type 0} (test : A → Bool) (xs : List A) → length (filter test xs) ≤ length xs
fewer test [] = omega arith
fewer test (x ∷ xs) = by_cases (fewer test xs) (test x)
  where
    by_cases : length (filter test xs) ≤ length xs → (b : Bool)
        → length (cond b (x ∷ filter test xs) (filter test xs)) ≤ suc (length xs)
    by_cases less true = omega (arith, less)
    by_cases less false = omega (arith, less)

so_many : (id many : ℕ) → length (ids_from id many) ≡ many
so_many id zero = refl
so_many id (suc many) = ap suc (so_many (suc id) many)

front_few : {A : Type 0} (xs ys : List A) (n : ℕ) → length (xs ++ ys) ≤ n → length xs ≤ n
front_few xs ys n few = let both = length-append xs ys in omega (arith, both, few)

-- At most a hundred numbers are in use, and the used numbers are among them.
used_few : (st : State) (caller block : ℕ) (used : List ℕ) (lrn : ℕ) (cic : Option ℕ)
    → refusal st (RequestFrom caller (CommandRequest (Donate block used lrn cic))) ≡ None
    → length (used_numbers block used) ≤ 100
used_few st caller block used lrn cic none =
    let few : nat_lt 100 (length (contaminated_numbers st block used)) ≡ false =
    (accepted_command st caller (Donate block used lrn cic) none 22) in
    let all : length (contaminated_numbers st block used) ≤ 100 =
    grind (arith, nat_tests, few) in
    front_few (used_numbers block used) _ 100 all

made_few : (st : State) (caller block : ℕ) (used : List ℕ) (lrn : ℕ) (cic : Option ℕ)
    → refusal st (RequestFrom caller (CommandRequest (Donate block used lrn cic))) ≡ None
    → length (ids_from (next_of st)
    (length (subjects_made_by (CommandRequest (Donate block used lrn cic)) (record_now st)))) ≤ 100
made_few st caller block used lrn cic none =
    let many = so_many (next_of st)
    (length (subjects_made_by (CommandRequest (Donate block used lrn cic)) (record_now st))) in
    let less = fewer (λ s. is_none (version_in_force (record_now st s)))
    (used_numbers block used) in
    omega (arith, many, less, used_few st caller block used lrn cic none)

-- The answer to a donation has at most a hundred ids.
pub donated_few : (st : State) (caller block : ℕ) (used : List ℕ) (lrn : ℕ) (cic : Option ℕ) (b : ℕ)
    (ids : List ℕ)
    → Donated b ids ≡ out st (RequestFrom caller (CommandRequest (Donate block used lrn cic)))
    → length ids ≤ 100
unfolding out
donated_few st caller block used lrn cic b ids said =
    by_cases (refusal st (RequestFrom caller (CommandRequest (Donate block used lrn cic)))) refl
    said
  where
    by_cases : (r : Option ℕ)
        → refusal st (RequestFrom caller (CommandRequest (Donate block used lrn cic))) ≡ r
        → Donated b ids ≡ refused_or r
        (answer_of st
        (accepted st (RequestFrom caller (CommandRequest (Donate block used lrn cic))))
        (RequestFrom caller (CommandRequest (Donate block used lrn cic)))) → length ids ≤ 100
    by_cases (Some k) none e = let x : ⊥ = cc in absurd x
    by_cases None none e =
        let same : ids ≡ ids_from (next_of st)
        (length (subjects_made_by (CommandRequest (Donate block used lrn cic)) (record_now st))) =
        cc in
        let few = made_few st caller block used lrn cic none in
        omega (arith, few, ap length same)
