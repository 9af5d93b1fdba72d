-- The refusals and effects of a donation, by the set of its used numbers and the list of those that
-- need a version.
use Rattle.std.proofs.Common.{◌≡◌, ℕ, ◌+◌, ◌≤◌, Bool, true, false, List, [], ◌∷◌, ◌++◌, length, map, Option, Some, None, refl, ap, sym, ◌∙◌, subst, arith}
use Rattle.std.specs.Prelude.{nat_lt, filter, is_some, if◌then◌else◌, Result, Ok, Err, IfErr, IsErrAnd, ◌≢◌}
use Rattle.std.specs.BTreeSet.{BTreeSet, keys}
use Rattle.std.proofs.lemmas.List.{length-map}
use Rattle.std.proofs.lemmas.Bool.Decides.{nat_tests}
use Rattle.numbers.specs.declared.tn.Tn.{Tn}
use Rattle.version.specs.declared.version.Version.{Version as VersionImpl}
use Rattle.model.specs.declared.refusal.Refusal.{Refusal}
use Rattle.model.specs.declared.refusal.Refusal.TheVariants.{NoMemory}
use Rattle.model.specs.RefusalNumbers.{number_of}
use Rattle.model.specs.Conditions.{limit}
use Rattle.model.specs.Refusals.{first_refusal}
use Rattle.pool.specs.declared.donation.Donation.{Donation}
use Rattle.pool.specs.declared.facts.BlockFacts.{BlockFacts}
use Rattle.pool.specs.Facts.{has_open_port, in_force_numbers}
use Rattle.pool.specs.Donations.{tn_subject, numbers_in, used_by, is_unprotected, made_numbers, is_contaminated, donor_tests, tests_by, block_tests, donation_refusal, AreProtective, IsPlanned, IsRefusedAs}
use Rattle.pool.proofs.InUse.{picked}
use Rattle.model.specs.Windows.{WindowSet}

-- ---- tests in turn

refused-first : (ts us : List (ℕ × Bool)) (n : ℕ) → first_refusal ts ≡ Some n
    → first_refusal (ts ++ us) ≡ Some n
refused-first [] us n is = cc
refused-first (t ∷ ts) us n is = by_cases (refused-first ts us n) t.1 is
  where
    by_cases : (first_refusal ts ≡ Some n → first_refusal (ts ++ us) ≡ Some n) → (b : Bool)
        → (if b then Some t.0 else first_refusal ts) ≡ Some n →
        (if b then Some t.0 else first_refusal (ts ++ us)) ≡ Some n
    by_cases later true e = e
    by_cases later false e = later e

passed-first : (ts us : List (ℕ × Bool)) → first_refusal ts ≡ None
    → first_refusal (ts ++ us) ≡ first_refusal us
passed-first [] us is = refl
passed-first (t ∷ ts) us is = by_cases (passed-first ts us) t.1 is
  where
    by_cases : (first_refusal ts ≡ None → first_refusal (ts ++ us) ≡ first_refusal us)
        → (b : Bool) → (if b then Some t.0 else first_refusal ts) ≡ None →
        (if b then Some t.0 else first_refusal (ts ++ us)) ≡ first_refusal us
    by_cases later true e = cc
    by_cases later false e = later e

-- ---- tests of a donation

-- A refusal of the donor refuses the donation.
pub refused : (caller : ℕ) (d : Donation) (facts : BlockFacts) (n : ℕ)
    → first_refusal (donor_tests caller facts) ≡ Some n
    → donation_refusal caller d facts ≡ Some n
refused caller d facts n is =
    refused-first (donor_tests caller facts) (block_tests (used_by d) facts) n is

-- The list has the numbers that get a version.
pub made-are : (d : Donation) (facts : BlockFacts) (used : BTreeSet Tn) (made : List Tn)
    → numbers_in used ≡ used_by d → made ≡ filter (is_unprotected facts) (keys used) →
    made_numbers (used_by d) (in_force_numbers facts.numbers.now) ≡ map tn_subject made
made-are d facts used made all is =
    ap (λ ss. made_numbers ss (in_force_numbers facts.numbers.now)) (sym all)
    ∙ picked facts (keys used) ∙ ap (map tn_subject) (sym is)

-- If the donor is not refused, the block decides.
judged : (caller : ℕ) (d : Donation) (facts : BlockFacts) (used : BTreeSet Tn) (made : List Tn)
    → first_refusal (donor_tests caller facts) ≡ None → numbers_in used ≡ used_by d →
    made ≡ filter (is_unprotected facts) (keys used)
    → donation_refusal caller d facts ≡ first_refusal (tests_by (numbers_in used) (length made)
    facts)
judged caller d facts used made passed all is =
    passed-first (donor_tests caller facts) (block_tests (used_by d) facts) passed
    ∙ ap (λ n. first_refusal (tests_by (used_by d) n facts))
    (ap length (made-are d facts used made all is) ∙ length-map made tn_subject)
    ∙ ap (λ ss. first_refusal (tests_by ss (length made) facts)) (sym all)

pub answered : (caller : ℕ) (d : Donation) (facts : BlockFacts) (used : BTreeSet Tn)
    (made : List Tn) (versions : ℕ) (refusal : Option ℕ)
    → None ≡ first_refusal (donor_tests caller facts) →
    numbers_in used ≡ used_by d → made ≡ filter (is_unprotected facts) (keys used)
    → versions ≡ length made
    → refusal ≡ first_refusal (tests_by (numbers_in used) versions facts) →
    donation_refusal caller d facts ≡ refusal
answered caller d facts used made versions refusal passed all is many answer =
    judged caller d facts used made (sym passed) all is
    ∙ ap (λ n. first_refusal (tests_by (numbers_in used) n facts)) (sym many) ∙ sym answer

-- A returned refusal is the donation's.
pub returned : {A : Type 0} (result : Result A Refusal) (was : Refusal) (o : Option ℕ)
    → IsErrAnd result (λ r. r ≡ was) → o ≡ Some (number_of was) →
    IfErr result (λ r. r ≢ NoMemory → o ≡ Some (number_of r))
returned (Ok value) was o is e = tt
returned (Err r) was o is e = λ other. e ∙ ap (λ x. Some (number_of x)) (sym is)

-- A returned refusal of the state satisfies `IsRefusedAs`.
pub refused_as : {A : Type 0} (result : Result A Refusal) (was : Refusal) (o : Option ℕ)
    → IsErrAnd result (λ r. r ≡ was) → o ≡ Some (number_of was) → IsRefusedAs o result
refused_as (Ok value) was o is e = absurd is
refused_as (Err r) was o is e = λ other. e ∙ ap (λ x. Some (number_of x)) (sym is)

-- If the block is not refused, the ids are within the limit.
pub within : (facts : BlockFacts) (used : BTreeSet Tn) (versions : ℕ)
    → first_refusal (tests_by (numbers_in used) versions facts) ≡ None
    → facts.next_id + versions ≤ limit
within facts used versions is =
    fits (by_cases (is_contaminated (numbers_in used) facts) (has_open_port facts.numbers.now)
    (is_some facts.donor) (nat_lt limit (facts.next_id + versions)) is)
  where
    by_cases : (a b c d : Bool) → first_refusal ((22, a) ∷ (23, b) ∷ (24, c) ∷ (28, d) ∷ []) ≡ None
        → d ≡ false
    by_cases true b c d e = cc
    by_cases false true c d e = cc
    by_cases false false true d e = cc
    by_cases false false false true e = cc
    by_cases false false false false e = refl

    fits : nat_lt limit (facts.next_id + versions) ≡ false → facts.next_id + versions ≤ limit
    fits e = grind (arith, nat_tests)

pub planned : (w : WindowSet) (caller minute : ℕ) (d : Donation) (facts : BlockFacts)
    (used : BTreeSet Tn) (made : List Tn) (versions : List (ℕ × VersionImpl))
    → numbers_in used ≡ used_by d →
    made ≡ filter (is_unprotected facts) (keys used)
    → AreProtective w caller minute d facts.next_id (map tn_subject made) versions
    → IsPlanned w caller minute d facts versions
planned w caller minute d facts used made versions all is are =
    subst (λ ss. AreProtective w caller minute d facts.next_id ss versions)
    (sym (made-are d facts used made all is)) are
