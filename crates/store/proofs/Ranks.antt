-- A subject is at the place that its key gives.
use Rattle.std.proofs.Common.{◌≡◌, ℕ, Bool, true, false, refl, arith}
use Rattle.std.specs.Prelude.{◌==◌, ◌/◌, ◌%◌, ◌*◌, ◌+◌, ◌-◌, ◌≤◌, if◌then◌else◌}
use Rattle.std.proofs.lemmas.Bool.Decides.{nat_tests}
use Rattle.numbers.specs.Subjects.{Subject, Number, Block, subject_key}
use Rattle.numbers.proofs.SubjectKeys.{subject_key-exact}
use Rattle.store.specs.Ranks.{ranked}

none : (n : ℕ) → (n == 0) ≡ true → n ≡ 0
none n e = grind (arith, nat_tests)

some : (n : ℕ) → (n == 0) ≡ false → 1 ≤ n
some n e = grind (arith, nat_tests)

pub key_ranked : (n : ℕ) → subject_key (ranked n) ≡ n
key_ranked n = by_cases (n % 1001 == 0) refl
  where
    by_cases : (b : Bool) → (n % 1001 == 0) ≡ b → subject_key (if b then Block (n / 1001)
        else Number (n / 1001 * 1000 + (n % 1001 - 1))) ≡ n
    by_cases true e = let f : n % 1001 ≡ 0 = none (n % 1001) e in omega (arith, f)
    by_cases false e = let f : 1 ≤ n % 1001 = some (n % 1001) e in omega (arith, f)

pub ranked_key : (s : Subject) → ranked (subject_key s) ≡ s
ranked_key s = subject_key-exact (ranked (subject_key s)) s (key_ranked (subject_key s))
