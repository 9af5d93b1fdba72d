-- The call at which a flaky device fails.
use Rattle.std.specs.Prelude.{◌≡◌, ℕ, ◌-◌, Bool, true, Option, None, Some}
use Rattle.store.specs.declared.testing.flaky.Failing.{Failing}
use Rattle.store.specs.declared.testing.flaky.Failing.TheVariants.{Once, Always}

-- The number of calls before the next failure, right after a failure.
abbrev pub after_failing : Failing → Option ℕ
after_failing Once = None
after_failing Always = Some 0

-- One call fewer before the failure, if one is to come.
abbrev pub one_fewer : Option ℕ → Option ℕ
one_fewer None = None
one_fewer (Some before) = Some (before - 1)

-- Holds if the call fails when none is left before the failure: it then reports `Storage` and
-- leaves the store below. Any other call counts down by one.
pub record CountsDown (before : Option ℕ) (failing : Failing) (now : Option ℕ) (tells : Bool)
    (is_still : Type 0) : Type 0 where
  pub tells_it : before ≡ Some 0 → tells ≡ true
  pub still : before ≡ Some 0 → is_still
  pub failed : before ≡ Some 0 → now ≡ after_failing failing
  pub passed : ¬ (before ≡ Some 0) → now ≡ one_fewer before
