-- The deadline of a version is the earliest minute when its timer has expired.
use Rattle.std.proofs.Common.{◌≡◌, ℕ, zero, suc, ◌+◌, ◌<◌, Bool, true, false, Option, Some, None, refl, ap, sym, ◌∙◌, arith, ◌⊎◌, inl, inr}
use Rattle.std.specs.Prelude.{nat_lt, nat_le, if◌then◌else◌}
use Rattle.std.proofs.lemmas.Bool.Decides.{nat_tests}
use Rattle.model.specs.Windows.{Windows, has_age}
use Rattle.model.specs.Statuses.{Status, Pending, Conflict, CancelPending, Sending, DisconnectPending}
use Rattle.model.specs.Judge.{retained_from}
use Rattle.model.specs.Conditions.{limit}
use Rattle.model.specs.Content.{least_below, deadline_of}

-- Holds if d is the least number below n that passes the test, or none passes.
abbrev pub IsLeastBelow : (ℕ → Bool) → ℕ → Option ℕ → Type 0
IsLeastBelow test n None = (j : ℕ) → j < n → test j ≡ false
IsLeastBelow test n (Some d) = (d < n) × (test d ≡ true) × ((j : ℕ) → j < d → test j ≡ false)

pub below_or_at : (j n : ℕ) → j < suc n → (j < n) ⊎ (j ≡ n)
below_or_at j n h = grind arith

one_more_none : (test : ℕ → Bool) (n : ℕ) → IsLeastBelow test n None → test n ≡ false
    → IsLeastBelow test (suc n) None
one_more_none test n below last j h = by_cases (below_or_at j n h)
  where
    by_cases : (j < n) ⊎ (j ≡ n) → test j ≡ false
    by_cases (inl k) = below j k
    by_cases (inr k) = ap test k ∙ last

pub least_below_is : (test : ℕ → Bool) (n : ℕ) → IsLeastBelow test n (least_below test n)
unfolding least_below
least_below_is test zero = λ j h. absurd (omega arith)
least_below_is test (suc n) = by_cases (least_below test n) (least_below_is test n) (test n) refl
  where
    by_cases : (o : Option ℕ) → IsLeastBelow test n o → (b : Bool) → test n ≡ b →
        IsLeastBelow test (suc n) (elim o [ Some m ↦ Some m | None ↦ (if b then Some n else None) ])
    by_cases (Some m) is b e = (omega (arith, is.0), is.1, is.2)
    by_cases None is true e = (omega arith, e, is)
    by_cases None is false e = one_more_none test n is e

same_least : (test : ℕ → Bool) (n : ℕ) (o p : Option ℕ) → IsLeastBelow test n o
    → IsLeastBelow test n p → o ≡ p
same_least test n None None is js = refl
same_least test n (Some d) None is js = let no : test d ≡ false = js d is.0 in
    absurd (let e : true ≡ false = sym is.1 ∙ no in cc)
same_least test n None (Some d) is js = let no : test d ≡ false = is d js.0 in
    absurd (let e : true ≡ false = sym js.1 ∙ no in cc)
same_least test n (Some d) (Some f) is js = by_cases (compared d f)
  where
    compared : (x y : ℕ) → (x ≡ y) ⊎ ((x < y) ⊎ (y < x))
    compared x y = grind arith

    by_cases : (d ≡ f) ⊎ ((d < f) ⊎ (f < d)) → Some d ≡ Some f
    by_cases (inl e) = ap (λ x. Some x) e
    by_cases (inr (inl lt)) = let no : test d ≡ false = js.2 d lt in
        absurd (let e : true ≡ false = sym is.1 ∙ no in cc)
    by_cases (inr (inr lt)) = let no : test f ≡ false = is.2 f lt in
        absurd (let e : true ≡ false = sym js.1 ∙ no in cc)

-- The least number is what `least_below` returns.
pub least_below_only : (test : ℕ → Bool) (n : ℕ) (o : Option ℕ) → IsLeastBelow test n o
    → least_below test n ≡ o
least_below_only test n o is = same_least test n (least_below test n) o (least_below_is test n) is

-- ---- windows

-- A window that began at `since` ends at since + window, if that is below the limit.
pub least-has_age : (window since n : ℕ) → least_below (λ j. has_age window since j) n
    ≡ (if nat_lt (since + window) n then Some (since + window) else None)
least-has_age window since n = by_cases (nat_lt (since + window) n) refl
  where
    by_cases : (b : Bool) → nat_lt (since + window) n ≡ b
        → least_below (λ j. has_age window since j) n
        ≡ (if b then Some (since + window) else None)
    by_cases true e = least_below_only (λ j. has_age window since j) n (Some (since + window))
        (grind (arith, nat_tests), grind (arith, nat_tests), λ j before. grind (arith, nat_tests))
    by_cases false e =
        least_below_only (λ j. has_age window since j) n None (λ j before. grind (arith, nat_tests))

pub ruleset ages = least-has_age

-- If no number passes the test, there is no least one.
pub least-never : (n : ℕ) → least_below (λ j. false) n ≡ None
least-never n = least_below_only (λ j. false) n None (λ j before. refl)

pub least-from : (start n : ℕ) → least_below (λ j. nat_le start j) n ≡ (if nat_lt start n
    then Some start else None)
least-from start n = by_cases (nat_lt start n) refl
  where
    by_cases : (b : Bool) → nat_lt start n ≡ b → least_below (λ j. nat_le start j) n ≡ (if b
        then Some start else None)
    by_cases true e = least_below_only (λ j. nat_le start j) n (Some start) (
      grind (arith, nat_tests),
      grind (arith, nat_tests),
      λ j before. grind (arith, nat_tests),
    )
    by_cases false e =
        least_below_only (λ j. nat_le start j) n None (λ j before. grind (arith, nat_tests))

-- ---- the deadline of each status, without a search

-- The number, if it is a minute.
abbrev pub if_minute : ℕ → Option ℕ
if_minute m = if nat_lt m limit then Some m else None

-- The deadline of a pending version: its retention once the new provider has made its create, and
-- the concurrence windows of the old provider's before.
abbrev pub pending_until : Windows → (due : ℕ) → (old_at new_at : Option ℕ) → (since : ℕ) → Option ℕ
pending_until w due old_at (Some m) since =
    if_minute (retained_from due since (Some m) + w.pending_retention)
pending_until w due (Some m) None since =
    if_minute (since + (w.initial_concurrence + w.final_concurrence))
pending_until w due None None since = None

abbrev pub status_until : Windows → (due : ℕ) → (old_at new_at : Option ℕ) → (since : ℕ) → Status
    → Option ℕ
status_until w due old_at new_at since Pending = pending_until w due old_at new_at since
status_until w due old_at new_at since Conflict = if_minute (since + w.conflict_expiration)
status_until w due old_at new_at since (CancelPending by) =
    if_minute (since + (w.cancellation_initial + w.cancellation_final))
status_until w due old_at new_at since (DisconnectPending release) = if_minute release
status_until w due old_at new_at since (Sending action) = if_minute (since + w.broadcast)
status_until w due old_at new_at since _ = None

pub pending_is : (w : Windows) (due : ℕ) (old_at new_at : Option ℕ) (since : ℕ)
    → deadline_of w due old_at new_at since Pending ≡ pending_until w due old_at new_at since
pending_is w due old_at (Some m) since =
    least-has_age w.pending_retention (retained_from due since (Some m)) limit
pending_is w due (Some m) None since =
    least-has_age (w.initial_concurrence + w.final_concurrence) since limit
pending_is w due None None since = least-never limit

pub deadline_is : (w : Windows) (due : ℕ) (old_at new_at : Option ℕ) (since : ℕ) (status : Status)
    → deadline_of w due old_at new_at since status ≡ status_until w due old_at new_at since status
deadline_is w due old_at new_at since Pending = pending_is w due old_at new_at since
deadline_is w due old_at new_at since Conflict = least-has_age w.conflict_expiration since limit
deadline_is w due old_at new_at since (CancelPending by) =
    least-has_age (w.cancellation_initial + w.cancellation_final) since limit
deadline_is w due old_at new_at since (DisconnectPending release) = least-from release limit
deadline_is w due old_at new_at since (Sending action) = least-has_age w.broadcast since limit
deadline_is w due old_at new_at since _ = least-never limit
