-- A second create is for the open version, so only the open version needs to be read.
use Rattle.std.proofs.Common.{◌≡◌, ℕ, Bool, true, false, cond, ◌&&◌, ◌||◌, List, [], ◌∷◌, Option, Some, None, refl, ap, sym, ◌∙◌}
use Rattle.std.specs.Prelude.{find, if◌then◌else◌, ◌==◌, is_none, is_some}
use Rattle.std.specs.List.{list_any}
use Rattle.numbers.specs.Subjects.{Subject, Number}
use Rattle.model.specs.Statuses.{Status, Pending, Conflict}
use Rattle.model.specs.Versions.{Version, is_open, open_status}
use Rattle.model.specs.Sound.{NoneOpen, AreSound}
use Rattle.model.specs.History.{awaits_creates, lacks_old_create, lacks_new_create}
use Rattle.model.specs.Conditions.{holds_of}
use Rattle.numbers.proofs.Small.{true-false, and_first}

-- The value, if it passes the test.
abbrev pub if_holds : {A : Type 0} → (A → Bool) → Option A → Option A
if_holds test None = None
if_holds test (Some x) = if test x then Some x else None

-- ---- a version that may get a second create is open

awaits-open : (status : Status) → awaits_creates status ≡ true → open_status status ≡ true
awaits-open Pending awaits = refl
awaits-open Conflict awaits = refl
awaits-open _ awaits = cc

pub lacks_old-open : (n old_provider new_provider : ℕ) (v : Version)
    → lacks_old_create old_provider new_provider v ≡ true → is_open (Number n) v ≡ true
lacks_old-open n old_provider new_provider v lacks =
    awaits-open v.status (and_first (awaits_creates v.status) ((v.old_provider == old_provider)
    && (v.new_provider == new_provider))
    (and_first (awaits_creates v.status && ((v.old_provider == old_provider)
    && (v.new_provider == new_provider))) (is_none v.old_at) lacks))

pub lacks_new-open : (n old_provider new_provider : ℕ) (v : Version)
    → lacks_new_create old_provider new_provider v ≡ true → is_open (Number n) v ≡ true
lacks_new-open n old_provider new_provider v lacks =
    awaits-open v.status (and_first (awaits_creates v.status) ((v.old_provider == old_provider)
    && (v.new_provider == new_provider))
    (and_first (awaits_creates v.status && ((v.old_provider == old_provider)
    && (v.new_provider == new_provider))) (is_none v.new_at) lacks))

-- ---- only one version is open

any_found : (test : Version → Bool) (vs : List Version) → list_any test vs ≡ is_some (find test vs)
any_found test [] = refl
any_found test (v ∷ vs) = by_cases (any_found test vs) (test v)
  where
    by_cases : list_any test vs ≡ is_some (find test vs) → (b : Bool)
        → (b || list_any test vs) ≡ is_some (cond b (Some v) (find test vs))
    by_cases later true = refl
    by_cases later false = later

module _ (s : Subject) (test : Version → Bool) (opens : (v : Version) → test v ≡ true
    → is_open s v ≡ true) where
  closed_fails : (v : Version) → is_open s v ≡ false → test v ≡ false
  closed_fails v closed = by_cases (test v) refl
    where
      by_cases : (b : Bool) → test v ≡ b → b ≡ false
      by_cases true e = true-false (is_open s v) (opens v e) closed
      by_cases false e = refl

  none_found : (vs : List Version) → NoneOpen s vs → find test vs ≡ None
  none_found [] none = refl
  none_found (v ∷ vs) none = ap (λ b. cond b (Some v) (find test vs)) (closed_fails v none.0)
      ∙ none_found vs none.1

  none_opened : (vs : List Version) → NoneOpen s vs → find (is_open s) vs ≡ None
  none_opened [] none = refl
  none_opened (v ∷ vs) none = ap (λ b. cond b (Some v) (find (is_open s) vs)) none.0
      ∙ none_opened vs none.1

  -- The version that the test finds is the open one, if that passes it.
  pub found_is_open : (vs : List Version) → AreSound s vs
      → find test vs ≡ if_holds test (find (is_open s) vs)
  found_is_open [] sound = refl
  found_is_open (v ∷ vs) sound = by_cases (is_open s v) refl (test v) refl
    where
      by_cases : (b : Bool) → is_open s v ≡ b → (c : Bool) → test v ≡ c
          → cond c (Some v) (find test vs) ≡ if_holds test (cond b (Some v) (find (is_open s) vs))
      by_cases true e true f = ap (λ d. if d then Some v else None) (sym f)
      by_cases true e false f = none_found vs sound.0 ∙ ap (λ d. if d then Some v else None) (sym f)
      by_cases false e true f = true-false (is_open s v) (opens v f) e
      by_cases false e false f =
          none_found vs sound.0 ∙ ap (if_holds test) (sym (none_opened vs sound.0))

  -- Some version passes the test if the open one does.
  pub any_is_open : (vs : List Version) → AreSound s vs
      → list_any test vs ≡ holds_of test (find (is_open s) vs)
  any_is_open vs sound = any_found test vs ∙ ap is_some (found_is_open vs sound)
      ∙ passes (find (is_open s) vs)
    where
      passes : (o : Option Version) → is_some (if_holds test o) ≡ holds_of test o
      passes None = refl
      passes (Some v) = by_cases (test v)
        where
          by_cases : (b : Bool) → is_some (if b then Some v else None) ≡ b
          by_cases true = refl
          by_cases false = refl
