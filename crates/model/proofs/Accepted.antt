-- An accepted input meets none of its tests.
use Rattle.std.proofs.Common.{◌≡◌, ℕ, Bool, true, false, List, [], ◌∷◌, Some, None, refl}
use Rattle.std.specs.Prelude.{⊤, ◌==◌, if◌then◌else◌}
use Rattle.model.specs.Commands.{Command}
use Rattle.model.specs.History.{CommandRequest}
use Rattle.model.specs.State.{State}
use Rattle.model.specs.Refusals.{RequestFrom, first_refusal, holds_at, own_tests, refusal, tests}

abbrev pub NoneHolds : List (ℕ × Bool) → Type 0
NoneHolds [] = ⊤
NoneHolds (t ∷ ts) = (t.1 ≡ false) × NoneHolds ts

pub none_holds : (ts : List (ℕ × Bool)) → first_refusal ts ≡ None → NoneHolds ts
none_holds [] none = tt
none_holds (t ∷ ts) none = by_cases (λ rest. none_holds ts rest) t.1 refl none
  where
    by_cases : (first_refusal ts ≡ None → NoneHolds ts) → (b : Bool) → t.1 ≡ b
        → (if b then Some t.0 else first_refusal ts) ≡ None → NoneHolds (t ∷ ts)
    by_cases later true e some = cc
    by_cases later false e rest = (e, later rest)

pub none_at : (ts : List (ℕ × Bool)) → NoneHolds ts → (number : ℕ) → holds_at number ts ≡ false
none_at [] none number = refl
none_at (t ∷ ts) none number = by_cases (none_at ts none.1 number) (t.0 == number)
  where
    by_cases : holds_at number ts ≡ false → (b : Bool) → (if b then t.1 else holds_at number ts)
        ≡ false
    by_cases later true = none.0
    by_cases later false = later

-- Holds if a command is accepted: each of its tests fails.
abbrev pub AcceptedCommand : (st : State) (caller : ℕ) (c : Command) → Type 0
AcceptedCommand st caller c = (number : ℕ) → holds_at number (own_tests st caller c) ≡ false

pub accepted_command : (st : State) (caller : ℕ) (c : Command)
    → refusal st (RequestFrom caller (CommandRequest c)) ≡ None → AcceptedCommand st caller c
unfolding tests
accepted_command st caller c none = none_at (own_tests st caller c)
    (none_holds (own_tests st caller c) none)
