-- Releases: their effects and refusals.
use Rattle.std.specs.Prelude.{ℕ, ◌≡◌, Bool, not, ◌&&◌, ◌||◌, ◌==◌, List, [], ◌∷◌, Option, Some, None, is_none}
use Rattle.version.specs.declared.version.Version.{Version as VersionImpl}
use Rattle.version.specs.declared.command.Transition.{Transition}
use Rattle.version.specs.Commands.{sends_model}
use Rattle.version.specs.Abstraction.{model_of, Becomes}
use Rattle.model.specs.Statuses.{Delete}
use Rattle.model.specs.Changes.{next_attempt}
use Rattle.model.specs.Conditions.{holds_of, is_active, has_no_attempt_left}
use Rattle.model.specs.Refusals.{npac, first_refusal}
use Rattle.pool.specs.declared.facts.BlockFacts.{BlockFacts}
use Rattle.pool.specs.Facts.{has_open_port}
use Rattle.model.specs.Windows.{WindowSet}

-- Whether the caller is neither the administrator nor the version's new provider.
abbrev pub is_others : (caller : ℕ) → VersionImpl → Bool
is_others caller v = not (caller == npac) && not (caller == v.new_provider.number)

abbrev pub release_tests : (caller : ℕ) → BlockFacts → List (ℕ × Bool)
release_tests caller facts =
    (3, is_none facts.code_holder) ∷ (10, is_none facts.donor || is_none facts.last)
    ∷ (11, holds_of (is_others caller) facts.last)
    ∷ (13, holds_of (λ v. not (is_active (model_of v).status)) facts.last)
    ∷ (23, has_open_port facts.numbers.now)
    ∷ (28, holds_of (λ v. has_no_attempt_left (model_of v).attempt) facts.last) ∷ []

-- The refusal of a release: the least that holds.
abbrev pub release_refusal : (caller : ℕ) → BlockFacts → Option ℕ
release_refusal caller facts = first_refusal (release_tests caller facts)

-- Holds if the block's last version sends a delete.
abbrev pub IsReleased : WindowSet → (minute : ℕ) → Option VersionImpl → Transition → Type 0
IsReleased present minute None transition = ⊥
IsReleased present minute (Some v) transition = (sends_model transition.sends ≡ Some Delete)
    × ((all_carriers : List ℕ) → Becomes (next_attempt present Delete all_carriers minute) v
    transition.version)
