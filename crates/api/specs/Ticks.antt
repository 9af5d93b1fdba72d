-- The minutes supplied, one for each message.
use Rattle.std.specs.Prelude.{◌≡◌, ℕ, List, [], ◌∷◌, Option, Some, None, ⊤}

-- The first of the known minutes; after their end, none.
abbrev pub first_tick : List (Option ℕ) → Option ℕ
first_tick [] = None
first_tick (tick ∷ ticks) = tick

-- The known minutes after the first.
abbrev pub later_ticks : List (Option ℕ) → List (Option ℕ)
later_ticks [] = []
later_ticks (tick ∷ ticks) = ticks

-- Holds if, of minutes that are known, the first is supplied and the others remain.
abbrev pub ConsumesTick : (before : Option (List (Option ℕ))) → (tick : Option ℕ)
    → (after : Option (List (Option ℕ))) → Type 0
ConsumesTick None tick after = ⊤
ConsumesTick (Some ticks) tick after =
    (tick ≡ first_tick ticks) × (after ≡ Some (later_ticks ticks))

-- Holds if the minutes are supplied one after another.
abbrev pub ConsumesTicks : (before : Option (List (Option ℕ))) → (ticks : List (Option ℕ))
    → (after : Option (List (Option ℕ))) → Type 0
ConsumesTicks None ticks after = ⊤
ConsumesTicks (Some known) [] after = after ≡ Some known
ConsumesTicks (Some known) (tick ∷ ticks) after =
    (tick ≡ first_tick known) × ConsumesTicks (Some (later_ticks known)) ticks after
