-- What a crash may leave of a register when a call ends.
use Rattle.std.specs.Prelude.{◌⊎◌}
use Rattle.model.specs.Machine.{next}
use Rattle.model.specs.State.{State}
use Rattle.model.specs.Refusals.{Input}
use Rattle.model.specs.Content.{Content}
use Rattle.register.specs.Refinement.{Refines}
use Rattle.register.specs.Settling.{AreSettled}

-- Holds if `new` refines each state that `old` refines.
abbrev pub KeepsState : (old new : Content) → Type 0
KeepsState old new = (st : State) → Refines old st → Refines new st

-- Holds if, for each state that `old` refines, `new` refines it or the machine's next state.
abbrev pub KeepsOrTakesStep : Content → Input → Content → Type 0
KeepsOrTakesStep old input new = (st : State) → Refines old st → Refines new st
    ⊎ Refines new (next st input)

-- Holds if, with the subjects of the call settled, `new` refines the machine's next state.
abbrev pub TakesSettledStep : Content → Input → Content → Type 0
TakesSettledStep old input new = (st : State) → Refines old st → AreSettled old st input
    → Refines new (next st input)
