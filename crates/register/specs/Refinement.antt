-- The refinement of the history machine: what a call promises in each state.
use Rattle.std.specs.Prelude.{◌≡◌, true, Option, Some, None, is_some}
use Rattle.model.specs.State.{State, first_state}
use Rattle.model.specs.Refusals.{Input}
use Rattle.model.specs.Machine.{Reply, out, next}
use Rattle.model.specs.Windows.{Windows, AreWindows}
use Rattle.model.specs.Content.{Content, Represents, empty_content}

-- Holds if the content represents the state and has the clock's row, which the opening of a store
-- writes.
pub record Refines (c : Content) (st : State) : Type 0 where
  pub represents : Represents c st
  pub written : is_some c.clock ≡ true

-- Holds if the reply is the machine's and the content is the machine's next state. Without a reply,
-- for a failed device or allocation, holds if the content still refines each state.
abbrev pub SimulatesStep : (old new : Content) → Input → Option Reply → Type 0
SimulatesStep old new input None = (st : State) → Refines old st → Refines new st
SimulatesStep old new input (Some reply) = (st : State) → Refines old st → (reply ≡ out st input)
    × Refines new (next st input)

-- Holds if an empty content represents the first state of every set of windows.
abbrev pub EmptyStoresRepresentFirst : Type 0
EmptyStoresRepresentFirst = (w : Windows) → AreWindows w → Represents empty_content (first_state w)
