-- The decision of a request, before anything is written.
use Rattle.std.specs.Prelude.{Some, Result, IfOk, IfErr}
use Rattle.model.specs.Content.{Content}
use Rattle.model.specs.RefusalNumbers.{number_of}
use Rattle.model.specs.Refusals.{Input}
use Rattle.model.specs.declared.refusal.Refusal.{Refusal}
use Rattle.settle.specs.Changes.{Changes, AppliesChanges}
use Rattle.requests.specs.Calls.{refused_with, reply_of}
use Rattle.requests.specs.declared.call.Reply.{Reply}
use Rattle.register.specs.Settling.{SimulatesSettledStep}

-- Holds if the machine refuses so, or the refusal is for a failed device or allocation.
abbrev pub Refuses : Content → Input → Refusal → Type 0
Refuses c input refusal = SimulatesSettledStep c c input (refused_with (number_of refusal))

-- Holds if a refusal is one of `Refuses`, and an accepted request has the machine's reply and
-- changes that lead to the machine's next state.
pub record Decides (c : Content) (input : Input) (changes : Changes)
    (result : Result Reply Refusal) : Type 0 where
  pub refused : IfErr result (Refuses c input)
  pub accepted : IfOk result (λ reply. (m : Content) → AppliesChanges changes c m →
      SimulatesSettledStep c m input (Some (reply_of reply)))
