-- The decision of a command at each exit, and the content after its changes.
use Rattle.std.proofs.Common.{◌≡◌, Some, refl, sym, subst}
use Rattle.std.specs.Prelude.{Result, Ok, Err, IfErr}
use Rattle.model.specs.Content.{Content}
use Rattle.model.specs.State.{State}
use Rattle.model.specs.RefusalNumbers.{number_of}
use Rattle.model.specs.Refusals.{Input, refusal}
use Rattle.model.specs.declared.refusal.Refusal.{Refusal}
use Rattle.settle.specs.Changes.{Changes, AppliesChanges, no_changes}
use Rattle.settle.specs.Faults.{refusal_of}
use Rattle.settle.specs.declared.store.StoreFault.{StoreFault}
use Rattle.requests.specs.Calls.{refused_with, replied, reply_of}
use Rattle.requests.specs.declared.call.Reply.{Reply as ReplyImpl}
use Rattle.register.specs.Refinement.{Refines}
use Rattle.register.specs.Deciding.{Decides, Refuses}
use Rattle.register.specs.Settling.{SimulatesSettledStep, AreSettled}
use Rattle.register.proofs.EveryCall.Composed.{answers_fault, answers_refused}

-- ---- exits

module _ (c : Content) (input : Input) (changes : Changes) (result : Result ReplyImpl Refusal) where
  pub decides_err : (r : Refusal) → result ≡ Err r → SimulatesSettledStep c c input
      (refused_with (number_of r)) → Decides c input changes result
  decides_err r is answers = subst (Decides c input changes) (sym is) (record {
    refused = answers;
    accepted = tt;
  })

  -- The decision by the clause of a refused call.
  pub decides_replied : (r : Refusal) → result ≡ Err r → SimulatesSettledStep c c input
      (replied reply_of result) → Decides c input changes result
  decides_replied r is answers = decides_err r is (subst (λ x. SimulatesSettledStep c c input
      (replied reply_of x)) is answers)

  -- The decision for a fault of the store.
  pub decides_fault : (fault : StoreFault) → result ≡ Err (refusal_of fault) →
      Decides c input changes result
  decides_fault fault is = decides_replied (refusal_of fault) is
      (answers_fault c c input reply_of result fault is refl)

-- The refusal for a fault of the store, before any decision.
pub refused_fault : {X : Type 0} (c : Content) (input : Input) (result : Result X Refusal)
    (fault : StoreFault) → result ≡ Err (refusal_of fault) → IfErr result (Refuses c input)
refused_fault c input result fault is = subst (λ x. IfErr x (Refuses c input)) (sym is)
    (decides_fault c input no_changes (Err (refusal_of fault)) fault refl).refused

-- The decision for a refusal of the machine.
pub decides_refused : (c : Content) (input : Input) (changes : Changes) (r : Refusal) →
    ((st : State) → Refines c st → AreSettled c st input → refusal st input ≡ Some (number_of r)) →
    Decides c input changes (Err r)
decides_refused c input changes r refused = record {
  refused = answers_refused c input
      (number_of r) refused;
  accepted = tt;
}

-- ---- the changes committed

pub carried_refused : (old new : Content) (input : Input) (changes : Changes)
    (result : Result ReplyImpl Refusal) (r : Refusal) → result ≡ Err r → new ≡ old →
    Decides old input changes (Err r) →
    SimulatesSettledStep old new input (replied reply_of result)
carried_refused old new input changes result r is same decides =
    subst (λ x. SimulatesSettledStep old new input (replied reply_of x)) (sym is)
    (subst (λ m. SimulatesSettledStep old m input (refused_with (number_of r)))
    (sym same) decides.refused)

pub carried : (old mid new : Content) (input : Input) (changes : Changes) (reply : ReplyImpl) →
    mid ≡ old → Decides old input changes (Ok reply) → AppliesChanges changes mid new →
    SimulatesSettledStep old new input (Some (reply_of reply))
carried old mid new input changes reply same decides changed = decides.accepted new
    (subst (λ m. AppliesChanges changes m new) same changed)
