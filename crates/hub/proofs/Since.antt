-- Steps that begin with an earlier count of failures.
use Rattle.std.proofs.Common.{◌≤◌, ℕ, List, [], ◌∷◌, Option, Some, Bool, true, refl, subst, sym}
use Rattle.std.proofs.Math.Nat.{le_refl}
use Rattle.model.specs.Content.{Content}
use Rattle.model.specs.State.{State}
use Rattle.api.specs.Run.{Exchange}
use Rattle.api.proofs.StepLemmas.{step_since}
use Rattle.hub.specs.Schedules.{Chain, TakesSteps}

pub chain_since : (offered : Bool) (early from to : ℕ) (st : State) (xs : List Exchange)
    (end : State) → early ≤ from → Chain offered from to st xs end
    → (last : ℕ) × (last ≤ to) × Chain offered early last st xs end
chain_since offered early from to st [] end before chain =
    (early, subst (λ (n : ℕ). early ≤ n) (sym chain.0) before, (refl, chain.1))
chain_since offered early from to st (x ∷ xs) end before chain = (
  to,
  le_refl to,
  (
    chain.0,
    chain.1,
    step_since offered x.tick early from chain.0 st x.request x.body x.response chain.1 before
        chain.2,
    chain.3,
  ),
)

-- A count that rose before the first message rose during it.
pub steps_since : (offered : Bool) (before after : Option (List (Option ℕ)))
    (early from to : ℕ) (st : State) (new : Content) (Holds : List Exchange → Type 0)
    → early ≤ from → TakesSteps offered from to st new before after Holds
    → (last : ℕ) × (last ≤ to) × TakesSteps offered early last st new before after Holds
steps_since offered before after early from to st new Holds earlier was =
    let (last, within, chain) = chain_since offered early from to st was.exchanges was.end earlier
    was.chain in (
      last,
      within,
      record {
        exchanges = was.exchanges;
        end = was.end;
        chain = chain;
        refines = was.refines;
        supplied = was.supplied;
        holds = was.holds;
      },
    )
