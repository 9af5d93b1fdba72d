-- What a content refines after some calls, and after the next ones.
use Rattle.std.proofs.Common.{◌≡◌, List, [], ◌∷◌, ◌++◌, refl, sym, subst}
use Rattle.model.specs.Content.{Content}
use Rattle.model.specs.Machine.{next, state_after}
use Rattle.model.specs.State.{State}
use Rattle.model.specs.Refusals.{Input}
use Rattle.register.specs.Refinement.{Refines}
use Rattle.api.specs.Serving.{RefinesReachable}

after_both : (st : State) (first then : List Input)
    → state_after st (first ++ then) ≡ state_after (state_after st first) then
after_both st [] then = refl
after_both st (input ∷ first) then = after_both (next st input) first then

-- The state after one call, and after the next.
pub follows_then : (st : State) (mid new : Content) → RefinesReachable st mid
    → ((later : State) → Refines mid later → RefinesReachable later new) → RefinesReachable st new
follows_then st mid new before behind =
    let after = behind (state_after st before.0) before.1 in
    (before.0 ++ after.0, subst (Refines new) (sym (after_both st before.0 after.0)) after.1)
