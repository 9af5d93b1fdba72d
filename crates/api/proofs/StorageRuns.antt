-- If the device does not fail during a run, no response of the run is `storage`.
use Rattle.std.proofs.Common.{◌≡◌, ◌≢◌, ◌≤◌, ℕ, Bool, List, [], ◌∷◌, subst, arith}
use Rattle.std.proofs.Math.Nat.{le_trans}
use Rattle.std.proofs.lemmas.List.Elements.{All-nil, All-cons}
use Rattle.std.specs.Prelude.{All}
use Rattle.settle.specs.Reads.{HasDeviceFailed}
use Rattle.model.specs.State.{State}
use Rattle.json_api.specs.RefusalTexts.{refusal_text}
use Rattle.api.specs.Run.{Exchange, Run}
use Rattle.api.specs.Step.{Step}
use Rattle.api.proofs.Risen.{risen_until}
use Rattle.settle.proofs.Risen.{risen-since}
use Rattle.api.proofs.StorageLemmas.{storage_tells}

run_rises : (offered : Bool) (from to : ℕ) (st end : State) (input rest : List ℕ)
    (xs : List Exchange) → Run offered from to st input xs end rest → from ≤ to
run_rises offered from to st end input rest [] run = let same : to ≡ from = run.0 in
    omega (arith, same)
run_rises offered from to st end input rest (x ∷ xs) run =
    le_trans run.5.rises (run_rises offered run.0 to run.1 end run.2 rest xs run.6)

-- Holds if the exchange has another response.
abbrev IsClear : Exchange → Type 0
IsClear x = x.response ≢ refusal_text 29

pub stays_clear : (offered : Bool) (from to : ℕ) (st end : State) (input rest : List ℕ)
    (xs : List Exchange) → Run offered from to st input xs end rest → ¬ (HasDeviceFailed from to)
    → All IsClear xs
stays_clear offered from to st end input rest [] run calm = All-nil IsClear
stays_clear offered from to st end input rest (x ∷ xs) run calm =
    let after : run.0 ≤ to = run_rises offered run.0 to run.1 end run.2 rest xs run.6 in
    All-cons IsClear x xs
    (λ e. calm (risen_until from run.0 to (storage_tells offered x.tick from run.0 st x.request
    x.body run.1 (subst (λ (t : List ℕ). Step offered x.tick from run.0 st x.request x.body t run.1)
    e run.5)).0 after))
    (stays_clear offered run.0 to run.1 end run.2 rest xs run.6
    (λ risen. calm (risen-since from run.0 to run.5.rises after risen)))
