use Rattle.std.proofs.Common.{◌⊎◌, ℕ, List, sym, subst}
use Rattle.api.specs.Step.{IsUnavailableText}
use Rattle.api.proofs.StepLemmas.{step_told}
use Rattle.api.proofs.Withheld.{failed_or}
use Rattle.api.proofs.call.write_response.Goals as goal

pub returns-in-Ok-clause-step : goal.returns-in-Ok-clause-step
returns-in-Ok-clause-step g c = λ u st s.
    step_told c.args.clock (g.S.StoreModel.failed c.args.register.now.store)
    (g.S.StoreModel.failed c.reply.new.register.store)
    (g.S.StoreModel.content c.reply.new.register.store) st
    c.args.request.now c.args.body.now _ _ c.put_success.ensures.text (c.in-Ok.ensures.step u st s)

pub returns-in-Err-clause-step : goal.returns-in-Err-clause-step
returns-in-Err-clause-step g c = λ u st s.
    step_told c.args.clock (g.S.StoreModel.failed c.args.register.now.store)
    (g.S.StoreModel.failed c.reply.new.register.store)
    (g.S.StoreModel.content c.reply.new.register.store) st
    c.args.request.now c.args.body.now _ _ c.put_refused.ensures.text (c.in-Err.ensures.step u st s)

pub returns-in-Err-clause-stays : goal.returns-in-Err-clause-stays
returns-in-Err-clause-stays g c = λ usable honest.
    subst (λ (t : List ℕ). IsUnavailableText t ⊎ g.S.StoreModel.IsUsable c.reply.new.register.store)
    (sym c.put_refused.ensures.text)
    (failed_or c.in-Err.failure (λ replied. c.in-Err.ensures.preserves.stays replied usable honest))
