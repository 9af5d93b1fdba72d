use Rattle.std.proofs.Common.{◌∙◌, sym, map, ap, Err}
use Rattle.std.proofs.lemmas.List.{length-map}
use Rattle.model.specs.Refusals.{AllInForce}
use Rattle.requests.specs.Calls.{in_force_of}
use Rattle.api.proofs.StepLemmas.{blamed, rows_counted, rows_short}
use Rattle.register.proofs.Asking.Unmoved.{kept}
use Rattle.api.proofs.call.count_rows.Goals as goal

pub returns-in-Ok-clause-kept : goal.returns-in-Ok-clause-kept
returns-in-Ok-clause-kept g c = λ u. kept _ _ 0 AllInForce _ (c.in_force.ensures.answers u)

pub returns-in-Ok-clause-count : goal.returns-in-Ok-clause-count
returns-in-Ok-clause-count g c =
    λ u st s. rows_counted (g.S.StoreModel.content c.args.register.now.store)
    (g.S.StoreModel.content c.in_force.new.self.store) (map in_force_of c.in-Ok.rows.items)
    (c.in-Ok.ensures.answers u) st s ∙ length-map c.in-Ok.rows.items in_force_of
    ∙ sym c.in-Ok.rows.ok.0 ∙ sym c.len.ensures

pub returns-in-Err-clause-kept : goal.returns-in-Err-clause-kept
returns-in-Err-clause-kept g c = λ u. kept _ _ 0 AllInForce _ (c.in_force.ensures.answers u)

pub returns-in-Err-clause-unavailable : goal.returns-in-Err-clause-unavailable
returns-in-Err-clause-unavailable g c =
    λ u. rows_short c.in-Err.refusal (g.S.StoreModel.failed c.args.register.now.store)
    (g.S.StoreModel.failed c.in_force.new.self.store)
    (g.S.StoreModel.content c.args.register.now.store)
    (g.S.StoreModel.content c.in_force.new.self.store) (c.in-Err.ensures.answers u)
    (λ st s e. blamed c.in-Err.ensures.preserves u st s (ap Err e))
