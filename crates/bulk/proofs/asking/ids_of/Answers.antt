use Rattle.model.specs.Refusals.{Ids}
use Rattle.bulk.proofs.Asked.{ids_are}
use Rattle.register.proofs.Asking.Unmoved.{kept}
use Rattle.bulk.proofs.asking.ids_of.Goals as goal

pub returns-in-Ok-clause-ids : goal.returns-in-Ok-clause-ids
returns-in-Ok-clause-ids g c =
    λ u st s. ids_are st c.args.tn.number c.in-Ok.ids.in_force c.in-Ok.ids.opened
    (c.in-Ok.ensures.answers u 0 st s).0

pub returns-in-Ok-clause-kept : goal.returns-in-Ok-clause-kept
returns-in-Ok-clause-kept g c = λ u. kept _ _ 0 (Ids c.args.tn.number) _ (c.ids.ensures.answers u 0)

pub returns-in-Err-clause-kept : goal.returns-in-Err-clause-kept
returns-in-Err-clause-kept g c =
    λ u. kept _ _ 0 (Ids c.args.tn.number) _ (c.ids.ensures.answers u 0)
