use Rattle.model.specs.Refusals.{Knows}
use Rattle.api.proofs.StepLemmas.{away_or_not, blamed, known_or_not}
use Rattle.register.proofs.Asking.Unmoved.{kept}
use Rattle.api.proofs.call.admit.Goals as goal

pub returns-in-Number-clause-kept : goal.returns-in-Number-clause-kept
returns-in-Number-clause-kept g c =
    λ u. kept _ _ c.args.caller.number Knows _ (c.knows.ensures.answers u)

pub returns-in-Number-clause-ok : goal.returns-in-Number-clause-ok
returns-in-Number-clause-ok g c = rw c.in-Number.is
    (known_or_not (g.S.StoreModel.IsUsable c.knows.new.self.store) c.knows.result
    (g.S.StoreModel.content c.args.register.now.store)
    (g.S.StoreModel.content c.knows.new.self.store)
    c.args.caller.number c.in-Number.tn.number c.knows.ensures.answers)

pub returns-in-Number-clause-err : goal.returns-in-Number-clause-err
returns-in-Number-clause-err g c = rw c.in-Number.is
    (away_or_not (g.S.StoreModel.IsUsable c.knows.new.self.store) c.knows.result
    (g.S.StoreModel.failed c.args.register.now.store) (g.S.StoreModel.failed c.knows.new.self.store)
    (g.S.StoreModel.content c.args.register.now.store)
    (g.S.StoreModel.content c.knows.new.self.store)
    c.args.caller.number c.in-Number.tn.number
    c.knows.ensures.answers (blamed c.knows.ensures.preserves))
