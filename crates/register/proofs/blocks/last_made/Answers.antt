use Rattle.std.proofs.Common.{◌≡◌, Some, refl, sym, ap, ◌∙◌, subst}
use Rattle.std.specs.FinMap.{get}
use Rattle.model.specs.Content.{VersionRow}
use Rattle.settle.specs.Abstraction.{version_row_of}
use Rattle.register.specs.Blocks.{IsLast}
use Rattle.register.proofs.blocks.last_made.Goals as goal

pub returns-clause-value : goal.returns-clause-value
returns-clause-value g c = λ usable.
    let found : get (g.S.StoreModel.content c.args.store.now).versions c.in-Some.id
    ≡ Some (version_row_of c.row.inside) =
    sym (c.in_ok-row.ensures.value usable) ∙ c.in-Some-2.is ∙ ap (λ (r : VersionRow). Some r)
    (sym c.row.view_is) in
    subst (λ o. IsLast (g.S.StoreModel.content c.args.store.now) o
    (Some (c.in-Some.id, c.row.inside.version))) (sym c.in-Some.is)
    (refl, c.row.inside, found, refl)
