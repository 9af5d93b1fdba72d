use Rattle.std.proofs.Common.{Some, refl, sym, subst}
use Rattle.numbers.specs.Abstraction.{subject_of}
use Rattle.settle.specs.declared.rows.NumberedRow.{NumberedRow}
use Rattle.settle.specs.Reads.{IsInForce}
use Rattle.register.proofs.current_versions.in_force.Goals as goal

pub returns-in-Some-clause-value : goal.returns-in-Some-clause-value
returns-in-Some-clause-value g c = λ usable.
    let held = subst (λ (f : NumberedRow). IsInForce (g.S.StoreModel.content c.args.store.now)
    (subject_of c.args.subject) (Some f)) (sym c.found.view_is)
    (subst (IsInForce (g.S.StoreModel.content c.args.store.now) (subject_of c.args.subject))
    c.in-Some.is
    (c.in_ok-version_in_force.ensures.value usable)) in (
      Some (c.found.inside.0.0, c.found.inside.0.1.0.version),
      (c.found.inside.0.1.0, held.0, held.1, refl),
      refl,
    )
