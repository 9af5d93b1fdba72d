use Rattle.std.proofs.Common.{Some, refl, sym, subst}
use Rattle.numbers.specs.Abstraction.{subject_of}
use Rattle.settle.specs.declared.rows.NumberedRow.{NumberedRow}
use Rattle.settle.specs.Reads.{IsOpen}
use Rattle.register.proofs.current_versions.opened.Goals as goal

pub returns-in-Some-clause-value : goal.returns-in-Some-clause-value
returns-in-Some-clause-value g c = λ usable.
    let held = subst (λ (f : NumberedRow). IsOpen (g.S.StoreModel.content c.args.store.now)
    (subject_of c.args.subject) (Some f)) (sym c.found.view_is)
    (subst (IsOpen (g.S.StoreModel.content c.args.store.now) (subject_of c.args.subject))
    c.in-Some.is
    (c.in_ok-open_version.ensures.value usable)) in
    (c.found.inside.0.1.0, held.0, held.1, refl)
