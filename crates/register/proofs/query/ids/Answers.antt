use Rattle.std.proofs.Common.{subst, ◌∙◌}
use Rattle.model.specs.Content.{Content}
use Rattle.numbers.specs.Subjects.{Number}
use Rattle.settle.specs.Reads.{IsOpen}
use Rattle.register.proofs.Asking.IdsFound.{answers_ids}
use Rattle.register.proofs.query.ids.Goals as goal

pub returns-clause-answers : goal.returns-clause-answers
returns-clause-answers g c = λ usable caller.
    let second = c.in_ok-opened.ensures.looks_up.read_only.same usable in
    let first = c.in_ok-in_force.ensures.looks_up.read_only.same second.0 in
    answers_ids (g.S.StoreModel.content c.args.store.now)
    (g.S.StoreModel.content c.open_version.new.self)
    caller c.args.tn.number c.in_ok-in_force.in_force c.in_ok-opened.opened c.id_of.result
    c.id_of-2.result
    c.id_of.ensures c.id_of-2.ensures (second.1 ∙ first.1) (c.in_ok-in_force.ensures.value second.0)
    (subst (λ (m : Content). IsOpen m (Number c.args.tn.number) c.in_ok-opened.opened) first.1
    (c.in_ok-opened.ensures.value usable))
