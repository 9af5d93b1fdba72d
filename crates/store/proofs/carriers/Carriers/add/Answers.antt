use Rattle.std.proofs.Common.{rules, ◌≡◌, Some, ap, sym, ◌∙◌, subst}
use Rattle.std.specs.Cmp.{nat_cmp_total}
use Rattle.std.specs.FinMap.{get, nat_cmp-IsAntisymmetric}
use Rattle.std.specs.List.{insert}
use Rattle.store.specs.Carriers.{registered_in, AreAscending, IsPlaceFor}
use Rattle.store.specs.Maps.{set}
use Rattle.store.proofs.CarrierLists.{ascending-added, registered-added}
use Rattle.store.proofs.Maps.{set-same}
use Rattle.store.proofs.carriers.Carriers.add.Goals as goal

pub invariant_of-self-in-Err : goal.invariant_of-self-in-Err
invariant_of-self-in-Err c =
    let all = c.self.inside.all.items in
    let at : IsPlaceFor all c.args.carrier.number c.in-Err.place =
    subst (λ cs. IsPlaceFor cs c.args.carrier.number c.in-Err.place) c.deref.ensures.value
    c.in-Err.ensures.place in
    let is : c.insert.new.self.items ≡ insert all c.in-Err.place c.args.carrier = search rules in
    subst AreAscending (sym is)
    (ascending-added all c.in-Err.place c.args.carrier c.self.invariant at)

pub returns-in-Ok-clause-ok : goal.returns-in-Ok-clause-ok
returns-in-Ok-clause-ok c =
    let number = c.args.carrier.number in
    let there : get (registered_in c.self.inside.all.items) number ≡ Some tt =
    subst (λ cs. get (registered_in cs) number ≡ Some tt) c.deref.ensures.value
    c.in-Ok.ensures.found in
    sym (set-same nat_cmp_total nat_cmp-IsAntisymmetric c.args.self.now number (Some tt)
    (ap (λ m. get m number) (sym c.self.view_is) ∙ there))

pub returns-in_ok-insert-in-Err-clause-ok : goal.returns-in_ok-insert-in-Err-clause-ok
returns-in_ok-insert-in-Err-clause-ok c =
    let all = c.self.inside.all.items in
    let at : IsPlaceFor all c.args.carrier.number c.in-Err.place =
    subst (λ cs. IsPlaceFor cs c.args.carrier.number c.in-Err.place) c.deref.ensures.value
    c.in-Err.ensures.place in
    let is : c.insert.new.self.items ≡ insert all c.in-Err.place c.args.carrier = search rules in
    ap registered_in is ∙ registered-added all c.in-Err.place c.args.carrier at
    ∙ ap (λ m. set m c.args.carrier.number (Some tt)) c.self.view_is
