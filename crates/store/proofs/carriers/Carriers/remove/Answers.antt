use Rattle.std.proofs.Common.{rules, None, ap, sym, ◌∙◌, subst}
use Rattle.std.specs.Prelude.{◌==◌, not}
use Rattle.std.proofs.lemmas.Fn.{filter_same}
use Rattle.numbers.specs.declared.spid.Spid.{Spid}
use Rattle.store.specs.Carriers.{registered_in, AreAscending}
use Rattle.store.specs.Maps.{set}
use Rattle.store.proofs.CarrierLists.{ascending-left, registered-left}
use Rattle.store.proofs.carriers.Carriers.remove.Goals as goal

pub invariant_of-self : goal.invariant_of-self
invariant_of-self c =
    let number = c.args.carrier.number in
    subst AreAscending (sym (filter_same _ (λ (k : Spid). not (number == k.number)) _
    (λ x r f' k. search rules) c.self.inside.all.items c.retain.new.self.items
    c.retain.ensures.filtered))
    (ascending-left c.self.inside.all.items number c.self.invariant)

pub returns : goal.returns
returns c =
    let number = c.args.carrier.number in
    ap registered_in (filter_same _ (λ (k : Spid). not (number == k.number)) _
    (λ x r f' k. search rules) c.self.inside.all.items c.retain.new.self.items
    c.retain.ensures.filtered)
    ∙ registered-left c.self.inside.all.items number
    ∙ ap (λ m. set m number None) c.self.view_is
