use Rattle.std.proofs.Common.{rules, ◌≡◌, sym, ◌∙◌, ap}
use Rattle.std.specs.Prelude.{◌==◌, not, filter}
use Rattle.std.specs.Global.{Vec}
use Rattle.std.proofs.lemmas.Fn.{filter_same}
use Rattle.numbers.specs.declared.spid.Spid.{Spid}
use Rattle.store.specs.WaitRows.{spids_of}
use Rattle.store.specs.declared.waiting.Waiting.{Waiting}
use Rattle.store.proofs.waiting.remove_carrier.Goals as goal

pub returns-in-Some-clause-carriers : goal.returns-in-Some-clause-carriers
returns-in-Some-clause-carriers c =
    let seen : c.as_slice.result.now ≡ c.retain.new.self.items = search rules in
    c.with_few-in-Some.ensures.carriers ∙ c.in-Some.ensures ∙ seen
    ∙ filter_same _ (λ (k : Spid). not (c.args.carrier.number == k.number)) _
    (λ x r f' k. search rules) c.deref_mut.result.now.items c.retain.new.self.items
    c.retain.ensures.filtered
    ∙ ap (λ (all : Vec Spid). filter (λ (k : Spid). not (c.args.carrier.number == k.number))
    all.items) c.deref_mut.ensures.value
    ∙ sym (ap (λ (few : Waiting). filter (λ (k : Spid). not (c.args.carrier.number == k.number))
    (spids_of few)) c.in-Many.is)

pub returns-in_default-clause-carriers : goal.returns-in_default-clause-carriers
returns-in_default-clause-carriers c =
    filter_same _ (λ (k : Spid). not (c.args.carrier.number == k.number)) _
    (λ x r f' k. search rules) c.deref_mut.result.now.items c.retain.new.self.items
    c.retain.ensures.filtered
    ∙ ap (λ (all : Vec Spid). filter (λ (k : Spid). not (c.args.carrier.number == k.number))
    all.items) c.deref_mut.ensures.value
    ∙ sym (ap (λ (few : Waiting). filter (λ (k : Spid). not (c.args.carrier.number == k.number))
    (spids_of few)) c.in-Many.is)
