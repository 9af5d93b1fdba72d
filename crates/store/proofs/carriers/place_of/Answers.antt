use Rattle.std.proofs.Common.{rules}
use Rattle.std.proofs.lemmas.List.Sorted.{answers_always}
use Rattle.numbers.specs.declared.spid.Spid.{Spid}
use Rattle.store.proofs.CarrierLists.{searched}
use Rattle.store.proofs.carriers.place_of.Goals as goal

pub returns : goal.returns
returns c =
    let is = c.binary_search_by_key.ensures in
    searched c.args.all.now c.args.number c.binary_search_by_key.result c.requires is.bound
    (is.position (λ (each : Spid). each.number)
    (answers_always _ _ _ (λ f a r g called. search rules)))
