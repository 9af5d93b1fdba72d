use Rattle.std.proofs.Common.{◌∙◌, ap}
use Rattle.std.specs.Prelude.{map}
use Rattle.std.specs.FinMap.{keys}
use Rattle.settle.specs.Abstraction.{spid_of}
use Rattle.store.proofs.CarrierLists.{keys-are}
use Rattle.store.proofs.carriers.Carriers.as_slice.Goals as goal

pub returns : goal.returns
returns c =
    ap (map spid_of) c.deref.ensures.value
    ∙ keys-are c.self.inside.all.items c.self.invariant
    ∙ ap keys c.self.view_is
