use Rattle.store.proofs.CarrierLists.{AreLookedAt}
use Rattle.store.proofs.carriers.is_listed.Given as goal

-- Either a carrier looked at has the number, or it is looked for among the rest.
abbrev pub invariant-loop-each : goal.invariant-loop-each
invariant-loop-each l = AreLookedAt l.all l.number l.each-index l.is_listed
