use Rattle.store.specs.QueueRows.{has_key}
use Rattle.store.proofs.WaitsKept.{none-agree, none-wait}
use Rattle.store.proofs.QueueOrder.{no-keys}
use Rattle.store.proofs.waits.Waits.new.Goals as goal

pub invariant_of-result : goal.invariant_of-result
invariant_of-result c = (
  none-agree c.with_hasher.result.entries c.with_hasher-2.result.entries c.with_hasher.ensures.empty
      c.with_hasher-2.ensures.empty,
  no-keys c.with_hasher.result.entries (has_key c.new-3.result) c.with_hasher.ensures.empty,
)

pub returns : goal.returns
returns c = none-wait c.with_hasher.result.entries c.with_hasher.ensures.empty
