use Rattle.std.proofs.Common.{None, sym, subst}
use Rattle.settle.specs.Abstraction.{wait_key_of}
use Rattle.store.specs.Maps.{set}
use Rattle.store.specs.QueueRows.{AreCursors}
use Rattle.store.proofs.QueueOrder.{cursors-kept, fewer-taken}
use Rattle.store.proofs.queues.Queues.delete.Goals as goal

pub invariant_of-self : goal.invariant_of-self
invariant_of-self c = (
  subst (AreCursors c.self.inside.cursors.entries) (sym c.delete.ensures)
      (cursors-kept c.self.inside.cursors.entries c.self.inside.waits
      (set c.self.inside.waits (wait_key_of c.args.key) None)
      (fewer-taken c.self.inside.waits (wait_key_of c.args.key)) c.self.invariant.0),
  c.self.invariant.1,
)
