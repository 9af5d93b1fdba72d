use Rattle.store.specs.Ranks.{subject_at}
use Rattle.store.proofs.SharedWaits.{cursors-taken}
use Rattle.store.proofs.queues.Queues.take_shared.Goals as goal

pub invariant_of-self : goal.invariant_of-self
invariant_of-self c = (
  cursors-taken c.self.inside.cursors.entries c.args.registered.now c.self.inside.waits
      c.take_shared.new.self (subject_at c.args.rank) c.args.carrier.number c.args.id
      c.args.attempt c.take_shared.result c.take_shared.ensures.none c.take_shared.ensures.some
      c.self.invariant.0,
  c.self.invariant.1,
)
