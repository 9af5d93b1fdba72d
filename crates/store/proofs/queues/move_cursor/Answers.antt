use Rattle.std.proofs.Common.{rules}
use Rattle.store.proofs.QueueOrder.{moved, up-to-moved}
use Rattle.store.proofs.queues.move_cursor.Goals as goal

pub returns-then-ne-clause-cursors : goal.returns-then-ne-clause-cursors
returns-then-ne-clause-cursors c =
    moved c.insert.result c.args.cursors.now.entries c.insert.new.self.entries
    c.args.carrier.number c.first_from-first.result c.args.waits.now (search rules) (search rules)
    c.first_from-first.ensures.own c.requires

pub returns-then-ne-clause-latest : goal.returns-then-ne-clause-latest
returns-then-ne-clause-latest c = λ latest are low.
    up-to-moved c.insert.result c.args.cursors.now.entries c.insert.new.self.entries
    c.args.carrier.number c.first_from-first.result latest (search rules) (search rules) low are
