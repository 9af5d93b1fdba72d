use Rattle.store.proofs.BroadcastRows.{same-broadcasts}
use Rattle.store.proofs.commit.reserve_broadcasts.Goals as goal

pub returns-clause-same : goal.returns-clause-same
returns-clause-same c =
    same-broadcasts c.args.table.now c.reserve.new.self c.reserve.ensures.entries.2
