use Rattle.std.proofs.Common.{ap}
use Rattle.std.specs.Ordering.{eq_by_cmp}
use Rattle.store.specs.WaitRows.{download_cmp}
use Rattle.store.specs.QueueRows.{queue_key_of}
use Rattle.store.proofs.about.Broadcasts.one.Goals as goal

pub returns : goal.returns
returns c q =
    ap (λ m. eq_by_cmp download_cmp (record (queue_key_of c.args.key) { minute = m }) q)
    c.of.ensures
