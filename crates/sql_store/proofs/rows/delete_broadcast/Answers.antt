use Rattle.sqlite.specs.Held.{state}
use Rattle.sql_rows.specs.declared.statement.Table.TheVariants.{Broadcast}
use Rattle.sql_rows.specs.Content.{broadcast_key_params}
use Rattle.sql_rows.proofs.PutLemmas.{take_broadcast}
use Rattle.sql_store.specs.Changes.{without_broadcast}
use Rattle.sql_rows.proofs.BoundLemmas.{bound_broadcast_key}
use Rattle.settle.specs.Abstraction.{broadcast_key_of}
use Rattle.sql_store.proofs.MadeLemmas.{take_made}
use Rattle.sql_store.proofs.rows.delete_broadcast.Goals as goal

pub returns : goal.returns
returns g c =
    let old = state g.S.Store c.args.conn.now in
    let new = state g.S.Store c.take.new.conn in
    let k = broadcast_key_of c.args.key in
    take_made old new Broadcast (broadcast_key_params k) _ (without_broadcast k)
    (bound_broadcast_key _ k c.broadcast_key.ensures) c.in_ok-take.ensures
    (λ shaped did. take_broadcast old.now new.now shaped k did)
