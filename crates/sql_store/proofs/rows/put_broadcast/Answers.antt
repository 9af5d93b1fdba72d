use Rattle.std.proofs.Common.{arith, ◌<◌}
use Rattle.sqlite.specs.Held.{state}
use Rattle.sql_rows.specs.declared.statement.Table.TheVariants.{Broadcast}
use Rattle.sql_rows.specs.Content.{broadcast_params, broadcast_key_params}
use Rattle.sql_rows.proofs.PutLemmas.{put_broadcast}
use Rattle.sql_store.specs.Changes.{with_broadcast}
use Rattle.sql_rows.proofs.Backs.{broadcast_back}
use Rattle.sql_rows.proofs.BoundLemmas.{bound_broadcast, bound_broadcast_key}
use Rattle.settle.specs.Abstraction.{broadcast_key_of, broadcast_row_of}
use Rattle.sql_store.proofs.MadeLemmas.{keyed_as, put_made}
use Rattle.sql_rows.proofs.RowKeys.{broadcast_keyed}
use Rattle.sql_store.proofs.rows.put_broadcast.Goals as goal

pub returns : goal.returns
returns g c =
    let old = state g.S.Store c.args.conn.now in
    let new = state g.S.Store c.replace.new.conn in
    let k = broadcast_key_of c.args.key in
    let b = broadcast_row_of c.args.broadcast.now in
    let low : c.args.key.id < 9223372036854775808 =
    grind (arith, c.if-key-ge9223372036854775808.false) in
    let few : c.args.key.attempt < 9223372036854775808 =
    grind (arith, c.if-key-ge9223372036854775808-2.false) in
    put_made old new Broadcast (broadcast_key_params k) _ (broadcast_params k b) _
    (with_broadcast k b) (bound_broadcast_key _ k c.broadcast_key-columns.ensures)
    (bound_broadcast _ k b c.broadcast_params-params.ensures)
    c.in_ok-replace.ensures (λ shaped did. put_broadcast old.now new.now shaped k b
    (λ rowid. broadcast_back rowid c.args.key c.args.broadcast.now low few) did)

pub replace-requires : goal.replace-requires
replace-requires g c =
    let k = broadcast_key_of c.args.key in
    let b = broadcast_row_of c.args.broadcast.now in
    keyed_as Broadcast (broadcast_key_params k) _ (broadcast_params k b) _
    (bound_broadcast_key _ k c.broadcast_key-columns.ensures)
    (bound_broadcast _ k b c.broadcast_params-params.ensures) (broadcast_keyed k b)
