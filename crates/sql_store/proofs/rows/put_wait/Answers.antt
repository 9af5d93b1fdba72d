use Rattle.std.proofs.Common.{arith, ◌<◌}
use Rattle.sqlite.specs.Held.{state}
use Rattle.sql_rows.specs.declared.statement.Table.TheVariants.{Wait}
use Rattle.sql_rows.specs.Content.{wait_params, wait_key_params}
use Rattle.sql_rows.proofs.PutLemmas.{put_wait}
use Rattle.sql_store.specs.Changes.{with_wait}
use Rattle.sql_rows.proofs.Backs.{wait_back}
use Rattle.sql_rows.proofs.BoundLemmas.{bound_wait, bound_wait_key}
use Rattle.settle.specs.Abstraction.{wait_key_of}
use Rattle.numbers.specs.Abstraction.{subject_of}
use Rattle.sql_store.proofs.MadeLemmas.{keyed_as, put_made}
use Rattle.sql_rows.proofs.RowKeys.{wait_keyed}
use Rattle.sql_store.proofs.rows.put_wait.Goals as goal

pub returns : goal.returns
returns g c =
    let old = state g.S.Store c.args.conn.now in
    let new = state g.S.Store c.replace.new.conn in
    let k = wait_key_of c.args.key in
    let s = subject_of c.args.of in
    let low : c.args.key.id < 9223372036854775808 =
    grind (arith, c.if-key-ge9223372036854775808.false) in
    let few : c.args.key.attempt < 9223372036854775808 =
    grind (arith, c.if-key-ge9223372036854775808-2.false) in
    put_made old new Wait (wait_key_params k) _ (wait_params k s) _ (with_wait k s)
    (bound_wait_key _ k c.wait_key-columns.ensures) (bound_wait _ k s c.wait_params-params.ensures)
    c.in_ok-replace.ensures (λ shaped did. put_wait old.now new.now shaped c.args.key s
    (λ rowid. wait_back rowid c.args.key c.args.of low few) did)

pub replace-requires : goal.replace-requires
replace-requires g c =
    let k = wait_key_of c.args.key in
    let s = subject_of c.args.of in
    keyed_as Wait (wait_key_params k) _ (wait_params k s) _
    (bound_wait_key _ k c.wait_key-columns.ensures) (bound_wait _ k s c.wait_params-params.ensures)
    (wait_keyed k s)
