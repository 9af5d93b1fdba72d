use Rattle.sqlite.specs.Held.{state}
use Rattle.sql_rows.specs.declared.statement.Table.TheVariants.{Wait}
use Rattle.sql_rows.specs.Content.{wait_key_params}
use Rattle.sql_rows.proofs.PutLemmas.{take_wait}
use Rattle.sql_store.specs.Changes.{without_wait}
use Rattle.sql_rows.proofs.BoundLemmas.{bound_wait_key}
use Rattle.settle.specs.Abstraction.{wait_key_of}
use Rattle.sql_store.proofs.MadeLemmas.{take_made}
use Rattle.sql_store.proofs.rows.delete_wait.Goals as goal

pub returns : goal.returns
returns g c =
    let old = state g.S.Store c.args.conn.now in
    let new = state g.S.Store c.take.new.conn in
    let k = wait_key_of c.args.key in
    take_made old new Wait (wait_key_params k) _ (without_wait k)
    (bound_wait_key _ k c.wait_key.ensures) c.in_ok-take.ensures
    (λ shaped did. take_wait old.now new.now shaped c.args.key did)
