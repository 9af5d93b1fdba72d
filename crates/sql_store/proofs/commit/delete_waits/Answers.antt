use Rattle.std.proofs.Common.{rules}
use Rattle.sqlite.specs.Held.{state}
use Rattle.sql_store.specs.Changes.{without_wait}
use Rattle.settle.specs.Abstraction.{wait_key_of}
use Rattle.sql_store.proofs.CallLemmas.{goes_then}
use Rattle.sql_store.proofs.Changed.{one_more}
use Rattle.sql_store.proofs.commit.delete_waits.Goals as goal

pub loop-key-preserved : goal.loop-key-preserved
loop-key-preserved g c =
    let a = state g.S.Store c.args.conn.now in
    let b = state g.S.Store c.loop-key.conn in
    let d = state g.S.Store c.delete_wait.new.conn in
    record {
      goes = goes_then a b d _ _ _ _ c.loop-key.invariant.goes c.in_ok-delete_wait.ensures
          (λ m. one_more (λ k. without_wait (wait_key_of k)) c.args.keys.now c.loop-key.key-index
          c.key-item.result c.loop-key-test.true (search rules) m);
    }
