use Rattle.std.proofs.Common.{rules}
use Rattle.sqlite.specs.Held.{state}
use Rattle.sql_store.specs.Changes.{with_wait}
use Rattle.settle.specs.Abstraction.{wait_key_of}
use Rattle.numbers.specs.Abstraction.{subject_of}
use Rattle.sql_store.proofs.CallLemmas.{goes_then}
use Rattle.sql_store.proofs.Changed.{one_more}
use Rattle.sql_store.proofs.commit.put_waits.Goals as goal

pub loop-row-preserved : goal.loop-row-preserved
loop-row-preserved g c =
    let a = state g.S.Store c.args.conn.now in
    let b = state g.S.Store c.loop-row.conn in
    let d = state g.S.Store c.put_wait.new.conn in
    record {
      goes = goes_then a b d _ _ _ _ c.loop-row.invariant.goes c.in_ok-put_wait.ensures
          (λ m. one_more (λ p. with_wait (wait_key_of p.0) (subject_of p.1)) c.args.rows.now
          c.loop-row.row-index c.row-item.result c.loop-row-test.true (search rules) m);
    }
