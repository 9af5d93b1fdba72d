use Rattle.std.proofs.Common.{arith}
use Rattle.sql_store.proofs.RoutedLemmas.{rows_rise}
use Rattle.sql_store.proofs.routed.rise.Goals as goal

pub returns : goal.returns
returns c = λ yes. rows_rise c.args.rows.now c.loop-at.at (let out = c.loop-at-test.false in
    omega arith) c.loop-at.invariant.1
