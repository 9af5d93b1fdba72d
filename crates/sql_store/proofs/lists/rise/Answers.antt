use Rattle.std.proofs.Common.{arith}
use Rattle.sql_store.proofs.BroadcastLemmas.{pairs_rise}
use Rattle.sql_store.proofs.lists.rise.Goals as goal

pub returns : goal.returns
returns c = λ yes. pairs_rise c.args.broadcasts.now c.loop-at.at (let out = c.loop-at-test.false in
    omega arith) c.loop-at.invariant.1
