use Rattle.std.proofs.Common.{arith}
use Rattle.store.proofs.Reserved.{ascending-from}
use Rattle.store.proofs.commit.are_ascending.Goals as goal

pub returns : goal.returns
returns c = λ yes. ascending-from c.args.versions.now
    (λ k d inside. c.loop-at.invariant.1 k d (let out = c.loop-at-test.false in
    omega (arith, inside, out)))
