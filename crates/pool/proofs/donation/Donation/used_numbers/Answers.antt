-- Each inserted line adds its number; after the last, they are those of the definitions.
use Rattle.std.proofs.Common.{refl}
use Rattle.pool.proofs.Rising.{named-more, all-named}
use Rattle.pool.proofs.donation.Donation.used_numbers.Goals as goal

pub loop-line-preserved : goal.loop-line-preserved
loop-line-preserved c =
    named-more _ (λ a b. refl) c.args.self.now.block.number c.loop-line.used.keys
    c.insert.new.self.keys c.tn.result c.args.self.now.used.now c.loop-line.line-index
    c.line-item.result
    c.in_ok-insert.ensures.keys c.tn.ensures c.loop-line-test.true c.line-item.is
    c.loop-line.invariant

pub returns : goal.returns
returns c =
    all-named c.args.self.now.block.number c.loop-line.used.keys c.args.self.now.used.now
    c.loop-line.line-index c.loop-line-test.false c.loop-line.invariant
