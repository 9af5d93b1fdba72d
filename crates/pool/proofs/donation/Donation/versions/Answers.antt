-- One more version gets the next id.
use Rattle.std.proofs.Common.{arith}
use Rattle.pool.proofs.Numbered.{next-made}
use Rattle.pool.proofs.donation.Donation.versions.Goals as goal
use Rattle.version.specs.Abstraction.{set_of}

pub loop-tn-preserved : goal.loop-tn-preserved
loop-tn-preserved c = record {
  next = omega (arith, c.loop-tn.invariant.next);
  made = next-made (set_of c.args.present.now) c.args.donor.number c.args.minute.number
      c.args.self.now c.args.first_id c.args.numbers.now c.loop-tn.tn-index c.tn-item.result
      c.loop-tn.id c.protective_version.result
      c.loop-tn.versions.items c.push.new.self.items c.in_ok-push.ensures.items c.loop-tn-test.true
      c.tn-item.is c.loop-tn.invariant.next c.loop-tn.invariant.made c.protective_version.ensures;
}
