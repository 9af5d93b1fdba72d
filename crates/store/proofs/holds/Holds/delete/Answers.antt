use Rattle.store.proofs.Held.{last-stays}
use Rattle.store.proofs.holds.Holds.delete.Goals as goal

pub invariant_of-self : goal.invariant_of-self
invariant_of-self c = record {
  have_last = last-stays c.args.self.now.keys c.delete_key.new.index c.args.self.now.last.entries
      c.delete_key.ensures.adds c.args.self.now.have_last;
}
