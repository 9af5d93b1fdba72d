use Rattle.store.proofs.Held.{last-added}
use Rattle.store.proofs.holds.Holds.put.Goals as goal

pub invariant_of-self-2 : goal.invariant_of-self-2
invariant_of-self-2 c = record {
  have_last = last-added c.args.self.now.keys c.put_key.new.index c.args.self.now.last.entries
      c.note_last.new.last.entries c.in-Some.held c.in_ok-note_last.ensures.noted
      c.note_last.ensures.keeps c.put_key.ensures.adds c.args.self.now.have_last;
}
