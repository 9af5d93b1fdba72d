use Rattle.bulk.proofs.Ranging.{is_between}
use Rattle.bulk.proofs.range.Numbers.at.Goals as goal

pub invariant_of-result : goal.invariant_of-result
invariant_of-result c = record {
  valid = is_between c.args.self.now.first.number c.args.self.now.last.number c.args.number
      c.args.self.now.first.valid c.args.self.now.valid.one_code c.requires.from c.requires.to;
}
