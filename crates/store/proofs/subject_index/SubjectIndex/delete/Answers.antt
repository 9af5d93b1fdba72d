use Rattle.std.proofs.Common.{sym, subst}
use Rattle.store.specs.SubjectRows.{versions_of, LacksKey}
use Rattle.store.proofs.SubjectIndexes.{lined-kept, deleted-adds, deleted-gone}
use Rattle.store.proofs.subject_index.SubjectIndex.delete.Goals as goal

pub invariant_of-self : goal.invariant_of-self
invariant_of-self c = record {
  are_lined = lined-kept (versions_of c.args.self.now.ids.entries)
      (versions_of c.remove_id.new.ids.entries) c.args.self.now.lines.entries
      c.args.self.now.lines.entries
      (deleted-adds (versions_of c.args.self.now.ids.entries)
      (versions_of c.remove_id.new.ids.entries) c.in-Some.key c.remove_id.ensures)
      (λ b l had. had) c.args.self.now.are_lined;
}

pub returns-in-Some-clause-gone : goal.returns-in-Some-clause-gone
returns-in-Some-clause-gone c =
    subst (LacksKey (versions_of c.remove_id.new.ids.entries)) (sym c.in-Some.is)
    (deleted-gone (versions_of c.args.self.now.ids.entries)
    (versions_of c.remove_id.new.ids.entries) c.in-Some.key c.remove_id.ensures)
