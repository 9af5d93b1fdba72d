use Rattle.std.proofs.Common.{sym, subst}
use Rattle.store.specs.SubjectRows.{versions_of, HasKey}
use Rattle.store.proofs.SubjectIndexes.{lined-added, added-from, added-there}
use Rattle.store.proofs.Steps.{ok-then}
use Rattle.store.proofs.subject_index.SubjectIndex.put.Goals as goal

pub invariant_of-self-2 : goal.invariant_of-self-2
invariant_of-self-2 c =
    let old = versions_of c.args.self.now.ids.entries in
    let new = versions_of c.add_id.new.ids.entries in
    record {
      are_lined = lined-added old new c.in-Some.key c.args.self.now.lines.entries
          c.add_line.new.lines.entries
          (added-from old new c.in-Some.key c.add_id.result c.add_id.ensures.ok
          c.add_id.ensures.err)
          c.in_ok-add_line.ensures.there c.add_line.ensures.keeps c.args.self.now.are_lined;
    }

pub returns-clause-there : goal.returns-clause-there
returns-clause-there c =
    let new = versions_of c.add_id.new.ids.entries in
    ok-then c.add_id.result (λ is. subst (HasKey new) (sym c.in-Some.is)
    (added-there (versions_of c.args.self.now.ids.entries) new c.in-Some.key is))
    c.add_id.ensures.ok
