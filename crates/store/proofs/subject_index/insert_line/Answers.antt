use Rattle.std.proofs.Common.{rules, ◌≡◌, true, ap, ◌∙◌, subst, take, drop, ◌++◌, ◌∷◌}
use Rattle.store.specs.SubjectRows.{has_line}
use Rattle.store.proofs.SubjectIndexes.{lines-kept, line-found}
use Rattle.store.proofs.subject_index.insert_line.Goals as goal

pub returns-in_ok-insert-clause-keeps : goal.returns-in_ok-insert-clause-keeps
returns-in_ok-insert-clause-keeps c = λ l had.
    let is : c.insert.new.self.items ≡ take c.in-Err.place c.args.lines.now.items
    ++ c.args.line ∷ drop c.in-Err.place c.args.lines.now.items = search rules in
    ap (λ lines. has_line lines l) is
    ∙ lines-kept c.args.lines.now.items c.in-Err.place c.args.line l had

pub returns-in_default-clause-there : goal.returns-in_default-clause-there
returns-in_default-clause-there c =
    let is : c.deref.result.now ≡ c.args.lines.now.items = search rules in
    subst (λ lines. has_line lines c.args.line.number ≡ true) is
    (line-found c.deref.result.now c.in_default.field-0 c.args.line c.in_default.ensures.bound
    (c.in_default.ensures.ok c.args.line))
