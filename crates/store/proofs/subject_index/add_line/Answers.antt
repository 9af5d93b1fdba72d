use Rattle.std.proofs.Common.{rules, ◌≡◌, ℕ, cond, Some, None, ap, sym, ◌∙◌, subst}
use Rattle.std.specs.Prelude.{◌==◌}
use Rattle.std.specs.Map.{lookup}
use Rattle.store.specs.SubjectRows.{has_line, items_or_none}
use Rattle.numbers.proofs.Small.{impossible}
use Rattle.store.proofs.SubjectIndexes.{lined-set}
use Rattle.store.proofs.subject_index.add_line.Goals as goal

pub returns-in-Some-get_mut-clause-keeps : goal.returns-in-Some-get_mut-clause-keeps
returns-in-Some-get_mut-clause-keeps c =
    let old = c.args.lines.now.entries in
    let new = (c.get_mut.follows.lender c.insert_line.new.lines).entries in
    let n = c.in-Some.block in
    let is : (r : ℕ) → lookup (λ b. r == b) new
    ≡ cond (n == r) (Some c.insert_line.new.lines) (lookup (λ b. r == b) old) = search rules in
    let there : lookup (λ b. n == b) old ≡ Some c.in-Some-get_mut.own.now = search rules in
    lined-set old new n c.insert_line.new.lines is
    (λ l had. c.insert_line.ensures.keeps l
    (ap (λ o. has_line (items_or_none o) l) (sym there) ∙ had))

pub returns-in-Ok-clause-keeps : goal.returns-in-Ok-clause-keeps
returns-in-Ok-clause-keeps c =
    let old = c.args.lines.now.entries in
    let new = c.insert.new.self.entries in
    let n = c.in-Some.block in
    let is : (r : ℕ) → lookup (λ b. r == b) new
    ≡ cond (n == r) (Some c.push.new.self) (lookup (λ b. r == b) old) =
    subst (λ m. (r : ℕ) → lookup (λ b. r == b) new ≡ cond (n == r) (Some c.push.new.self)
    (lookup (λ b. r == b) m.entries)) c.get_mut.follows.holds-at-none c.in-Ok.ensures.updates.0 in
    let none : lookup (λ b. n == b) old ≡ None = search rules in
    lined-set old new n c.push.new.self is
    (λ l had. impossible (sym had ∙ ap (λ o. has_line (items_or_none o) l) none))
