use Rattle.std.proofs.Common.{rules, ◌≡◌}
use Rattle.numbers.specs.Abstraction.{subject_of}
use Rattle.store.specs.HeldRows.{hint_at}
use Rattle.store.proofs.Held.{none-last}
use Rattle.store.proofs.holds.Holds.last.Goals as goal

pub returns-in_err-get : goal.returns-in_err-get
returns-in_err-get c =
    let none : hint_at c.args.self.now.last.entries c.of.result.number ≡ 0 = search rules in
    let no = none-last c.args.self.now.keys c.args.self.now.last.entries c.of.result
    (subject_of c.args.subject) c.of.ensures none c.args.self.now.have_last in search rules

pub returns-in-0 : goal.returns-in-0
returns-in-0 c =
    let none : hint_at c.args.self.now.last.entries c.of.result.number ≡ 0 = search rules in
    none-last c.args.self.now.keys c.args.self.now.last.entries c.of.result
    (subject_of c.args.subject) c.of.ensures none c.args.self.now.have_last
