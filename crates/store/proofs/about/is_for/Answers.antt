use Rattle.std.proofs.Common.{rules, ◌≡◌, Some, None, ap, sym, ◌∙◌, option_map}
use Rattle.numbers.specs.Abstraction.{subject_of}
use Rattle.store.specs.Lists.{is_subject}
use Rattle.store.specs.WaitRows.{row_in, row_key_in, waiting_of, awaited}
use Rattle.store.proofs.AboutListed.{compared}
use Rattle.store.proofs.WaitsKept.{hash-at}
use Rattle.store.proofs.about.is_for.Goals as goal

pub returns-in-None : goal.returns-in-None
returns-in-None c =
    let none : row_in c.args.rows.now.entries (row_key_in c.args.broadcast) ≡ None =
    sym (hash-at c.args.rows.now.entries (row_key_in c.args.broadcast)) ∙ search rules in
    sym (ap (λ o. is_subject (subject_of c.args.subject) (awaited (option_map waiting_of o)
    c.args.carrier.number)) none)

pub returns-in-Some : goal.returns-in-Some
returns-in-Some c =
    let there : row_in c.args.rows.now.entries (row_key_in c.args.broadcast)
    ≡ Some c.in-Some.row.now = sym (hash-at c.args.rows.now.entries (row_key_in c.args.broadcast))
    ∙ search rules in
    c.is_subject.ensures ∙ compared c.subject_for.result c.args.subject
    ∙ ap (is_subject (subject_of c.args.subject)) c.subject_for.ensures
    ∙ sym (ap (λ o. is_subject (subject_of c.args.subject) (awaited (option_map waiting_of o)
    c.args.carrier.number)) there)
