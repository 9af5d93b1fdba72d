use Rattle.std.proofs.Common.{◌≡◌, true, sym, ◌∙◌, subst, refl, map}
use Rattle.std.specs.Prelude.{◌==◌}
use Rattle.numbers.specs.Abstraction.{subject_of, key_of}
use Rattle.numbers.specs.Subjects.{Subject}
use Rattle.numbers.proofs.SubjectKeys.{subject_key-exact}
use Rattle.settle.specs.Abstraction.{spid_of}
use Rattle.store.specs.WaitRows.{subject_of_row, spids_of, Waiting, IsAdded}
use Rattle.numbers.proofs.Small.{equal_number, denied}
use Rattle.store.proofs.OneRow.{added}
use Rattle.store.proofs.waiting.Waiting.add.Goals as goal

pub returns-in_ok-push_carrier-clause-added : goal.returns-in_ok-push_carrier-clause-added
returns-in_ok-push_carrier-clause-added c =
    let own : Subject = subject_of_row c.args.self.now in
    let keys : (key_of c.subject.result == key_of c.args.subject) ≡ true =
    denied _ (sym c.ne.ensures ∙ c.if-ne.false) in
    let same : own ≡ subject_of c.args.subject =
    sym c.subject.ensures ∙ subject_key-exact (subject_of c.subject.result)
    (subject_of c.args.subject)
    (equal_number (key_of c.subject.result) (key_of c.args.subject) keys) in
    subst (λ (w : Waiting). IsAdded c.args.carrier.number (subject_of c.args.subject)
    (own, map spid_of (spids_of c.args.self.now)) w)
    (λ i. (
      sym c.push_carrier.ensures.subject i,
      map spid_of (sym c.in_ok-push_carrier.ensures.ok i),
    ))
    (added (subject_of c.args.subject) c.args.carrier.number (spids_of c.args.self.now)
    c.args.carrier own refl same)
