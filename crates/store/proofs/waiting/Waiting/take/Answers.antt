use Rattle.std.proofs.Common.{map, subst, sym}
use Rattle.numbers.specs.Subjects.{Subject}
use Rattle.settle.specs.Abstraction.{spid_of}
use Rattle.store.specs.WaitRows.{subject_of_row, spids_of, IsWithout}
use Rattle.store.proofs.OneRow.{without}
use Rattle.store.proofs.waiting.Waiting.take.Goals as goal

pub returns : goal.returns
returns c =
    subst (λ (s : Subject). IsWithout c.args.carrier.number
    (subject_of_row c.args.self.now, map spid_of (spids_of c.args.self.now))
    (s, map spid_of (spids_of c.remove_carrier.new.row))) (sym c.remove_carrier.ensures.subject)
    (without c.args.carrier.number (spids_of c.args.self.now) (spids_of c.remove_carrier.new.row)
    (subject_of_row c.args.self.now) c.remove_carrier.ensures.carriers)
