use Rattle.std.proofs.Common.{append_assoc, option_map, rules}
use Rattle.numbers.specs.declared.cic.Cic.{Cic}
use Rattle.telnp.proofs.Added.{added_alone}
use Rattle.telnp.proofs.answer.write_added.Goals as goal

pub returns-clause-ok : goal.returns-clause-ok
returns-clause-ok c =
    let alone =
    added_alone c.in-Some.routing.lrn.number (option_map (λ (code : Cic). code.number)
    c.in-Some.routing.cic) in
    rw (c.in-Some.is, alone) (search (append_assoc, rules))
