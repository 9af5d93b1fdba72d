use Rattle.std.proofs.Common.{List, subst}
use Rattle.numbers.specs.declared.ported.Subject.{Subject}
use Rattle.delivery.specs.declared.mirror.RoutedRow.{RoutedRow}
use Rattle.bulk.specs.Comparing.{AreCompared}
use Rattle.bulk.proofs.Compared.{are_compared}
use Rattle.bulk.proofs.auditing.compare.Goals as goal

pub returns-clause-compared : goal.returns-clause-compared
returns-clause-compared g c =
    let findings = c.in_ok-findings.findings.items in
    let compared =
    are_compared c.deref.result.now c.args.entries.now c.deref-2.result.now findings c.in_ok-all.all
    c.add_in_force.new.all c.add_waiting.new.all c.in_ok-all.ensures.added
    c.in_ok-add_in_force.ensures.added
    c.in_ok-add_waiting.ensures.added c.in_ok-findings.ensures.found
    c.in_ok-findings.ensures.ordered in (
      c.in_ok-all.ensures.distinct,
      subst (λ (rows : List RoutedRow). AreCompared rows c.args.side.now.waiting.items
          c.args.entries.now findings) c.deref.ensures.value
          (subst (λ (subjects : List Subject). AreCompared c.deref.result.now subjects
          c.args.entries.now findings) c.deref-2.ensures.value compared),
    )
