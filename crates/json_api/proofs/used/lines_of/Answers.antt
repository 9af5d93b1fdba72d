use Rattle.json_api.proofs.LineLemmas.{next_line, no_line}
use Rattle.json_api.proofs.used.lines_of.Goals as goal

pub returns-in_default-clause-none : goal.returns-in_default-clause-none
returns-in_default-clause-none c =
    no_line c.args.values.now c.loop-value.value-index c.value-item.result c.loop-value-test.true
    c.value-item.is c.in_default.ensures.none

pub loop-value-preserved : goal.loop-value-preserved
loop-value-preserved c =
    next_line c.args.values.now c.loop-value.value-index c.value-item.result
    c.loop-value.lines.items c.push.new.self.items c.in-Some.line
    c.loop-value-test.true c.value-item.is c.in_ok-push.ensures.items c.loop-value.invariant
    c.in-Some.ensures.some
