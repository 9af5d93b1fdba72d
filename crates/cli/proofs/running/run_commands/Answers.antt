use Rattle.std.proofs.Common.{sym, subst}
use Rattle.cli.specs.Faults.{JudgesRows}
use Rattle.cli.proofs.Endings.{rows_judged}
use Rattle.cli.proofs.running.run_commands.Goals as goal

pub returns-clause-rows : goal.returns-clause-rows
returns-clause-rows g c =
    let ran = c.run_watched-ran in
    subst (JudgesRows c.args.strict (g.W.Write.contents c.args.writer.now)
    (g.W.Write.contents ran.new.writer)) (sym c.commands_outcome.ensures.outcome)
    (rows_judged c.args.strict ran.result.1 _ _ ran.result.0 ran.ensures.noted)
