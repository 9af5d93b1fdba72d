use Rattle.std.proofs.Common.{inr}
use Rattle.cli.proofs.Endings.{line_ends}
use Rattle.cli.proofs.running.run_on_snapshot.Goals as goal

pub returns-in-Err : goal.returns-in-Err
returns-in-Err g c = inr (c.requires.wanted, c.in-Err.ensures.fault)

pub returns : goal.returns
returns g c =
    let outcome = c.run_over_file-outcome in
    line_ends c.args.line.now outcome.result outcome.ensures
