use Rattle.std.proofs.Common.{map}
use Rattle.std.specs.Prelude.{string_bytes}
use Rattle.cli.proofs.Endings.{outcome_ends, usage_ends}
use Rattle.cli.proofs.running.run.Goals as goal

pub returns-in-Ok : goal.returns-in-Ok
returns-in-Ok g c =
    outcome_ends (map g.S.AsStr.text c.args.words.now) _ _ c.report_outcome-status.result
    c.in-Ok.parsed c.in-Ok.ensures.line c.run_parsed-outcome.result c.run_parsed-outcome.ensures
    c.report_outcome-status.ensures

pub returns-in-Err : goal.returns-in-Err
returns-in-Err g c =
    usage_ends (map g.S.AsStr.text c.args.words.now) _ _ c.report_usage.result c.in-Err.usage.status
    (string_bytes c.in-Err.usage.text)
    _ _
    c.in-Err.ensures.status c.in-Err.ensures.help c.in-Err.ensures.mistake c.report_usage.ensures
