use Rattle.clap.specs.Words.{found_of, rows_of}
use Rattle.command_line.proofs.OptionLemmas.{if_err, no_connections, no_limits}
use Rattle.command_line.proofs.options.serve_of.Goals as goal

pub returns-in_err-connections-clause-none : goal.returns-in_err-connections-clause-none
returns-in_err-connections-clause-none c =
    if_err _ _ (no_connections (rows_of (found_of c.args.matches.now))
    c.in_err-connections.ensures.none)

pub returns-in_err-limits_of-clause-none : goal.returns-in_err-limits_of-clause-none
returns-in_err-limits_of-clause-none c =
    if_err _ _ (no_limits (rows_of (found_of c.args.matches.now)) c.in_err-limits_of.ensures.none)
