use Rattle.clap.specs.Words.{found_of, rows_of}
use Rattle.command_line.specs.CommandLine.{AreNoLimits}
use Rattle.command_line.proofs.OptionLemmas.{if_err}
use Rattle.command_line.proofs.options.limits_of.Goals as goal

pub returns-in_err-number_or-clause-none : goal.returns-in_err-number_or-clause-none
returns-in_err-number_or-clause-none c =
    if_err _ (AreNoLimits (rows_of (found_of c.args.matches.now))) (λ limits are.
    c.in_err-number_or.ensures.none are.at_once.0 are.at_once.1)

pub returns-in_err-number_or-2-clause-none : goal.returns-in_err-number_or-2-clause-none
returns-in_err-number_or-2-clause-none c =
    if_err _ (AreNoLimits (rows_of (found_of c.args.matches.now))) (λ limits are.
    c.in_err-number_or-2.ensures.none are.group.0 are.group.1)

pub returns-in_err-number_or-3-clause-none : goal.returns-in_err-number_or-3-clause-none
returns-in_err-number_or-3-clause-none c =
    if_err _ (AreNoLimits (rows_of (found_of c.args.matches.now))) (λ limits are.
    c.in_err-number_or-3.ensures.none are.message.0 are.message.1)

pub returns-in_err-number_or-4-clause-none : goal.returns-in_err-number_or-4-clause-none
returns-in_err-number_or-4-clause-none c =
    if_err _ (AreNoLimits (rows_of (found_of c.args.matches.now))) (λ limits are.
    c.in_err-number_or-4.ensures.none are.idle.0 are.idle.1)

pub returns-in_err-number_or-5-clause-none : goal.returns-in_err-number_or-5-clause-none
returns-in_err-number_or-5-clause-none c =
    if_err _ (AreNoLimits (rows_of (found_of c.args.matches.now))) (λ limits are.
    c.in_err-number_or-5.ensures.none are.sending.0 are.sending.1)
