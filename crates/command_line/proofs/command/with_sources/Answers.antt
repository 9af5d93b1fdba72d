use Rattle.std.proofs.Common.{◌≡◌, codes, false, subst}
use Rattle.std.specs.Prelude.{IfOk}
use Rattle.clap.specs.Words.{App, app_of, with_rule}
use Rattle.clap.specs.declared.builder.command.Command.TheViews.{out-Command}
use Rattle.command_line.specs.CommandLine.{flag_rule}
use Rattle.command_line.proofs.command.with_sources.Goals as goal

pub returns : goal.returns
returns c = subst (λ (a : App). IfOk c.with_flag.result
    (λ k. (app_of k ≡ with_rule a (flag_rule (codes "present-windows")))
    × ((out-Command k).has_globals ≡ false))) c.in_ok-command.ensures.0 c.with_flag.ensures
