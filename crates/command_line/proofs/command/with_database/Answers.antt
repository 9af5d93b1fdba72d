use Rattle.std.proofs.Common.{◌≡◌, ◌∙◌, ap, codes, false, subst}
use Rattle.std.specs.Prelude.{IfOk}
use Rattle.clap.specs.Words.{App, app_of, with_rule}
use Rattle.clap.specs.declared.builder.command.Command.TheViews.{out-Command}
use Rattle.command_line.specs.CommandLine.{flag_rule, option_rule}
use Rattle.command_line.proofs.command.with_database.Goals as goal

pub returns : goal.returns
returns c =
    let second = c.in_ok-command-2.ensures.0
    ∙ ap (λ (a : App). with_rule a (flag_rule (codes "existing"))) c.in_ok-command.ensures.0 in
    subst (λ (a : App). IfOk c.with_option-2.result
    (λ k. (app_of k ≡ with_rule a (option_rule (codes "explain") false))
    × ((out-Command k).has_globals ≡ false))) second c.with_option-2.ensures
