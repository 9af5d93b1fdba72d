use Rattle.std.proofs.Common.{◌≡◌, ◌∙◌, ap, codes, false, subst}
use Rattle.std.specs.Prelude.{IfOk}
use Rattle.clap.specs.Words.{App, app_of, with_rule}
use Rattle.clap.specs.declared.builder.command.Command.TheViews.{out-Command}
use Rattle.command_line.specs.CommandLine.{number_rule}
use Rattle.command_line.proofs.command.with_limits.Goals as goal

pub returns : goal.returns
returns c =
    let first = c.in_ok-command.ensures.0 in
    let second = c.in_ok-command-2.ensures.0
    ∙ ap (λ (a : App). with_rule a (number_rule (codes "group") 256 false)) first in
    let third = c.in_ok-command-3.ensures.0
    ∙ ap (λ (a : App). with_rule a (number_rule (codes "message-limit") 65535 false)) second in
    let fourth = c.in_ok-command-4.ensures.0
    ∙ ap (λ (a : App). with_rule a (number_rule (codes "idle-limit") 65535 false)) third in
    subst (λ (a : App). IfOk c.with_number-5.result
    (λ k. (app_of k ≡ with_rule a (number_rule (codes "sending-limit") 65535 false))
    × ((out-Command k).has_globals ≡ false))) fourth c.with_number-5.ensures
