use Rattle.std.proofs.Common.{◌≡◌, subst}
use Rattle.std.specs.Prelude.{IfOk}
use Rattle.clap.specs.Words.{App, app_of, with_subcommand}
use Rattle.command_line.specs.CommandLine.{serve_app}
use Rattle.command_line.proofs.command.with_serving.Goals as goal

pub returns : goal.returns
returns c = subst (λ (a : App). IfOk c.with_serve.result
    (λ k. app_of k ≡ with_subcommand a (serve_app c.args.present).top)) c.in_ok-command.ensures
    c.with_serve.ensures
