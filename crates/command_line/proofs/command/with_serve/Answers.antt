use Rattle.std.proofs.Common.{◌≡◌, subst}
use Rattle.std.specs.Prelude.{IfOk}
use Rattle.clap.specs.Words.{App, app_of, with_subcommand}
use Rattle.command_line.proofs.command.with_serve.Goals as goal

pub returns : goal.returns
returns c = subst (λ (a : App). IfOk c.with.result
    (λ k. app_of k ≡ with_subcommand (app_of c.args.command) a.top)) c.in_ok-part.ensures.0
    c.with.ensures
