-- A refusal by the version's fields is the state's.
use Rattle.std.proofs.Common.{rules}
use Rattle.version.specs.Abstraction.{set_of, windows_of}
use Rattle.version.specs.Commands.{command_model}
use Rattle.version.proofs.Refused.{command_refused_in}
use Rattle.version.proofs.version.Version.commanded.Goals as goal

pub returns-then-matches-clause-state : goal.returns-then-matches-clause-state
returns-then-matches-clause-state c = λ st id is.
    command_refused_in st (set_of c.args.present.now) (windows_of c.args.windows.now)
    c.args.caller.number c.args.minute.number id (command_model c.args.command) c.args.facts
    c.args.self.now is
    _ (search rules)

pub returns-clause-state : goal.returns-clause-state
returns-clause-state c = λ st id is.
    command_refused_in st (set_of c.args.present.now) (windows_of c.args.windows.now)
    c.args.caller.number c.args.minute.number id (command_model c.args.command) c.args.facts
    c.args.self.now is
    _ (search rules)
