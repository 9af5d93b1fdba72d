-- A refusal by the facts is the state's.
use Rattle.std.proofs.Common.{rules}
use Rattle.version.specs.Abstraction.{set_of}
use Rattle.version.proofs.CreateRefused.{create_refused_in}
use Rattle.version.proofs.create.Create.apply.Goals as goal

pub returns-in-Err-clause-state : goal.returns-in-Err-clause-state
returns-in-Err-clause-state c = λ st is.
    create_refused_in st (set_of c.args.present.now) c.args.caller.number c.args.minute.number
    c.args.self.now c.args.facts.now is _ (search rules)

pub returns-in-Ok-clause-state : goal.returns-in-Ok-clause-state
returns-in-Ok-clause-state c = λ st is.
    create_refused_in st (set_of c.args.present.now) c.args.caller.number c.args.minute.number
    c.args.self.now c.args.facts.now is _ (search rules)
