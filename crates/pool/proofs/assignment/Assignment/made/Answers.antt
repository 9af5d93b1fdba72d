-- A refusal by the facts is the state's.
use Rattle.std.proofs.Common.{arith, rules}
use Rattle.std.proofs.lemmas.Bool.Decides.{nat_tests}
use Rattle.pool.proofs.BlockRefused.{assignment_refused_in}
use Rattle.pool.proofs.assignment.Assignment.made.Goals as goal

pub returns-then-caller-clause-state : goal.returns-then-caller-clause-state
returns-then-caller-clause-state c =
    λ st is. assignment_refused_in st c.args.caller.number c.args.facts.now c.args.self.now is _
    (search rules)

pub returns-then-is_none-clause-state : goal.returns-then-is_none-clause-state
returns-then-is_none-clause-state c =
    λ st is. assignment_refused_in st c.args.caller.number c.args.facts.now c.args.self.now is _
    (search rules)

pub returns-then-not-facts-clause-state : goal.returns-then-not-facts-clause-state
returns-then-not-facts-clause-state c =
    λ st is. assignment_refused_in st c.args.caller.number c.args.facts.now c.args.self.now is _
    (search rules)

pub returns-in_default-clause-state : goal.returns-in_default-clause-state
returns-in_default-clause-state c =
    λ st is. assignment_refused_in st c.args.caller.number c.args.facts.now c.args.self.now is _
    (search rules)

pub returns-then-has_open_port-clause-state : goal.returns-then-has_open_port-clause-state
returns-then-has_open_port-clause-state c =
    λ st is. assignment_refused_in st c.args.caller.number c.args.facts.now c.args.self.now is _
    (search rules)

pub returns-then-is_taken-clause-state : goal.returns-then-is_taken-clause-state
returns-then-is_taken-clause-state c =
    λ st is. assignment_refused_in st c.args.caller.number c.args.facts.now c.args.self.now is _
    (search rules)

pub returns-then-facts-ge-ID_LIMIT-clause-state : goal.returns-then-facts-ge-ID_LIMIT-clause-state
returns-then-facts-ge-ID_LIMIT-clause-state c =
    λ st is. assignment_refused_in st c.args.caller.number c.args.facts.now c.args.self.now is _
    (search rules)

pub returns-clause-state : goal.returns-clause-state
returns-clause-state c = λ st is. assignment_refused_in st c.args.caller.number c.args.facts.now
    c.args.self.now is _ (grind (arith, nat_tests))
