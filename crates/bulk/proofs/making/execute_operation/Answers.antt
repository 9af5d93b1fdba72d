use Rattle.requests.specs.Calls.{command_of}
use Rattle.bulk.proofs.Asked.{owes_then}
use Rattle.bulk.proofs.Carried.{outcome_for, kept_for}
use Rattle.bulk.proofs.making.execute_operation.Goals as goal

pub returns-clause-outcome : goal.returns-clause-outcome
returns-clause-outcome g c =
    outcome_for (g.S.StoreModel.IsUsable c.execute_command.new.register.store)
    (g.S.StoreModel.IsUsable c.command_for.new.register.store) _ _ _ c.args.caller.number
    c.args.tn.number c.args.operation.now (command_of c.in_ok-command.command)
    c.execute_command.result
    c.execute_command.ensures.preserves.usable c.in_ok-command.ensures.command
    c.in_ok-command.ensures.kept
    c.execute_command.ensures.outcome

pub returns-clause-kept : goal.returns-clause-kept
returns-clause-kept g c =
    kept_for (g.S.StoreModel.IsUsable c.execute_command.new.register.store)
    (g.S.StoreModel.IsUsable c.command_for.new.register.store) _
    (g.S.StoreModel.content c.command_for.new.register.store) _ c.args.tn.number
    c.args.operation.now
    (command_of c.in_ok-command.command) c.execute_command.result
    c.execute_command.ensures.preserves.usable c.in_ok-command.ensures.command
    c.in_ok-command.ensures.kept
    c.execute_command.ensures.kept

pub returns-clause-preserves : goal.returns-clause-preserves
returns-clause-preserves g c =
    owes_then c.in_ok-command.ensures.preserves tt c.execute_command.ensures.preserves
    c.in_ok-command.ensures.kept
