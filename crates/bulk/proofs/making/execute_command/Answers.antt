use Rattle.model.specs.History.{CommandRequest}
use Rattle.model.specs.RefusalNumbers.{number_of}
use Rattle.model.specs.Refusals.{RequestFrom}
use Rattle.requests.specs.Calls.{command_of, reply_of}
use Rattle.bulk.proofs.Carried.{outcome_by_reply, outcome_by_refusal, kept_by_reply, kept_by_refusal}
use Rattle.bulk.proofs.making.execute_command.Goals as goal

pub returns-in-Ok-clause-outcome : goal.returns-in-Ok-clause-outcome
returns-in-Ok-clause-outcome g c =
    outcome_by_reply (g.S.StoreModel.IsUsable c.do_it.new.self.store) _ _
    (RequestFrom c.args.caller.number (CommandRequest (command_of c.args.command.now)))
    c.outcome_of_reply.result
    (reply_of c.in-Ok.reply) c.in-Ok.ensures.answers c.outcome_of_reply.ensures.outcome

pub returns-in-Ok-clause-kept : goal.returns-in-Ok-clause-kept
returns-in-Ok-clause-kept g c =
    kept_by_reply (g.S.StoreModel.IsUsable c.do_it.new.self.store) _ _ c.args.caller.number
    (command_of c.args.command.now) c.outcome_of_reply.result (reply_of c.in-Ok.reply)
    c.in-Ok.ensures.answers c.outcome_of_reply.ensures.other

pub returns-in-Err-clause-outcome : goal.returns-in-Err-clause-outcome
returns-in-Err-clause-outcome g c =
    outcome_by_refusal (g.S.StoreModel.IsUsable c.do_it.new.self.store) _ _
    (RequestFrom c.args.caller.number (CommandRequest (command_of c.args.command.now)))
    c.outcome_of_refusal.result
    (number_of c.in-Err.refusal) c.in-Err.ensures.answers c.outcome_of_refusal.ensures.outcome

pub returns-in-Err-clause-kept : goal.returns-in-Err-clause-kept
returns-in-Err-clause-kept g c =
    kept_by_refusal (g.S.StoreModel.IsUsable c.do_it.new.self.store) _ _ c.args.caller.number
    (command_of c.args.command.now) c.outcome_of_refusal.result (number_of c.in-Err.refusal)
    c.in-Err.ensures.answers c.outcome_of_refusal.ensures.other
