use Rattle.std.proofs.Common.{◌∙◌}
use Rattle.delivery.proofs.Queues.{refused_alike}
use Rattle.delivery.proofs.download.may_acknowledge.Goals as goal

pub returns-clause-refusal : goal.returns-clause-refusal
returns-clause-refusal c = λ subject downloads are. c.acknowledged_key.ensures.refusal
    ∙ refused_alike subject c.args.pending.now downloads are c.args.id c.args.attempt
