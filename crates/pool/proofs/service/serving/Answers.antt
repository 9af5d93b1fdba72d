use Rattle.std.proofs.Common.{◌∙◌}
use Rattle.pool.proofs.Served.{serving-is}
use Rattle.pool.proofs.service.serving.Goals as goal

pub returns-clause-state : goal.returns-clause-state
returns-clause-state c = λ st n are. c.server_by_version.ensures
    ∙ serving-is st n c.args.facts.now are
