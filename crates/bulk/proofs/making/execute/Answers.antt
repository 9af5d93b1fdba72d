use Rattle.std.specs.Prelude.{string_bytes}
use Rattle.bulk.proofs.Noted.{outcome_noted}
use Rattle.bulk.proofs.making.execute.Goals as goal

pub returns-clause-noted : goal.returns-clause-noted
returns-clause-noted g c =
    outcome_noted (string_bytes c.set_outcome.new.self.text) c.args.row c.args.tn.number
    c.in_ok-outcome.outcome _ _ c.set_outcome.ensures.text c.set_outcome.ensures.refusal
