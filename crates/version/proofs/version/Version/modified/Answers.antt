use Rattle.std.proofs.Common.{◌≡◌, false, refl, rules}
use Rattle.model.specs.Conditions.{has_no_attempt_left}
use Rattle.version.proofs.Changed.{attempt_fits}
use Rattle.version.proofs.version.Version.modified.Goals as goal

pub returns-clause-step : goal.returns-clause-step
returns-clause-step c =
    let left : has_no_attempt_left c.args.self.now.attempt ≡ false = search rules in
    record { version = c.sending.ensures (attempt_fits c.args.self.now.attempt left); sends = refl }
