use Rattle.std.proofs.Common.{ap}
use Rattle.version.specs.Abstraction.{minutes_of, set_of}
use Rattle.version.proofs.Cancelled.{at_once, planned, reached}
use Rattle.version.proofs.disconnect.disconnect_transition.Goals as goal

pub returns-in-Some-clause-version : goal.returns-in-Some-clause-version
returns-in-Some-clause-version c = λ fits all_carriers.
    planned (set_of c.args.present.now) c.args.minute.number c.in-Some.release.number all_carriers
    (minutes_of c.args.release) c.args.version.now c.with_status.result (ap minutes_of c.in-Some.is)
    c.if-minute-release.true c.with_status.ensures

pub returns-in-Some-2-clause-version : goal.returns-in-Some-2-clause-version
returns-in-Some-2-clause-version c = λ fits all_carriers.
    reached (set_of c.args.present.now) c.args.minute.number c.in-Some.release.number all_carriers
    (minutes_of c.args.release) c.args.version.now c.delete_transition.result.version
    (ap minutes_of c.in-Some.is) c.if-minute-release.false (c.delete_transition.ensures.version fits
    all_carriers)

pub returns-in-None-clause-version : goal.returns-in-None-clause-version
returns-in-None-clause-version c = λ fits all_carriers.
    at_once (set_of c.args.present.now) c.args.minute.number all_carriers
    (minutes_of c.args.release)
    c.args.version.now c.delete_transition-in-None.result.version (ap minutes_of c.in-None.is)
    (c.delete_transition-in-None.ensures.version fits all_carriers)
