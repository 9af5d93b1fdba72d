use Rattle.std.proofs.Common.{map}
use Rattle.numbers.specs.Abstraction.{subject_of}
use Rattle.model.specs.Refusals.{Waiting}
use Rattle.register.proofs.Asking.Unmoved.{kept}
use Rattle.bulk.proofs.Waited.{stranger_told, waits_are}
use Rattle.bulk.proofs.asking.subjects_waiting.Goals as goal

pub returns-in-Ok-clause-subjects : goal.returns-in-Ok-clause-subjects
returns-in-Ok-clause-subjects g c =
    λ u st s. waits_are st c.args.carrier.number (map subject_of c.in-Ok.subjects.items)
    (c.in-Ok.ensures.answers u st s).0

pub returns-in-Ok-clause-kept : goal.returns-in-Ok-clause-kept
returns-in-Ok-clause-kept g c =
    λ u. kept _ _ c.args.carrier.number Waiting _ (c.waiting.ensures.answers u)

pub returns-in-Err-clause-kept : goal.returns-in-Err-clause-kept
returns-in-Err-clause-kept g c =
    λ u. kept _ _ c.args.carrier.number Waiting _ (c.waiting.ensures.answers u)

pub returns-in-Err-clause-unknown : goal.returns-in-Err-clause-unknown
returns-in-Err-clause-unknown g c =
    λ e u st s. stranger_told _ _ c.args.carrier.number c.in-Err.refusal
    (c.kind_for.ensures.unknown (cc)) (c.in-Err.ensures.answers u) st s
