use Rattle.std.proofs.Common.{[], ap, ◌∙◌}
use Rattle.numbers.specs.Abstraction.{subject_of}
use Rattle.model.specs.Content.{BroadcastKey, BroadcastRow, broadcast_key}
use Rattle.model.proofs.Shown.{some_is}
use Rattle.version.specs.Abstraction.{routings_of}
use Rattle.model.specs.Abstraction.{send_of}
use Rattle.settle.specs.Sending.{begun_row}
use Rattle.settle.proofs.FiredCode.{begun_as}
use Rattle.settle.proofs.sending.begun.Goals as goal

pub returns : goal.returns
returns c =
    ap (λ (row : BroadcastRow). let key : BroadcastKey =
    broadcast_key c.args.id c.args.version.now.attempt in (key, row))
    (some_is _ _ (c.send.ensures 0 []) ∙ begun_as c.args.minute.number c.action.result
    (send_of c.args.send) (subject_of c.args.version.now.subject)
    (routings_of c.routing_for-routing.result) c.action.ensures
    ∙ ap (begun_row c.args.minute.number (send_of c.args.send)
    (subject_of c.args.version.now.subject)) c.routing_for-routing.ensures)
