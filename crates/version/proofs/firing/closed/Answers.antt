use Rattle.std.proofs.Common.{rules, true, false}
use Rattle.numbers.specs.Abstraction.{routing_of}
use Rattle.model.specs.Statuses.{Create, Delete, Modify}
use Rattle.version.proofs.Fired.{closed_at_end}
use Rattle.version.specs.Abstraction.{set_of}
use Rattle.version.proofs.firing.closed.Goals as goal

pub returns-in-Create : goal.returns-in-Create
returns-in-Create c =
    closed_at_end (set_of c.args.present.now) c.args.send Create c.args.is_acknowledged true
    c.args.minute.number c.args.version.now c.with_status.result (search rules) (search rules)
    c.with_status.ensures

pub returns-in-Create-2 : goal.returns-in-Create-2
returns-in-Create-2 c =
    closed_at_end (set_of c.args.present.now) c.args.send Create c.args.is_acknowledged false
    c.args.minute.number c.args.version.now c.with_status-in-Create-2.result (search rules)
    (search rules) c.with_status-in-Create-2.ensures

pub returns-in-Delete : goal.returns-in-Delete
returns-in-Delete c =
    closed_at_end (set_of c.args.present.now) c.args.send Delete c.args.is_acknowledged true
    c.args.minute.number c.args.version.now c.with_status-in-Delete.result (search rules)
    (search rules) c.with_status-in-Delete.ensures

pub returns-in-Delete-2 : goal.returns-in-Delete-2
returns-in-Delete-2 c =
    closed_at_end (set_of c.args.present.now) c.args.send Delete c.args.is_acknowledged false
    c.args.minute.number c.args.version.now c.with_status-in-Delete-2.result (search rules)
    (search rules) c.with_status-in-Delete-2.ensures

pub returns-in-Modify : goal.returns-in-Modify
returns-in-Modify c =
    closed_at_end (set_of c.args.present.now) c.args.send (Modify (routing_of c.in-Modify.routing))
    c.args.is_acknowledged true c.args.minute.number c.args.version.now c.rerouted.result
    (search rules) (search rules) c.rerouted.ensures

pub returns-in-Modify-2 : goal.returns-in-Modify-2
returns-in-Modify-2 c =
    closed_at_end (set_of c.args.present.now) c.args.send
    (Modify (routing_of c.in-Modify-2.field-0)) c.args.is_acknowledged false c.args.minute.number
    c.args.version.now c.with_status-in-Modify-2.result (search rules) (search rules)
    c.with_status-in-Modify-2.ensures
