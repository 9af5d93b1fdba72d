use Rattle.std.proofs.Common.{◌∙◌, Some, ap}
use Rattle.std.specs.Prelude.{if◌then◌else◌}
use Rattle.numbers.specs.Subjects.{subject_eq}
use Rattle.numbers.specs.Abstraction.{subject_of}
use Rattle.bulk.specs.Sides.{sides_at}
use Rattle.bulk.specs.declared.sides.Sides.{Sides}
use Rattle.bulk.proofs.Sided.{in_force_turn}
use Rattle.bulk.proofs.sides.add_in_force.Goals as goal

pub loop-row-preserved : goal.loop-row-preserved
loop-row-preserved c = λ s.
    in_force_turn c.args.rows.now c.loop-row.row-index c.row-item.result c.loop-row-test.true
    c.row-item.is c.loop-row.all c.set_sides.new.all
    (λ t.
    c.in_ok-set_sides.ensures.set t
    ∙ ap (λ (x : Sides). if subject_eq (subject_of c.row-item.result.subject) (subject_of t)
    then (record x { in_force = Some c.row-item.result.routing }) else sides_at c.loop-row.all t)
    c.sides_of-sides.ensures) s
    ∙ c.loop-row.invariant s
