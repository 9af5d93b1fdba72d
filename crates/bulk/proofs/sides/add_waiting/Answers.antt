use Rattle.std.proofs.Common.{◌∙◌, true, ap}
use Rattle.std.specs.Prelude.{if◌then◌else◌}
use Rattle.numbers.specs.Subjects.{subject_eq}
use Rattle.numbers.specs.Abstraction.{subject_of}
use Rattle.bulk.specs.Sides.{sides_at}
use Rattle.bulk.specs.declared.sides.Sides.{Sides}
use Rattle.bulk.proofs.Sided.{waiting_turn}
use Rattle.bulk.proofs.sides.add_waiting.Goals as goal

pub loop-subject-preserved : goal.loop-subject-preserved
loop-subject-preserved c = λ s.
    waiting_turn c.args.subjects.now c.loop-subject.subject-index c.subject-item.result
    c.loop-subject-test.true c.subject-item.is c.loop-subject.all c.set_sides.new.all
    (λ t.
    c.in_ok-set_sides.ensures.set t
    ∙ ap (λ (x : Sides). if subject_eq (subject_of c.subject-item.result) (subject_of t)
    then (record x { is_waiting = true }) else sides_at c.loop-subject.all t)
    c.sides_of-sides.ensures) s
    ∙ c.loop-subject.invariant s
