use Rattle.std.proofs.Common.{◌≡◌, ◌∙◌, Some, false, is_some, ap, sym}
use Rattle.std.specs.Prelude.{if◌then◌else◌}
use Rattle.numbers.specs.Subjects.{subject_eq}
use Rattle.numbers.specs.Abstraction.{subject_of}
use Rattle.numbers.specs.declared.ported.Subject.{Subject}
use Rattle.bulk.specs.Sides.{sides_at}
use Rattle.bulk.specs.declared.sides.Sides.{Sides}
use Rattle.bulk.proofs.Sided.{copied_turn, entry_taken}
use Rattle.bulk.proofs.sides.copy_sides.Goals as goal

pub loop-entry-preserved : goal.loop-entry-preserved
loop-entry-preserved g c =
    let set : (t : Subject) → sides_at c.set_sides.new.all t
    ≡ (if subject_eq (subject_of c.entry-item.result.subject) (subject_of t)
    then (record (sides_at c.loop-entry.all c.entry-item.result.subject) {
      copied =
          Some c.entry-item.result.routing;
    }) else sides_at c.loop-entry.all t) =
    λ t.
    c.in_ok-set_sides.ensures.set t
    ∙ ap (λ (x : Sides). if subject_eq (subject_of c.entry-item.result.subject) (subject_of t)
    then (record x { copied = Some c.entry-item.result.routing }) else sides_at c.loop-entry.all t)
    c.sides_of-sides.ensures in
    let fresh : is_some (sides_at c.loop-entry.all c.entry-item.result.subject).copied ≡ false =
    ap (λ (x : Sides). is_some x.copied) (sym c.sides_of-sides.ensures) ∙ sym c.is_some.ensures
    ∙ c.if-is_some.false in
    record {
      added = λ s.
          copied_turn c.args.entries.now c.loop-entry.entry-index c.entry-item.result
          c.loop-entry-test.true c.entry-item.is c.loop-entry.all c.set_sides.new.all set s
          ∙ c.loop-entry.invariant.added s;
      taken = entry_taken c.args.entries.now c.loop-entry.entry-index c.entry-item.result
          c.loop-entry-test.true c.entry-item.is c.loop-entry.all c.set_sides.new.all fresh set
          c.loop-entry.invariant.taken;
    }
