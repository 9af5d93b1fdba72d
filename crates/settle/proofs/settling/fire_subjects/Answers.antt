use Rattle.std.proofs.Common.{arith, rules, ◌≡◌, ◌+◌, ◌∷◌, inl, inr, drop, subst}
use Rattle.numbers.specs.Abstraction.{subject_of}
use Rattle.model.proofs.Entered.{subject_eq-refl}
use Rattle.settle.specs.Abstraction.{clock_row_of}
use Rattle.settle.proofs.Rest.{rest_at}
use Rattle.settle.proofs.SettledEach.{SettlesUpTo, next_elsewhere, next_settled}
use Rattle.settle.proofs.settling.fire_subjects.Goals as goal

pub returns-in_err-fire_due-clause-elsewhere : goal.returns-in_err-fire_due-clause-elsewhere
returns-in_err-fire_due-clause-elsewhere g c = λ usable.
    let clock = clock_row_of c.args.clock.now in
    let left : drop c.loop-subject.subject-index c.args.subjects.now ≡ c.subject-item.result ∷ drop
    (c.loop-subject.subject-index + 1) c.args.subjects.now =
    rest_at c.args.subjects.now c.loop-subject.subject-index c.subject-item.result
    c.loop-subject-test.true c.subject-item.is in
    next_elsewhere clock c.args.subjects.now
    (drop (c.loop-subject.subject-index + 1) c.args.subjects.now)
    c.subject-item.result (g.S.StoreModel.content c.args.store.now)
    (g.S.StoreModel.content c.loop-subject.store) (g.S.StoreModel.content c.fire_due.new.store)
    (subst (λ rest. SettlesUpTo clock c.args.subjects.now rest
    (g.S.StoreModel.content c.args.store.now)
    (g.S.StoreModel.content c.loop-subject.store)) left
    (c.loop-subject.invariant.4 (c.fire_due.ensures.preserves.usable usable)))
    (c.fire_due.ensures.kept usable) (c.fire_due.ensures.elsewhere usable)

pub loop-subject-preserved : goal.loop-subject-preserved
loop-subject-preserved g c =
    let clock = clock_row_of c.args.clock.now in
    let left : drop c.loop-subject.subject-index c.args.subjects.now ≡ c.subject-item.result ∷ drop
    (c.loop-subject.subject-index + 1) c.args.subjects.now =
    rest_at c.args.subjects.now c.loop-subject.subject-index c.subject-item.result
    c.loop-subject-test.true c.subject-item.is in (
      λ usable. c.loop-subject.invariant.0 (c.fire_due.ensures.preserves.usable usable),
      omega (arith, c.loop-subject.invariant.1, c.fire_due.ensures.preserves.rises),
      λ honest. c.loop-subject.invariant.2 (c.fire_due.ensures.preserves.honest honest),
      λ usable honest.
          let before = c.fire_due.ensures.preserves.honest honest in
          search rules,
      λ usable.
          next_settled clock c.args.subjects.now
          (drop (c.loop-subject.subject-index + 1) c.args.subjects.now) c.subject-item.result
          (g.S.StoreModel.content c.args.store.now) (g.S.StoreModel.content c.loop-subject.store)
          (g.S.StoreModel.content c.fire_due.new.store)
          (subst (λ rest. SettlesUpTo clock c.args.subjects.now rest
          (g.S.StoreModel.content c.args.store.now) (g.S.StoreModel.content c.loop-subject.store))
          left
          (c.loop-subject.invariant.4 (c.fire_due.ensures.preserves.usable usable)))
          (c.fire_due.ensures.kept usable) (c.fire_due.ensures.elsewhere usable)
          (c.in_ok-fire_due.ensures.settled usable (subject_of c.subject-item.result)
          (subject_eq-refl (subject_of c.subject-item.result))),
      λ used honest m may.
          let read = c.fire_due.ensures.preserves.honest honest in
          let ready = c.loop-subject.invariant.3 used read in
          elim (c.fire_due.ensures.left ready honest m may) [
            | inl before ↦ c.loop-subject.invariant.5 used read m before
            | inr kept ↦ inr (λ st rep is.
                let was = c.loop-subject.invariant.4 ready st rep is in
                kept st was.represents was.clock_row)
          ],
      λ m inside. c.loop-subject.invariant.6 m (c.fire_due.ensures.preserves.begins m inside),
      λ usable m inside. c.fire_due.ensures.preserves.ends usable m
          (c.loop-subject.invariant.7 (c.fire_due.ensures.preserves.usable usable) m inside),
    )
