use Rattle.std.proofs.Common.{◌∙◌, None, subst, sym}
use Rattle.std.specs.Prelude.{All}
use Rattle.std.proofs.lemmas.List.Elements.{All-more}
use Rattle.settle.specs.Abstraction.{spid_of}
use Rattle.settle.specs.Reads.{AreWaitingSubjects}
use Rattle.invariants.specs.Sound.{HaveBroadcastsFor}
use Rattle.invariants.proofs.Judging.{all_passed, any_clock, flawed_at, judged_at}
use Rattle.invariants.proofs.Pending.{HaveSentAbout, all_about}
use Rattle.invariants.proofs.downloads.flaw_for.Goals as goal

pub loop-subject-preserved : goal.loop-subject-preserved
loop-subject-preserved g c = record {
  same = λ usable.
      let at = c.in_ok-flaw.ensures.same usable in
      let was = c.loop-subject.invariant.same at.0 in
      (was.0, at.1 ∙ was.1);
  about = λ usable.
      let first = g.S.StoreModel.content c.waits.new.self in
      let k = spid_of c.args.spid in
      let x = c.subject-item.result in
      let at = c.in_ok-flaw.ensures.same usable in
      let was = c.loop-subject.invariant.same at.0 in
      let one = judged_at (λ m. HaveSentAbout m k x)
      (g.S.StoreModel.content c.loop-subject.store) first any_clock c.in_ok-flaw.field-0 None was.1
      c.in_default.is (c.in_ok-flaw.ensures.value usable any_clock) in
      All-more (HaveSentAbout first k) c.deref-subject-items.result.now
      c.loop-subject.subject-index x c.loop-subject-test.true
      (c.loop-subject.invariant.about at.0)
      (subst (HaveSentAbout first k) c.subject-item.is one);
}

pub returns-in-Some-clause-value : goal.returns-in-Some-clause-value
returns-in-Some-clause-value g c = λ usable clock.
    let old = g.S.StoreModel.content c.args.store.now in
    let mid = g.S.StoreModel.content c.loop-subject.store in
    let k = spid_of c.args.spid in
    let at = c.in_ok-flaw.ensures.same usable in
    let was = c.loop-subject.invariant.same at.0 in
    let start = c.in_ok-subjects.ensures.looks_up.read_only.same was.0 in
    flawed_at mid old clock c.in_ok-flaw.field-0 c.in-Some.flaw
    (HaveSentAbout mid k c.subject-item.result) (was.1 ∙ start.1) c.in-Some.is
    (c.in_ok-flaw.ensures.value usable clock)

pub returns-clause-value : goal.returns-clause-value
returns-clause-value g c = λ usable clock.
    let first = g.S.StoreModel.content c.waits.new.self in
    let k = spid_of c.args.spid in
    let items = c.in_ok-subjects.subjects.items in
    let was = c.loop-subject.invariant.same usable in
    let start = c.in_ok-subjects.ensures.looks_up.read_only.same was.0 in
    let listed = subst (λ m. AreWaitingSubjects m k items) (sym start.1)
    (c.in_ok-subjects.ensures.value was.0) in
    let all = subst (All (HaveSentAbout first k)) c.deref-subject-items.ensures.value
    (all_passed (HaveSentAbout first k) c.deref-subject-items.result.now
    c.loop-subject.subject-index c.loop-subject-test.false
    (c.loop-subject.invariant.about usable)) in
    subst (λ m. HaveBroadcastsFor m k) start.1 (all_about first k items listed all)
