use Rattle.std.proofs.Common.{◌∙◌, false, true, subst, sym}
use Rattle.std.proofs.lemmas.List.Elements.{All-more}
use Rattle.numbers.specs.Abstraction.{subject_of}
use Rattle.settle.specs.Abstraction.{spid_of}
use Rattle.settle.specs.Reads.{AreWaitsAbout}
use Rattle.invariants.specs.Flaws.{HasFlaw}
use Rattle.invariants.specs.Sound.{HaveBroadcastsAbout}
use Rattle.invariants.specs.declared.flaw.Flaw.TheVariants as flaw
use Rattle.invariants.proofs.Judging.{all_passed, reflected}
use Rattle.invariants.proofs.Pending.{HasSent, all_sent, not_sent}
use Rattle.invariants.proofs.downloads.flaw_about.Goals as goal

pub loop-download-preserved : goal.loop-download-preserved
loop-download-preserved g c = record {
  same = λ usable.
      let at = c.in_ok-has_broadcast.ensures.same usable in
      let was = c.loop-download.invariant.same at.0 in
      (was.0, at.1 ∙ was.1);
  sent = λ usable.
      let first = g.S.StoreModel.content c.waits_about.new.self in
      let s = subject_of c.args.subject in
      let d = c.download-item.result in
      let at = c.in_ok-has_broadcast.ensures.same usable in
      let was = c.loop-download.invariant.same at.0 in
      let one = reflected (λ m. HasSent m s d) (g.S.StoreModel.content c.loop-download.store) first
      c.in_ok-has_broadcast.field-0 true was.1
      c.if-not-branch.false
      (c.in_ok-has_broadcast.ensures.value usable) in
      All-more (HasSent first s) c.as_slice-download-items.result.now c.loop-download.download-index
      d
      c.loop-download-test.true (c.loop-download.invariant.sent at.0)
      (subst (HasSent first s) c.download-item.is one);
}

pub returns-then-not-branch-clause-value : goal.returns-then-not-branch-clause-value
returns-then-not-branch-clause-value g c = λ usable clock.
    let first = g.S.StoreModel.content c.waits_about.new.self in
    let k = spid_of c.args.spid in
    let s = subject_of c.args.subject in
    let d = c.download-item.result in
    let items = c.as_slice-download-items.result.now in
    let at = c.in_ok-has_broadcast.ensures.same usable in
    let was = c.loop-download.invariant.same at.0 in
    let start = c.in_ok-downloads.ensures.looks_up.read_only.same was.0 in
    let listed = subst (λ m. AreWaitsAbout m k s items) (sym start.1)
    (subst (AreWaitsAbout (g.S.StoreModel.content c.args.store.now) k s)
    (sym c.as_slice-download-items.ensures) (c.in_ok-downloads.ensures.value was.0)) in
    let lacks = reflected (λ m. HasSent m s d) (g.S.StoreModel.content c.loop-download.store) first
    c.in_ok-has_broadcast.field-0 false was.1 c.if-not-branch.true
    (c.in_ok-has_broadcast.ensures.value usable) in
    subst (λ m. HasFlaw m clock (flaw.Download c.args.spid d.id d.attempt)) start.1
    (not_sent first c.args.spid s items c.loop-download.download-index d listed
    c.loop-download-test.true c.download-item.is lacks)

pub returns-clause-value : goal.returns-clause-value
returns-clause-value g c = λ usable clock.
    let first = g.S.StoreModel.content c.waits_about.new.self in
    let k = spid_of c.args.spid in
    let s = subject_of c.args.subject in
    let items = c.as_slice-download-items.result.now in
    let was = c.loop-download.invariant.same usable in
    let start = c.in_ok-downloads.ensures.looks_up.read_only.same was.0 in
    let listed = subst (λ m. AreWaitsAbout m k s items) (sym start.1)
    (subst (AreWaitsAbout (g.S.StoreModel.content c.args.store.now) k s)
    (sym c.as_slice-download-items.ensures)
    (c.in_ok-downloads.ensures.value was.0)) in
    subst (λ m. HaveBroadcastsAbout m k s) start.1
    (all_sent first k s items listed (all_passed (HasSent first s) items
    c.loop-download.download-index c.loop-download-test.false
    (c.loop-download.invariant.sent usable)))
