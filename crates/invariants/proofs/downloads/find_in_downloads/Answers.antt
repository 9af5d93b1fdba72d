use Rattle.std.proofs.Common.{◌∙◌, None, subst, sym}
use Rattle.std.specs.Prelude.{All}
use Rattle.std.proofs.lemmas.List.Elements.{All-more}
use Rattle.settle.specs.Reads.{AreCarriers}
use Rattle.invariants.specs.Sound.{HaveBroadcasts, HaveBroadcastsFor}
use Rattle.invariants.proofs.Judging.{all_passed, all_registered, any_clock, flawed_at, judged_at}
use Rattle.invariants.proofs.Pending.{HaveSentFor}
use Rattle.invariants.proofs.downloads.find_in_downloads.Goals as goal

pub loop-spid-preserved : goal.loop-spid-preserved
loop-spid-preserved g c = record {
  same = λ usable.
      let at = c.in_ok-flaw.ensures.same usable in
      let was = c.loop-spid.invariant.same at.0 in
      (was.0, at.1 ∙ was.1);
  each = λ usable.
      let first = g.S.StoreModel.content c.carriers.new.self in
      let x = c.spid-item.result in
      let at = c.in_ok-flaw.ensures.same usable in
      let was = c.loop-spid.invariant.same at.0 in
      let one = judged_at (λ m. HaveSentFor m x) (g.S.StoreModel.content c.loop-spid.store) first
      any_clock c.in_ok-flaw.field-0 None was.1 c.in_default.is
      (c.in_ok-flaw.ensures.value usable any_clock) in
      All-more (HaveSentFor first) c.deref-spid-items.result.now c.loop-spid.spid-index x
      c.loop-spid-test.true (c.loop-spid.invariant.each at.0)
      (subst (HaveSentFor first) c.spid-item.is one);
}

pub returns-in-Some-clause-value : goal.returns-in-Some-clause-value
returns-in-Some-clause-value g c = λ usable clock.
    let old = g.S.StoreModel.content c.args.store.now in
    let mid = g.S.StoreModel.content c.loop-spid.store in
    let at = c.in_ok-flaw.ensures.same usable in
    let was = c.loop-spid.invariant.same at.0 in
    let start = c.in_ok-carriers.ensures.looks_up.read_only.same was.0 in
    flawed_at mid old clock c.in_ok-flaw.field-0 c.in-Some.flaw
    (HaveSentFor mid c.spid-item.result) (was.1 ∙ start.1) c.in-Some.is
    (c.in_ok-flaw.ensures.value usable clock)

pub returns-clause-value : goal.returns-clause-value
returns-clause-value g c = λ usable clock.
    let first = g.S.StoreModel.content c.carriers.new.self in
    let items = c.in_ok-carriers.carriers.items in
    let was = c.loop-spid.invariant.same usable in
    let start = c.in_ok-carriers.ensures.looks_up.read_only.same was.0 in
    let listed = subst (λ m. AreCarriers m items) (sym start.1)
    (c.in_ok-carriers.ensures.value was.0) in
    let all = subst (All (HaveSentFor first)) c.deref-spid-items.ensures.value
    (all_passed (HaveSentFor first) c.deref-spid-items.result.now c.loop-spid.spid-index
    c.loop-spid-test.false (c.loop-spid.invariant.each usable)) in
    subst HaveBroadcasts start.1 (all_registered (HaveBroadcastsFor first) first items listed all)
