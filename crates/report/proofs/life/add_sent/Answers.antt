use Rattle.std.proofs.Common.{◌≡◌, ◌∙◌, ◌+◌, sym, subst, arith, add-one}
use Rattle.model.specs.Content.{broadcast_key}
use Rattle.report.specs.Life.{AddsSent, key_if_kept, keys_up_to}
use Rattle.report.proofs.Ranging.{sent_after}
use Rattle.report.proofs.life.add_sent.Goals as goal

pub loop-earlier-preserved : goal.loop-earlier-preserved
loop-earlier-preserved g c =
    let old = g.S.StoreModel.content c.args.store.now in
    let id = c.args.id in
    let n = c.loop-earlier.earlier in
    record {
      same = λ usable.
          let at = c.in_ok-add_attempt.ensures.same usable in
          let was = c.loop-earlier.invariant.same at.0 in
          (was.0, at.1 ∙ was.1);
      sent = λ usable.
          let at = c.in_ok-add_attempt.ensures.same usable in
          let was = c.loop-earlier.invariant.same at.0 in
          let more = subst (λ m. AddsSent m (key_if_kept m (broadcast_key id (n + 1)))
          c.loop-earlier.sent.items c.add_attempt.new.sent.items) was.1
          (c.in_ok-add_attempt.ensures.sent usable) in
          subst (λ k. AddsSent old (keys_up_to old id k) c.args.sent.now.items
          c.add_attempt.new.sent.items) (sym (add-one n))
          (sent_after old (keys_up_to old id n) (key_if_kept old (broadcast_key id (n + 1)))
          c.args.sent.now.items c.loop-earlier.sent.items c.add_attempt.new.sent.items
          (c.loop-earlier.invariant.sent at.0) more);
    }

pub returns-clause-sent : goal.returns-clause-sent
returns-clause-sent g c = λ usable.
    let old = g.S.StoreModel.content c.args.store.now in
    let all : c.loop-earlier.earlier ≡ c.args.attempts =
    omega (arith, c.loop-earlier-test.false, c.loop-earlier.auto.earlier-end) in
    subst (λ k. AddsSent old (keys_up_to old c.args.id k) c.args.sent.now.items
    c.loop-earlier.sent.items) all (c.loop-earlier.invariant.sent usable)
