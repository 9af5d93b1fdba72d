use Rattle.std.proofs.Common.{◌∙◌, subst}
use Rattle.report.specs.Life.{AddsSent, keys_up_to}
use Rattle.report.proofs.Ranging.{sent_on}
use Rattle.report.proofs.life.read_sent.Goals as goal

pub loop-version-preserved : goal.loop-version-preserved
loop-version-preserved g c =
    let old = g.S.StoreModel.content c.args.store.now in
    record {
      same = λ usable.
          let at = c.in_ok-add_sent.ensures.same usable in
          let was = c.loop-version.invariant.same at.0 in
          (was.0, at.1 ∙ was.1);
      keys = λ usable.
          let at = c.in_ok-add_sent.ensures.same usable in
          let was = c.loop-version.invariant.same at.0 in
          let adds = subst (λ m. AddsSent m (keys_up_to m c.attempts_of-id.result.0
          c.attempts_of-id.result.1) c.loop-version.sent.items c.add_sent.new.sent.items) was.1
          (c.in_ok-add_sent.ensures.sent usable) in
          sent_on old c.args.versions.now c.loop-version.version-index c.version-item.result
          c.loop-version.sent.items c.add_sent.new.sent.items c.loop-version-test.true
          c.version-item.is
          (subst (λ p. AddsSent old (keys_up_to old p.0 p.1) c.loop-version.sent.items
          c.add_sent.new.sent.items) c.attempts_of-id.ensures adds)
          (c.loop-version.invariant.keys at.0);
      each = λ usable.
          let at = c.in_ok-add_sent.ensures.same usable in
          let was = c.loop-version.invariant.same at.0 in
          let adds = subst (λ m. AddsSent m (keys_up_to m c.attempts_of-id.result.0
          c.attempts_of-id.result.1) c.loop-version.sent.items c.add_sent.new.sent.items) was.1
          (c.in_ok-add_sent.ensures.sent usable) in
          adds.each (c.loop-version.invariant.each at.0);
    }
