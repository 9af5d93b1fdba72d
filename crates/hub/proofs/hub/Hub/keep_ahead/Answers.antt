use Rattle.std.proofs.Common.{◌∙◌, refl, sym}
use Rattle.hub.proofs.Settled.{but_settled, kept_on, kept_same, settled_then}
use Rattle.hub.proofs.hub.Hub.keep_ahead.Goals as goal

pub loop-key-init : goal.loop-key-init
loop-key-init g c = record { kept = λ place. refl; left = λ ahead. ahead }

pub loop-key-preserved : goal.loop-key-preserved
loop-key-preserved g c = record {
  kept = λ place. kept_on c.loop-key.self.members c.keep_at.new.self.members _
      c.keep_at.ensures.others c.keep_at.ensures.settled c.keep_at.ensures.kept place
      ∙ c.loop-key.invariant.kept place;
  left = λ ahead. but_settled c.loop-key.self.members c.keep_at.new.self.members _
      c.keep_at.ensures.others c.args.keys.now c.loop-key.key-index 0 c.loop-key-test.true refl
      c.keep_at.ensures.settled (c.loop-key.invariant.left ahead);
}

pub returns-clause-settled : goal.returns-clause-settled
returns-clause-settled g c = λ ahead. settled_then c.loop-key.self.members c.args.keys.now
    c.loop-key.key-index c.loop-key-test.false (c.loop-key.invariant.left ahead)

pub returns-clause-kept : goal.returns-clause-kept
returns-clause-kept g c = λ ahead place.
    sym (kept_same c.loop-key.self.members (settled_then c.loop-key.self.members c.args.keys.now
    c.loop-key.key-index c.loop-key-test.false (c.loop-key.invariant.left ahead)) place)
    ∙ c.loop-key.invariant.kept place
