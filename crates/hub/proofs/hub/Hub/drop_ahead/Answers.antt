use Rattle.std.proofs.Common.{◌∙◌, refl}
use Rattle.hub.proofs.Settled.{but_settled, dropped_on, settled_then}
use Rattle.hub.proofs.hub.Hub.drop_ahead.Goals as goal

pub loop-key-init : goal.loop-key-init
loop-key-init g c = record { dropped = λ place. refl; left = λ ahead. ahead }

pub loop-key-preserved : goal.loop-key-preserved
loop-key-preserved g c = record {
  dropped = λ place. dropped_on c.loop-key.self.members c.drop_at.new.self.members _
      c.drop_at.ensures.others c.drop_at.ensures.dropped place
      ∙ c.loop-key.invariant.dropped place;
  left = λ ahead. but_settled c.loop-key.self.members c.drop_at.new.self.members _
      c.drop_at.ensures.others c.args.keys.now c.loop-key.key-index 0 c.loop-key-test.true refl
      c.drop_at.ensures.settled (c.loop-key.invariant.left ahead);
}

pub returns-clause-settled : goal.returns-clause-settled
returns-clause-settled g c = λ ahead. settled_then c.loop-key.self.members c.args.keys.now
    c.loop-key.key-index c.loop-key-test.false (c.loop-key.invariant.left ahead)

pub returns-clause-dropped : goal.returns-clause-dropped
returns-clause-dropped g c = c.loop-key.invariant.dropped
