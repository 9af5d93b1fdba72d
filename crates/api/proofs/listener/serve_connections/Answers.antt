use Rattle.std.proofs.Math.Nat.{le_trans}
use Rattle.api.proofs.Reachable.{follows_then}
use Rattle.api.proofs.listener.serve_connections.Goals as goal

pub loop-preserved : goal.loop-preserved
loop-preserved g c = record {
  usable = λ u. c.loop.invariant.usable (c.serve_next.ensures.usable u);
  rises = le_trans c.loop.invariant.rises c.serve_next.ensures.rises;
  follows = λ u st refines. follows_then st (g.S.StoreModel.content c.loop.register.store) _
      (c.loop.invariant.follows (c.serve_next.ensures.usable u) st refines)
      (c.serve_next.ensures.state u);
}
