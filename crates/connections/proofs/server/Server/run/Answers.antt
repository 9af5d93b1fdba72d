use Rattle.hub.proofs.RowsLemmas.{rows_then}
use Rattle.connections.proofs.server.Server.run.Goals as goal

pub loop-preserved : goal.loop-preserved
loop-preserved g c = record {
  follows = rows_then g.S.StoreModel _ c.loop.register.store _ c.loop.invariant.follows
      c.round.ensures.follows;
}

pub returns-in_err-round-clause-follows : goal.returns-in_err-round-clause-follows
returns-in_err-round-clause-follows g c =
    rows_then g.S.StoreModel _ c.loop.register.store _ c.loop.invariant.follows
    c.round.ensures.follows
