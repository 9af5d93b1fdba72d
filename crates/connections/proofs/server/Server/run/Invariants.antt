use Rattle.hub.specs.Rows.{RowsFollow}
use Rattle.connections.proofs.server.Server.run.Given as goal

abbrev pub invariant-loop : goal.invariant-loop
invariant-loop g l = record {
  follows : RowsFollow g.S.StoreModel l.fn.register.store l.register.store;
}
