use Rattle.std.proofs.Common.{◌≡◌, []}
use Rattle.model.specs.State.{State}
use Rattle.register.specs.Refinement.{Refines}
use Rattle.hub.specs.Connections.{HasNothingAhead, connection_of}
use Rattle.hub.specs.Crashes.{LeavesFirstMessages}
use Rattle.hub.specs.Rows.{RowsFollow}
use Rattle.hub.proofs.FedEnds.{Fed}
use Rattle.hub.proofs.feeding.feed.Given as goal

abbrev pub invariant-loop : goal.invariant-loop
invariant-loop g l = record {
  follows : RowsFollow g.S.StoreModel l.fn.register.store l.register.store;
  left : LeavesFirstMessages g.S.StoreModel l.fn.register.store l.register.store
      (g.R.Read.remaining l.fn.reader);
  ahead : HasNothingAhead l.feeder.connection;
  sent : (connection_of l.feeder.connection).unsent ≡ [];
  fed : g.S.StoreModel.IsUsable l.register.store → (st : State)
      → Refines (g.S.StoreModel.content l.fn.register.store) st
      → Fed (g.S.StoreModel.failed l.fn.register.store) (g.S.StoreModel.failed l.register.store) st
      (g.W.Write.contents l.fn.writer) (g.R.Read.remaining l.fn.reader)
      (g.S.StoreModel.content l.register.store) (g.R.Read.remaining l.reader)
      (g.W.Write.contents l.writer) (connection_of l.feeder.connection);
}
