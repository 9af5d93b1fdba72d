use Rattle.std.proofs.Common.{◌≡◌, ℕ}
use Rattle.settle.specs.StoreContract.{BeginsNoGroup, EndsNoGroup}
use Rattle.hub.specs.Hub.{ConnectionsGoOn, IsSettled, IsSettledBut, connections_of, kept_connections}
use Rattle.hub.specs.Rows.{RowsFollow}
use Rattle.hub.proofs.hub.Hub.execute_ahead.Given as goal

abbrev pub invariant-loop-key : goal.invariant-loop-key
invariant-loop-key g l = record {
  goes_on : IsSettled l.fn.self.members → ConnectionsGoOn g.S.StoreModel l.fn.register.store
      l.register.store
      (connections_of l.fn.self.members) (kept_connections l.self.members);
  stays : (place : ℕ) → connections_of l.self.members place
      ≡ connections_of l.fn.self.members place;
  ahead : IsSettled l.fn.self.members → IsSettledBut l.keys l.self.members;
  follows : RowsFollow g.S.StoreModel l.fn.register.store l.register.store;
  begins : BeginsNoGroup g.S.StoreModel l.fn.register.store l.register.store;
  ends : EndsNoGroup g.S.StoreModel l.fn.register.store l.register.store;
}
