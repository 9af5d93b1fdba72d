use Rattle.std.proofs.Common.{◌≡◌, ℕ, drop}
use Rattle.hub.specs.Hub.{IsSettledBut, connections_of}
use Rattle.hub.proofs.hub.Hub.drop_ahead.Given as goal

abbrev pub invariant-loop-key : goal.invariant-loop-key
invariant-loop-key g l = record {
  dropped : (place : ℕ) → connections_of l.self.members place
      ≡ connections_of l.fn.self.members place;
  left : IsSettledBut l.keys l.fn.self.members → IsSettledBut (drop l.key-index l.keys)
      l.self.members;
}
