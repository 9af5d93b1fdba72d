use Rattle.std.proofs.Common.{◌≡◌, ℕ, drop}
use Rattle.hub.specs.Hub.{IsSettledBut, kept_connections}
use Rattle.hub.proofs.hub.Hub.keep_ahead.Given as goal

abbrev pub invariant-loop-key : goal.invariant-loop-key
invariant-loop-key g l = record {
  kept : (place : ℕ) → kept_connections l.self.members place
      ≡ kept_connections l.fn.self.members place;
  left : IsSettledBut l.keys l.fn.self.members → IsSettledBut (drop l.key-index l.keys)
      l.self.members;
}
