-- The count of the device's failures from one call to the next.
use Rattle.std.proofs.Common.{◌≤◌, ℕ, arith}
use Rattle.settle.specs.Reads.{HasDeviceFailed}

-- A count that rose during a message has risen after later messages.
pub risen_until : (from between to : ℕ) → HasDeviceFailed from between → between ≤ to
    → HasDeviceFailed from to
risen_until from between to risen behind = grind arith
