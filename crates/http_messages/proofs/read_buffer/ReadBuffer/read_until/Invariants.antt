use Rattle.std.proofs.Common.{◌≡◌, ℕ, ◌≤◌, vec_len, List, ◌++◌, length, ◌-◌}
use Rattle.std.specs.Io.KnownBytes.{Keeps}
use Rattle.http_messages.specs.ReadBuffer.{buffered_bytes, remaining_input}
use Rattle.http_messages.proofs.read_buffer.ReadBuffer.read_until.Given as goal

abbrev pub invariant-reads : goal.invariant-reads
invariant-reads g l = (l.most ≤ vec_len l.self.bytes) × (length (buffered_bytes l.self) ≤ l.most)
    × ((more : List ℕ) × (buffered_bytes l.self ≡ buffered_bytes l.fn.self ++ more))
    × Keeps (remaining_input l.fn.self (g.R.Read.remaining l.fn.reader))
    (remaining_input l.self (g.R.Read.remaining l.reader))

abbrev pub decreases-reads : goal.decreases-reads
decreases-reads g l = l.wanted - length (buffered_bytes l.self)
