use Rattle.std.proofs.Common.{◌≡◌, length, take}
use Rattle.std.specs.Io.KnownBytes.{Keeps}
use Rattle.http_messages.proofs.read_buffer.reads.read_at.Given as goal

abbrev pub invariant-tries : goal.invariant-tries
invariant-tries g l = (length l.buf ≡ length l.fn.buf)
    × (take l.fn.start l.buf ≡ take l.fn.start l.fn.buf) × Keeps (g.R.Read.remaining l.fn.reader)
    (g.R.Read.remaining l.reader)
