use Rattle.std.proofs.Common.{◌≡◌, length, true}
use Rattle.std.specs.Io.KnownBytes.{IsAtEnd, Keeps}
use Rattle.http_messages.specs.Arrived.{IsDecided}
use Rattle.http_messages.specs.ReadBuffer.{buffered_bytes, remaining_input}
use Rattle.http_messages.proofs.ReadLemmas.{HasNoExcess, looks_left}
use Rattle.http_messages.proofs.next.next_message.Given as goal

abbrev pub invariant-looks : goal.invariant-looks
invariant-looks g l = (length l.headers ≡ 64) × HasNoExcess (buffered_bytes l.buffer) l.has_ended
    × (l.has_ended ≡ true → IsAtEnd (g.R.Read.remaining l.reader))
    × (IsDecided (buffered_bytes l.fn.buffer) → (buffered_bytes l.buffer
    ≡ buffered_bytes l.fn.buffer)
    × (g.R.Read.remaining l.reader ≡ g.R.Read.remaining l.fn.reader))
    × Keeps (remaining_input l.fn.buffer (g.R.Read.remaining l.fn.reader))
    (remaining_input l.buffer (g.R.Read.remaining l.reader))

abbrev pub decreases-looks : goal.decreases-looks
decreases-looks g l = looks_left (buffered_bytes l.buffer) l.has_ended
