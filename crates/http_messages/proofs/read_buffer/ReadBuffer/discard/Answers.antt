use Rattle.std.proofs.Common.{◌-◌, ◌≤◌, arith}
use Rattle.http_messages.proofs.BufferLemmas.{prefix_dropped, buffered_length}
use Rattle.http_messages.proofs.read_buffer.ReadBuffer.discard.Goals as goal

pub returns-else-self : goal.returns-else-self
returns-else-self c =
    let all : c.args.n ≤ c.args.self.now.filled - c.args.self.now.start =
    omega (arith, c.requires, buffered_length c.args.self.now) in
    prefix_dropped c.args.self.now.bytes.items c.args.self.now.start c.args.self.now.filled c.args.n
    all
