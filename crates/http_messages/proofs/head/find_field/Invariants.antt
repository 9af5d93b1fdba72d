use Rattle.std.proofs.Common.{map, take}
use Rattle.httparse.specs.Spans.{header_bytes}
use Rattle.http_messages.specs.Fields.{values_in, IsFound}
use Rattle.http_messages.proofs.head.find_field.Given as goal

abbrev pub invariant-loop-header : goal.invariant-loop-header
invariant-loop-header l =
    IsFound l.buf l.found
    (values_in l.name (map (header_bytes l.buf) (take l.header-index l.headers)))
