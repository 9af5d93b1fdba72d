use Rattle.std.proofs.Common.{◌≡◌, map, take, false}
use Rattle.std.specs.List.{list_any}
use Rattle.std.specs.Str.{bytes_eq}
use Rattle.httparse.specs.Spans.{header_bytes}
use Rattle.http_messages.specs.Fields.{values_in, lower}
use Rattle.http_messages.proofs.head.has_field.Given as goal

abbrev pub invariant-loop-header : goal.invariant-loop-header
invariant-loop-header l =
    list_any (λ v. bytes_eq (lower v) l.value)
    (values_in l.name (map (header_bytes l.buf) (take l.header-index l.headers))) ≡ false
