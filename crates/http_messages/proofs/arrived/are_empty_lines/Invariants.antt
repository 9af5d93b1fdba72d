use Rattle.std.proofs.Common.{◌≡◌, drop}
use Rattle.http_messages.specs.Blank.{blank_after, is_blank}
use Rattle.http_messages.proofs.arrived.are_empty_lines.Given as goal

abbrev pub invariant-loop-b : goal.invariant-loop-b
invariant-loop-b l = is_blank l.bytes ≡ blank_after l.after_cr (drop l.b-index l.bytes)
