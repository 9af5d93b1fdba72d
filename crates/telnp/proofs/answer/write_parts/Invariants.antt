use Rattle.std.proofs.Common.{◌≡◌, ◌≤◌, ◌++◌, take, string_bytes, string_capacity}
use Rattle.telnp.specs.Uri.{written}
use Rattle.telnp.specs.Abstraction.{part_texts}
use Rattle.telnp.proofs.answer.write_parts.Given as goal

abbrev pub invariant-loop-part : goal.invariant-loop-part
invariant-loop-part l =
    (string_bytes l.out ≡ string_bytes l.fn.out ++ written (part_texts (take l.part-index l.parts)))
    × (string_capacity l.fn.out ≤ string_capacity l.out)
