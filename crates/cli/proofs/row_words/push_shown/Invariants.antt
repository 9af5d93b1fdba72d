use Rattle.std.proofs.Common.{◌≡◌, ◌++◌, map, string_bytes, take}
use Rattle.cli.specs.RowWords.{shown_byte}
use Rattle.cli.proofs.row_words.push_shown.Given as goal

abbrev pub invariant-loop-byte : goal.invariant-loop-byte
invariant-loop-byte l =
    string_bytes l.text ≡ string_bytes l.initial.text ++ map shown_byte (take l.byte-index l.bytes)
