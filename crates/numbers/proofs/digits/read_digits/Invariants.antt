use Rattle.std.proofs.Common.{◌≡◌, ◌^◌, ◌<◌, take}
use Rattle.numbers.specs.Texts.{digits_of}
use Rattle.numbers.proofs.digits.read_digits.Given as goal

-- The bytes read are the digits of the number so far.
abbrev pub invariant-loop-byte : goal.invariant-loop-byte
invariant-loop-byte l =
    (l.number < 10 ^ l.byte-index)
    × (digits_of l.byte-index l.number ≡ take l.byte-index l.byte-items)
