use Rattle.std.proofs.Common.{◌≡◌, ◌≤◌, length, take}
use Rattle.telnp.specs.Numbers.{digits_in}
use Rattle.telnp.proofs.number.eleven_digits.Given as goal

abbrev pub invariant-loop-byte : goal.invariant-loop-byte
invariant-loop-byte l = record {
  found : take l.count l.digits ≡ digits_in (take l.byte-index l.number);
  within : l.count ≤ 11;
  long : length l.digits ≡ 11;
}
