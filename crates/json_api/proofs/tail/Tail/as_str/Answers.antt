use Rattle.std.proofs.Common.{◌-◌, length, drop, arith, take_all, length-drop}
use Rattle.std.proofs.lemmas.Str.{IsUtf8-from_is_utf8}
use Rattle.json_api.proofs.tail.Tail.as_str.Goals as goal

pub from_utf8_unchecked-requires : goal.from_utf8_unchecked-requires
from_utf8_unchecked-requires g c =
    let t = c.self.inside in
    rw (take_all (length t.bytes - t.start) (drop t.start t.bytes)
    (omega (arith, length-drop t.start t.bytes))) (IsUtf8-from_is_utf8 _ c.self.invariant.1)
