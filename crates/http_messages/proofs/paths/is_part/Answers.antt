use Rattle.std.proofs.Common.{◌≡◌, length, Bool, true, false, ◌&&◌, arith}
use Rattle.std.specs.Prelude.{nat_lt}
use Rattle.std.proofs.lemmas.Bool.Decides.{nat_tests}
use Rattle.http_messages.proofs.paths.is_part.Goals as goal

both : (a b c : Bool) → a ≡ true → c ≡ b → c ≡ (a && b)
both true b c e f = f
both false b c e f = cc

pub returns : goal.returns
returns c = let long : nat_lt 0 (length c.args.part.now) ≡ true =
    grind (arith, nat_tests, c.if-is_empty.ensures) in both _ _ _ long c.are_part_bytes.ensures
