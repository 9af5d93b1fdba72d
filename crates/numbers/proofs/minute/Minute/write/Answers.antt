use Rattle.std.proofs.Common.{◌≤◌, length, decimal, arith, lit<}
use Rattle.std.proofs.lemmas.Fmt.{length-decimal-le}
use Rattle.std.proofs.lemmas.Grind.{common_steps}
use Rattle.numbers.proofs.minute.Minute.write.Goals as goal

-- A number below 2^40 has at most thirteen digits.
pub returns-clause-succeeds : goal.returns-clause-succeeds
returns-clause-succeeds c =
    let small = c.args.self.now.valid in
    let short : length (decimal c.args.self.now.number) ≤ 13 =
    length-decimal-le 13 c.args.self.now.number (lit< tt) (omega arith) (omega arith) in
    grind (arith, common_steps)

pub returns-clause-len : goal.returns-clause-len
returns-clause-len c =
    let small = c.args.self.now.valid in
    let short : length (decimal c.args.self.now.number) ≤ 13 =
    length-decimal-le 13 c.args.self.now.number (lit< tt) (omega arith) (omega arith) in
    grind (arith, common_steps)
