use Rattle.std.proofs.Common.{◌≡◌, Ok, arith}
use Rattle.std.proofs.lemmas.Fmt.{parse-decimal}
use Rattle.std.proofs.lemmas.Grind.{common_steps}
use Rattle.numbers.proofs.minute.Minute.read.Goals as goal

-- The text of a minute parses as that minute, which formats as the text again.
pub returns-in_default-clause-none : goal.returns-in_default-clause-none
returns-in_default-clause-none c = λ n small e.
    let parsed : c.parse.result ≡ Ok n =
    parse-decimal 64 n c.args.text.now _ (omega arith) (omega arith) e c.parse.ensures.value.0 in
    grind (arith, common_steps)

pub returns-in_default-2-clause-none : goal.returns-in_default-2-clause-none
returns-in_default-2-clause-none c = λ n small e.
    let parsed : c.parse.result ≡ Ok n =
    parse-decimal 64 n c.args.text.now _ (omega arith) (omega arith) e c.parse.ensures.value.0 in
    grind (arith, common_steps)

pub returns-in_default-3-clause-none : goal.returns-in_default-3-clause-none
returns-in_default-3-clause-none c = λ n small e.
    let parsed : c.parse.result ≡ Ok n =
    parse-decimal 64 n c.args.text.now _ (omega arith) (omega arith) e c.parse.ensures.value.0 in
    grind (arith, common_steps)
