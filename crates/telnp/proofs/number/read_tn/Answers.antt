use Rattle.numbers.proofs.DigitLemmas.{utf8_digits}
use Rattle.telnp.proofs.number.read_tn.Goals as goal

pub returns-in-Err-clause-none : goal.returns-in-Err-clause-none
returns-in-Err-clause-none c =
    λ n rule e. c.in-Err.ensures.cases.0 (utf8_digits c.args.digits.now 10 n e)
