use Rattle.numbers.proofs.DigitLemmas.{utf8_digits}
use Rattle.bulk.proofs.digits.put_digits.Goals as goal

pub from_utf8_unchecked-requires : goal.from_utf8_unchecked-requires
from_utf8_unchecked-requires g c =
    utf8_digits c.last_digits-digits.result g.row.N c.args.number c.last_digits-digits.ensures
