use Rattle.std.proofs.Common.{rules}
use Rattle.numbers.proofs.SpidLemmas.{spid_made}
use Rattle.sql_rows.proofs.reading.spid_from.Goals as goal

pub invariant_of-result : goal.invariant_of-result
invariant_of-result c = record {
  valid = spid_made _ _ _ _ _ c.number_of.ensures (search rules) (search rules) (search rules)
      (search rules);
}
