use Rattle.csv.specs.Records.{fields_of}
use Rattle.bulk.proofs.Copied.{three_fields}
use Rattle.bulk.proofs.copy.entry_fields.Goals as goal

pub returns-clause-some : goal.returns-clause-some
returns-clause-some c =
    three_fields (fields_of c.args.row.now) _ _ _
    (c.has_entry_count.ensures.0 c.if-not-has_entry_count.false)
    c.in_ok-get.ensures.value c.in_ok-get-2.ensures.value c.in_ok-get-3.ensures.value
