use Rattle.csv.specs.Records.{fields_of}
use Rattle.bulk.proofs.FieldLemmas.{nine_fields}
use Rattle.bulk.proofs.fields.Fields.of.Goals as goal

pub returns-clause-some : goal.returns-clause-some
returns-clause-some c =
    nine_fields (fields_of c.args.row.now) _ _ _ _ _ _ _ _ _
    (c.has_field_count.ensures.0 c.if-not-has_field_count.false)
    c.in_ok-get.ensures.value c.in_ok-get-2.ensures.value c.in_ok-get-3.ensures.value
    c.in_ok-get-4.ensures.value c.in_ok-get-5.ensures.value
    c.in_ok-get-6.ensures.value c.in_ok-get-7.ensures.value c.in_ok-get-8.ensures.value
    c.in_ok-get-9.ensures.value
