use Rattle.std.proofs.Common.{inr}
use Rattle.csv.specs.Records.{fields_of}
use Rattle.bulk.proofs.FieldLemmas.{if_none}
use Rattle.bulk.proofs.Mistaken.{row_encodes, row_misfit}
use Rattle.bulk.proofs.mistake.mistake_in.Goals as goal

pub returns-in_err-column-clause-none : goal.returns-in_err-column-clause-none
returns-in_err-column-clause-none c =
    if_none c.from_residual.result
    (row_encodes (fields_of c.args.row.now) c.in-Some.fields c.in-Some-action_in.action
    c.in-Some.ensures.some c.in-Some-action_in.ensures.some c.in_err-column.ensures.none)

pub returns-clause-some : goal.returns-clause-some
returns-clause-some c =
    let wrong = row_misfit (fields_of c.args.row.now) c.in-Some.fields c.in-Some-action_in.action
    c.in_ok-column.column c.wanted_by.result c.field_in.result.now c.in-Some.ensures.some
    c.in-Some-action_in.ensures.some c.in_ok-column.ensures.some c.wanted_by.ensures
    c.field_in.ensures in (
      (
        c.in-Some.fields,
        c.in-Some.ensures.some,
        c.field_in.ensures,
        wrong.0,
        inr (c.in-Some-action_in.action, c.in-Some-action_in.ensures.some, c.wanted_by.ensures),
      ),
      wrong.1,
    )
