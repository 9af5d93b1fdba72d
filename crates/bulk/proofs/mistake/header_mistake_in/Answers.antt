use Rattle.std.proofs.Common.{◌∙◌, refl, sym}
use Rattle.bulk.proofs.FieldLemmas.{if_none}
use Rattle.bulk.proofs.Mistaken.{all_named, misnamed}
use Rattle.bulk.proofs.mistake.header_mistake_in.Goals as goal

pub returns-in_err-column-clause-none : goal.returns-in_err-column-clause-none
returns-in_err-column-clause-none c =
    if_none c.from_residual.result
    (c.in-Some.ensures.some ∙ all_named c.in-Some.fields c.in_err-column.ensures.none)

pub returns-clause-some : goal.returns-clause-some
returns-clause-some c = (
  (
    c.in-Some.fields,
    c.in-Some.ensures.some,
    c.field_in.ensures,
    λ name. c.in_ok-column.ensures.some (sym c.field_in.ensures ∙ name),
    refl,
  ),
  λ e. misnamed c.in-Some.fields c.in_ok-column.column c.in_ok-column.ensures.some
      (sym c.in-Some.ensures.some ∙ e),
)
