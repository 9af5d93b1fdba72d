use Rattle.std.proofs.Common.{arith, sym}
use Rattle.std.proofs.lemmas.List.{length-take-le, take_all}
use Rattle.cli.proofs.row_words.shown_part.Goals as goal

pub slice_bounds-result-end : goal.slice_bounds-result-end
slice_bounds-result-end c =
    sym (length-take-le 40 c.args.field.now (omega (arith, c.if-field-gt-SHOWN.true)))

pub returns-else-field-gt-SHOWN : goal.returns-else-field-gt-SHOWN
returns-else-field-gt-SHOWN c =
    sym (take_all 40 c.args.field.now (omega (arith, c.if-field-gt-SHOWN.false)))
