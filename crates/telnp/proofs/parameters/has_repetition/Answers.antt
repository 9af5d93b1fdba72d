use Rattle.std.proofs.Common.{rules, lit<}
use Rattle.std.specs.Prelude.{nat_lt}
use Rattle.std.proofs.lemmas.Iterator.Splits.{YieldsList-from_str_split}
use Rattle.std.proofs.lemmas.Iterator.Search.{any_from_yields_List}
use Rattle.telnp.specs.Faults.{parts}
use Rattle.telnp.specs.Grammar.{times, name_of}
use Rattle.telnp.proofs.parameters.has_repetition.Goals as goal

pub returns : goal.returns
returns c =
    any_from_yields_List (λ part. nat_lt 1 (times (name_of part) (parts 59 c.args.parameters.now)))
    _ _ c.any.result c.any.ensures.ran
    (YieldsList-from_str_split 59 c.args.parameters.now (lit< tt) c.split.ensures.text
    c.split.ensures.has_more c.split.ensures.pattern)
    (λ x b q k. search (rules, k))
