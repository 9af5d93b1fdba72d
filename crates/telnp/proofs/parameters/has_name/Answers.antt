use Rattle.std.proofs.Common.{rules, lit<}
use Rattle.std.proofs.lemmas.Iterator.Splits.{YieldsList-from_str_split}
use Rattle.std.proofs.lemmas.Iterator.Search.{any_from_yields_List}
use Rattle.telnp.specs.Grammar.{same_name, name_of}
use Rattle.telnp.proofs.parameters.has_name.Goals as goal

pub returns : goal.returns
returns c = any_from_yields_List (λ part. same_name (name_of part) c.args.name.now) _ _ c.any.result
    c.any.ensures.ran
    (YieldsList-from_str_split 59 c.args.parameters.now (lit< tt) c.split.ensures.text
    c.split.ensures.has_more c.split.ensures.pattern)
    (λ x b q k. search (rules, k))
