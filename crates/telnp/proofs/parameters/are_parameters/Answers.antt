use Rattle.std.proofs.Common.{rules, lit<}
use Rattle.std.proofs.lemmas.Iterator.Splits.{YieldsList-from_str_split}
use Rattle.std.proofs.lemmas.Iterator.Search.{all_from_yields_List}
use Rattle.telnp.specs.Grammar.{is_parameter}
use Rattle.telnp.proofs.parameters.are_parameters.Goals as goal

pub returns : goal.returns
returns c = all_from_yields_List is_parameter _ _ c.all.result c.all.ensures.ran
    (YieldsList-from_str_split 59 c.args.parameters.now (lit< tt) c.split.ensures.text
    c.split.ensures.has_more c.split.ensures.pattern)
    (λ x b q k. search (rules, k))
