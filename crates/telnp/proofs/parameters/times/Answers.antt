use Rattle.std.proofs.Common.{◌∙◌, ap, rules, lit<}
use Rattle.std.specs.Str.Iter.{split_text, split_has_more, split_pattern}
use Rattle.std.proofs.lemmas.Iterator.Consumers.{count_from_yields_List, YieldsList-from_filter}
use Rattle.std.proofs.lemmas.Iterator.Splits.{YieldsList-from_str_split}
use Rattle.std.specs.Iterator.Adapters.{filter_source}
use Rattle.telnp.specs.Grammar.{same_name, name_of}
use Rattle.telnp.proofs.parameters.times.Goals as goal

pub returns : goal.returns
returns c = let source = c.filter.ensures.source in
    count_from_yields_List c.filter.result c.count.result c.count.ensures.ran
    (YieldsList-from_filter {s =
    c.filter.result} _ (λ part. same_name (name_of part) c.args.name.now)
    (YieldsList-from_str_split {s = filter_source c.filter.result} 59 c.args.parameters.now
    (lit< tt)
    (ap split_text source ∙ c.split.ensures.text) (ap split_has_more source
    ∙ c.split.ensures.has_more) (ap split_pattern source ∙ c.split.ensures.pattern))
    c.filter.ensures.closure (λ x b q k. search (rules, k)))
