use Rattle.std.proofs.Common.{◌∙◌, ap, ℕ, List, lit<}
use Rattle.std.specs.Str.Iter.{split_text, split_has_more, split_pattern}
use Rattle.std.proofs.lemmas.Iterator.Consumers.{YieldsList-end}
use Rattle.std.proofs.lemmas.Iterator.Splits.{YieldsList-from_str_split}
use Rattle.telnp.specs.Answer.{all_placed, kept}
use Rattle.telnp.specs.Abstraction.{part_texts}
use Rattle.telnp.proofs.answer.place_kept.Goals as goal

pub returns : goal.returns
returns c =
    let same = c.into_iter-part-iterator.ensures.into_iter_gives in
    let all = YieldsList-from_str_split {s = c.into_iter-part-iterator.result} 59
    c.args.parameters.now (lit< tt)
    (ap split_text same ∙ c.split-part-items.ensures.text) (ap split_has_more same
    ∙ c.split-part-items.ensures.has_more) (ap split_pattern same
    ∙ c.split-part-items.ensures.pattern) in
    let ended =
    YieldsList-end all c.loop-part.yielded c.loop-part.part-iterator c.loop-part.yielded_by
    c.next.result c.next.new.self c.in-None.is c.next.ensures.steps in
    c.loop-part.invariant
    ∙ ap (λ (t : List (List ℕ)). all_placed (part_texts c.args.sorted.now.items) (kept t)) ended.0
