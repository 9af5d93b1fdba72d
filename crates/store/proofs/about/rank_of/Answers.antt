use Rattle.std.proofs.Common.{ap, sym, ◌∙◌}
use Rattle.numbers.specs.Subjects.{subject_key}
use Rattle.store.proofs.Ranks.{key_ranked}
use Rattle.store.proofs.about.rank_of.Goals as goal

pub returns : goal.returns
returns c = sym (key_ranked c.of.result.number) ∙ ap subject_key c.of.ensures
