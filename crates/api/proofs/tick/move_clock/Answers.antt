use Rattle.std.proofs.Common.{rules, ap, Err}
use Rattle.api.proofs.StepLemmas.{blamed, move_withheld}
use Rattle.api.proofs.tick.move_clock.Goals as goal

pub returns-in_default-refusal : goal.returns-in_default-refusal
returns-in_default-refusal g c = record {
  preserves = record {
    usable = c.in-Err.ensures.preserves.usable;
    honest = c.in-Err.ensures.preserves.honest;
    begins = c.in-Err.ensures.preserves.begins;
    ends = c.in-Err.ensures.preserves.ends;
    stays = search rules;
    rises = c.in-Err.ensures.preserves.rises;
    storage = λ never. absurd never;
  };
  left = rw c.in-Some.is c.clock.ensures.left;
  moved = tt;
  unavailable = rw c.in-Some.is (λ u. move_withheld c.in-Err.refusal
      (g.S.StoreModel.failed c.args.register.now.store)
      (g.S.StoreModel.failed c.clock.new.self.store)
      (g.S.StoreModel.content c.args.register.now.store)
      (g.S.StoreModel.content c.clock.new.self.store)
      c.in-Some.minute.number c.in_default-refusal.not-ClockBack
      (c.in-Err.ensures.answers u) (λ st s e. blamed c.in-Err.ensures.preserves u st s (ap Err e)));
}
