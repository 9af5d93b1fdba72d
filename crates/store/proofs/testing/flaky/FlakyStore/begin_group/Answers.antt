use Rattle.std.proofs.Common.{rules}
use Rattle.store.proofs.Flakies.{shuts_since}
use Rattle.store.proofs.testing.flaky.FlakyStore.begin_group.Goals as goal

pub returns : goal.returns
returns g c = record {
  same = search rules;
  honest = search rules;
  begun = search rules;
  stays = search rules;
  rises = search rules;
  counts = search rules;
  step = search rules;
  shuts = shuts_since g.S.StoreModel _ _ _ c.in_ok-count_down.ensures.same
      c.begin_group.ensures.shuts;
  left = search rules;
}
