use Rattle.std.proofs.Common.{rules}
use Rattle.store.proofs.Flakies.{shuts_since}
use Rattle.store.proofs.testing.flaky.FlakyStore.waits_about.Goals as goal

pub returns-clause-looks_up : goal.returns-clause-looks_up
returns-clause-looks_up g c = record {
  read_only = search rules;
  counts = search rules;
  step = search rules;
  shuts = shuts_since g.S.StoreModel _ _ _ c.in_ok-count_down.ensures.same
      c.waits_about.ensures.looks_up.shuts;
  answers = search rules;
}
