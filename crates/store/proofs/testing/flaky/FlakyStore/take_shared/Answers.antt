use Rattle.store.proofs.Flakies.{shuts_since}
use Rattle.store.proofs.testing.flaky.FlakyStore.take_shared.Goals as goal

pub returns-clause-shuts : goal.returns-clause-shuts
returns-clause-shuts g c = shuts_since g.S.StoreModel _ _ _ c.in_ok-count_down.ensures.same
    c.take_shared.ensures.shuts
