use Rattle.sql_store.proofs.GroupLemmas.{looked_up}
use Rattle.sql_store.proofs.store.SqlStoreStore.window_set.Goals as goal

pub returns-clause-looks_up : goal.returns-clause-looks_up
returns-clause-looks_up g c =
    looked_up g.S.Store c.args.self.now _ c.window_set.result c.counted.result
    c.window_set.ensures.queried c.counted.ensures
