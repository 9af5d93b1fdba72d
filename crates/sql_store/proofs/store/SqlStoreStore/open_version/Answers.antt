use Rattle.sql_store.proofs.GroupLemmas.{looked_up}
use Rattle.sql_store.proofs.store.SqlStoreStore.open_version.Goals as goal

pub returns-clause-looks_up : goal.returns-clause-looks_up
returns-clause-looks_up g c =
    looked_up g.S.Store c.args.self.now _ c.open_version.result c.counted.result
    c.open_version.ensures.queried c.counted.ensures
