use Rattle.sql_store.proofs.GroupLemmas.{looked_up}
use Rattle.sql_store.proofs.store.SqlStoreStore.version_in_force.Goals as goal

pub returns-clause-looks_up : goal.returns-clause-looks_up
returns-clause-looks_up g c =
    looked_up g.S.Store c.args.self.now _ c.version_in_force.result c.counted.result
    c.version_in_force.ensures.queried c.counted.ensures
