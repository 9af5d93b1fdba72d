use Rattle.sql_store.proofs.GroupLemmas.{looked_up}
use Rattle.sql_store.proofs.store.SqlStoreStore.in_block.Goals as goal

pub returns-clause-looks_up : goal.returns-clause-looks_up
returns-clause-looks_up g c =
    looked_up g.S.Store c.args.self.now _ c.in_block.result c.counted.result
    c.in_block.ensures.queried c.counted.ensures
