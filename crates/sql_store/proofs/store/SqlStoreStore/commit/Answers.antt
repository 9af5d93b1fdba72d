use Rattle.sqlite.specs.Held.{state}
use Rattle.sql_store.proofs.CallLemmas.{survives_still}
use Rattle.sql_store.proofs.GroupLemmas.{shuts_only, survives_second}
use Rattle.sql_store.proofs.store.SqlStoreStore.commit.Goals as goal
use Rattle.sql_store.proofs.store.SqlStoreStore.commit.Goals.{in-None, in-Begun, in-Failed}

pub returns-clause-shuts : goal.returns-clause-shuts
returns-clause-shuts g c =
    let before = c.args.self.now in
    let old = state g.S.Store before.db.conn in
    let new = state g.S.Store c.match-self.self.1.0.conn in
    elim c.match-self.branch [
      | in-None w ↦ shuts_only g.S.Store before new c.counted.new.group c.counted.ensures.begun
          (survives_second g.S.Store old _ c.match-self.self _ w.self-is
          w.commit-done.ensures.committed.crash)
      | in-Begun w ↦ shuts_only g.S.Store before new c.counted.new.group c.counted.ensures.begun
          (survives_second g.S.Store old _ c.match-self.self _ w.self-is
          w.write-done.ensures.survives)
      | in-Failed w ↦ shuts_only g.S.Store before new c.counted.new.group c.counted.ensures.begun
          (survives_second g.S.Store old _ c.match-self.self _ w.self-is (survives_still old))
    ]
