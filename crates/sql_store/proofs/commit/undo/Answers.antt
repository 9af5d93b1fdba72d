use Rattle.sqlite.specs.Held.{state}
use Rattle.sql_store.proofs.CallLemmas.{clean_if_open, undone_ours}
use Rattle.sql_store.proofs.KeptLemmas.{nothing_kept}
use Rattle.sql_store.proofs.commit.undo.Goals as goal

pub invariant_of-db : goal.invariant_of-db
invariant_of-db g c =
    let old = state g.S.Store c.args.db.now.conn in
    let new = state g.S.Store c.roll_back.new.conn in
    record {
      ours = undone_ours old new c.args.db.now.ours
          (clean_if_open new.is_clean new.is_open (g.met.S.Store.shut_if_dirty _))
          c.roll_back.ensures.undone;
      are_kept = nothing_kept new c.none.result c.none.ensures;
    }
