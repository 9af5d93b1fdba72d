use Rattle.sqlite.specs.Held.{state}
use Rattle.sql_store.proofs.CallLemmas.{clean_if_open, ended_ours}
use Rattle.sql_store.proofs.KeptLemmas.{kept_by_commit, nothing_kept}
use Rattle.sql_store.proofs.commit.commit_written.Goals as goal

pub invariant_of-db : goal.invariant_of-db
invariant_of-db g c =
    let old = state g.S.Store c.args.db.now.conn in
    let new = state g.S.Store c.commit.new.conn in
    record {
      ours = ended_ours old new c.args.db.now.ours
          (clean_if_open new.is_clean new.is_open (g.met.S.Store.shut_if_dirty _))
          c.commit.result c.commit.ensures.committed c.commit.ensures.err;
      are_kept = nothing_kept new c.take-kept.new.self c.take-kept.ensures.after;
    }

pub invariant_of-db-2 : goal.invariant_of-db-2
invariant_of-db-2 g c =
    let old = state g.S.Store c.args.db.now.conn in
    let new = state g.S.Store c.commit.new.conn in
    let clean_of = clean_if_open new.is_clean new.is_open (g.met.S.Store.shut_if_dirty _) in
    record {
      ours = ended_ours old new c.args.db.now.ours clean_of
          c.commit.result c.commit.ensures.committed c.commit.ensures.err;
      are_kept = kept_by_commit old new c.args.db.now.kept c.take-kept.result
          c.take-kept.ensures.value c.args.db.now.are_kept clean_of
          c.in_ok-commit.ensures.committed;
    }
