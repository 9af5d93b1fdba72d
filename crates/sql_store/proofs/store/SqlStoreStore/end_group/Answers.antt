use Rattle.std.proofs.Common.{ap, refl}
use Rattle.sqlite.specs.Held.{state}
use Rattle.sql_store.specs.Groups.{has_begun, is_sound}
use Rattle.sql_store.specs.declared.group.Group.TheVariants.{None}
use Rattle.sql_store.proofs.CallLemmas.{clean_if_open, undone_idle}
use Rattle.sql_store.proofs.GroupLemmas.{ends_group, ends_undone}
use Rattle.sql_store.proofs.store.SqlStoreStore.end_group.Goals as goal

pub invariant_of-self-in-Failed : goal.invariant_of-self-in-Failed
invariant_of-self-in-Failed g c = record {
  idle = λ _ up.
      let new = state g.S.Store c.undo.new.db.conn in
      undone_idle (state g.S.Store c.args.self.now.db.conn) new up (c.undo.ensures.undone
      (clean_if_open new.is_clean new.is_open (g.met.S.Store.shut_if_dirty _) up));
}

pub returns-in-Begun : goal.returns-in-Begun
returns-in-Begun g c =
    ends_group g.S.Store c.args.self.now _ (ap has_begun c.in-Begun.is) c.counted.ensures.begun
    c.end-done.result c.counted.result None (ap is_sound c.in-Begun.is) refl c.end-done.ensures
    c.counted.ensures

pub returns-in-Failed : goal.returns-in-Failed
returns-in-Failed g c =
    let new = state g.S.Store c.undo.new.db.conn in
    ends_undone g.S.Store c.args.self.now _ (ap has_begun c.in-Failed.is) refl
    (clean_if_open new.is_clean new.is_open (g.met.S.Store.shut_if_dirty _))
    c.undo.ensures.undone c.undo.ensures.survives c.report.result c.report.ensures.counts
    c.report.ensures.rises
