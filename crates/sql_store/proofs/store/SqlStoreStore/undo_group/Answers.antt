use Rattle.std.proofs.Common.{rules, IsTrue, refl}
use Rattle.sqlite.specs.Held.{state}
use Rattle.sql_store.specs.Groups.{has_begun}
use Rattle.sql_store.proofs.CallLemmas.{clean_if_open, undone_idle}
use Rattle.sql_store.proofs.GroupLemmas.{undoes_group}
use Rattle.sql_store.proofs.store.SqlStoreStore.undo_group.Goals as goal

pub invariant_of-self : goal.invariant_of-self
invariant_of-self g c = record {
  idle = λ _ up.
      let new = state g.S.Store c.undo.new.db.conn in
      undone_idle (state g.S.Store c.args.self.now.db.conn) new up (c.undo.ensures.undone
      (clean_if_open new.is_clean new.is_open (g.met.S.Store.shut_if_dirty _) up));
}

pub returns-then-has_begun : goal.returns-then-has_begun
returns-then-has_begun g c =
    let new = state g.S.Store c.undo.new.db.conn in
    let begun : IsTrue (has_begun c.args.self.now.group) = search rules in
    undoes_group g.S.Store c.args.self.now _ begun refl
    (clean_if_open new.is_clean new.is_open (g.met.S.Store.shut_if_dirty _))
    c.undo.ensures.undone c.undo.ensures.survives refl
