use Rattle.std.proofs.Common.{rules, IsTrue, true, subst, sym, ◌∙◌, refl}
use Rattle.sqlite.specs.Effect.{Database}
use Rattle.sqlite.specs.Held.{state}
use Rattle.version.specs.Abstraction.{windows_of}
use Rattle.sql_store.specs.Migration.{AreStayingRead, IsCarried, IsMovedFrom, HasTheseWindows}
use Rattle.sql_store.proofs.CallLemmas.{looked_then}
use Rattle.sql_store.proofs.MigrationLemmas.{looked_moves}
use Rattle.sql_store.proofs.migration.migrate.Goals as goal

pub returns-clause-moves : goal.returns-clause-moves
returns-clause-moves g c =
    let a = state g.S.Store c.args.conn.now in
    let b = state g.S.Store c.see_staying.new.conn in
    let d = state g.S.Store c.has_windows.new.conn in
    let e = state g.S.Store c.carry_over.new.conn in
    let w = windows_of c.args.windows.now in
    let one = c.in_ok-see_staying.ensures.queried in
    let two = c.in_ok-has_windows.ensures.queried in
    let own : IsTrue c.in_ok-has_windows.field-0 = search rules in
    looked_moves a d e (IsCarried c.args.schema_version) (IsMovedFrom c.args.schema_version w)
    (looked_then a b d true one two) (λ up after carried.
    let second = two.same refl up in
    let first = one.same refl second.was_open in
    record {
      staying = subst (λ (x : Database). AreStayingRead c.args.schema_version x.trees)
          (sym (second.now ∙ first.now)) (c.in_ok-see_staying.ensures.value second.was_open);
      windows = subst (λ (x : Database). HasTheseWindows w x.trees) (sym second.now)
          (c.in_ok-has_windows.ensures.own up own);
      carried = carried;
    }) true c.in_ok-carry_over.ensures.moves
