use Rattle.std.proofs.Common.{true, refl}
use Rattle.sqlite.specs.Held.{state}
use Rattle.sql_store.specs.Changes.{lists}
use Rattle.sql_store.proofs.CallLemmas.{makes_then, alike}
use Rattle.sql_store.proofs.commit.write_lists.Goals as goal

pub returns : goal.returns
returns g c =
    let a = state g.S.Store c.args.conn.now in
    let d = state g.S.Store c.replace_versions.new.conn in
    let e = state g.S.Store c.put_broadcasts.new.conn in
    let f = state g.S.Store c.put_waits.new.conn in
    let h = state g.S.Store c.delete_broadcasts.new.conn in
    let i = state g.S.Store c.delete_waits.new.conn in
    let three = makes_then a d e true _ _ c.in_ok-replace_versions.ensures
    c.in_ok-put_broadcasts.ensures in
    let four = makes_then a e f true _ _ three c.in_ok-put_waits.ensures in
    let five = makes_then a f h true _ _ four c.in_ok-delete_broadcasts.ensures in
    alike a i true _ (lists c.args.changes.now) (λ m. rw (
      c.as_slice.ensures,
      c.as_slice-2.ensures,
      c.as_slice-3.ensures.value,
      c.as_slice-4.ensures,
      c.as_slice-5.ensures,
    ) refl)
    (makes_then a h i true _ _ five c.in_ok-delete_waits.ensures)
