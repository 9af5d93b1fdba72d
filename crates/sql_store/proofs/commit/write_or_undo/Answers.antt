use Rattle.std.proofs.Common.{rules, ◌≡◌, false, true, IsTrue, is_ok, sym, subst, ◌∙◌}
use Rattle.sqlite.specs.Held.{state}
use Rattle.sql_store.specs.Changes.{with_changes}
use Rattle.sql_store.specs.Store.{AppliesInTransaction, HasWrittenOver}
use Rattle.sql_store.proofs.CallLemmas.{begun_keeps, begun_written, both_survive, clean_if_open, inside_if_not, not_begun, rolled_back, written_inside}
use Rattle.sql_store.proofs.commit.write_or_undo.Goals as goal
use Rattle.sql_store.proofs.commit.write_or_undo.Goals.{then-is_autocommit+in_ok-begin, else-is_autocommit}

pub returns-in_err-begin : goal.returns-in_err-begin
returns-in_err-begin g c =
    let change = with_changes c.args.changes.now c.args.row in
    let old = state g.S.Store c.args.conn.now in
    let new = state g.S.Store c.begin.new.conn in
    let alone : IsTrue c.is_autocommit.result = search rules in
    let idle : old.in_transaction ≡ false = search rules in
    let fails : is_ok c.from_residual.result ≡ false = search rules in
    subst (λ d. HasWrittenOver old new d change) (sym fails)
    (not_begun old new change idle (c.is_autocommit.ensures.settled alone)
    (clean_if_open new.is_clean new.is_open (g.met.S.Store.shut_if_dirty _))
    c.in_err-begin.ensures.err c.in_err-begin.ensures.survives)

pub returns-in-Err : goal.returns-in-Err
returns-in-Err g c =
    let change = with_changes c.args.changes.now c.args.row in
    let old = state g.S.Store c.args.conn.now in
    let end = state g.S.Store c.write_rows.new.conn in
    let new = state g.S.Store c.roll_back.new.conn in
    let clean_of = clean_if_open new.is_clean new.is_open (g.met.S.Store.shut_if_dirty _) in
    elim c.if-is_autocommit.branch [
      | then-is_autocommit+in_ok-begin w ↦
          let mid = state g.S.Store w.begin.new.conn in
          let m = subst (λ h. AppliesInTransaction (state g.S.Store h) end false change) w.conn-is
          c.in-Err.ensures in
          rolled_back old end new change
          (begun_keeps old mid end false change w.in_ok-begin.ensures.begun
          (clean_if_open mid.is_clean mid.is_open (g.met.S.Store.shut_if_dirty _)) m)
          (both_survive old mid end w.in_ok-begin.ensures.survives m.survives) clean_of
          c.roll_back.ensures.undone c.roll_back.ensures.survives
      | else-is_autocommit w ↦
          let m = subst (λ h. AppliesInTransaction (state g.S.Store h) end false change) w.conn-is
          c.in-Err.ensures in
          rolled_back old end new change m.kept m.survives clean_of
          c.roll_back.ensures.undone c.roll_back.ensures.survives
    ]

pub returns : goal.returns
returns g c =
    let change = with_changes c.args.changes.now c.args.row in
    let old = state g.S.Store c.args.conn.now in
    let new = state g.S.Store c.write_rows.new.conn in
    elim c.if-is_autocommit.branch [
      | then-is_autocommit+in_ok-begin w ↦
          let mid = state g.S.Store w.begin.new.conn in
          begun_written old mid new change w.in_ok-begin.ensures.begun
          (clean_if_open mid.is_clean mid.is_open (g.met.S.Store.shut_if_dirty _))
          w.in_ok-begin.ensures.survives
          (subst (λ h. AppliesInTransaction (state g.S.Store h) new true change) w.conn-is
          c.in_default.ensures) c.requires
      | else-is_autocommit w ↦
          written_inside old new change
          (inside_if_not old.in_transaction
          (sym c.is_autocommit.ensures.value ∙ w.if-is_autocommit.false)) c.requires
          (subst (λ h. AppliesInTransaction (state g.S.Store h) new true change) w.conn-is
          c.in_default.ensures)
    ]
