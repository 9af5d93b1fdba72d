use Rattle.std.proofs.Common.{rules, ◌≡◌, true, false, refl, IsTrue, Option, is_ok, sym, subst}
use Rattle.std.specs.Prelude.{option_map}
use Rattle.sqlite.specs.Effect.{Database}
use Rattle.sqlite.specs.Held.{state}
use Rattle.sqlite.specs.State.{State}
use Rattle.settle.specs.Changes.{changes_of, AppliesChanges}
use Rattle.settle.specs.Abstraction.{clock_row_of}
use Rattle.settle.specs.declared.changes.Changes.{Changes}
use Rattle.settle.specs.declared.rows.ClockRow.{ClockRow}
use Rattle.sql_rows.specs.Content.{content_in}
use Rattle.sql_rows.proofs.PutLemmas.{clock_joins}
use Rattle.sql_store.specs.Store.{HasQueried, HasWritten, content_at}
use Rattle.sql_store.specs.Changes.{with_changes}
use Rattle.sql_store.specs.Kept.{AreKept}
use Rattle.sql_store.proofs.CallLemmas.{clean_if_open, looked_written, written_ours}
use Rattle.sql_store.proofs.Changed.{changed}
use Rattle.sql_store.proofs.KeptLemmas.{kept_by_write, nothing_kept, written_as}
use Rattle.sql_store.proofs.commit.write.Goals as goal

-- The clock's row that was read is the one before the changes.
by_clock_read : (old mid : State) (changes : Changes) (row : Option ClockRow)
    → HasQueried old mid true
    → (IsTrue mid.is_open → option_map clock_row_of row ≡ (content_at old).clock)
    → IsTrue mid.is_open
    → AppliesChanges (changes_of changes) (content_at mid) (with_changes changes row
    (content_at mid))
by_clock_read old mid changes row looked is up = changed changes row (content_at mid)
    (λ moves. subst (λ (d : Database). option_map clock_row_of row ≡ (content_in d.trees).clock)
    (sym (looked.same refl up).now) (is up)) (clock_joins mid.now.trees)

pub invariant_of-db : goal.invariant_of-db
invariant_of-db g c =
    let mid = state g.S.Store c.clock.new.db.conn in
    let new = state g.S.Store c.write_or_undo.new.conn in
    record {
      ours = written_ours mid new (is_ok c.write_or_undo.result)
          (with_changes c.args.changes.now c.in_ok-row.row) c.clock.new.db.ours
          (clean_if_open new.is_clean new.is_open (g.met.S.Store.shut_if_dirty _))
          c.write_or_undo.ensures;
      are_kept = nothing_kept new c.take-before.new.self c.take-before.ensures.after;
    }

pub invariant_of-db-2 : goal.invariant_of-db-2
invariant_of-db-2 g c =
    let old = state g.S.Store c.args.db.now.conn in
    let mid = state g.S.Store c.clock.new.db.conn in
    let new = state g.S.Store c.write_or_undo.new.conn in
    let change = with_changes c.args.changes.now c.in_ok-row.row in
    let read = by_clock_read old mid c.args.changes.now c.in_ok-row.row
    c.in_ok-row.ensures.queried c.in_ok-row.ensures.value in
    let clean_of = clean_if_open new.is_clean new.is_open (g.met.S.Store.shut_if_dirty _) in
    let done = c.in_ok-write_or_undo.ensures in
    record {
      ours = written_ours mid new true change c.clock.new.db.ours clean_of done;
      are_kept = kept_by_write mid new (changes_of c.args.changes.now) c.in_ok-row.row
          c.take-before.result c.after.result
          ((looked_written old mid new change (AppliesChanges (changes_of c.args.changes.now))
          c.in_ok-row.ensures.queried read clean_of true done).stays refl)
          (λ up. (done.kept up).was_open)
          (written_as mid new change (AppliesChanges (changes_of c.args.changes.now)) clean_of read
          done)
          (λ up. subst (λ (d : Database). option_map clock_row_of c.in_ok-row.row
          ≡ (content_in d.trees).clock) (sym (c.in_ok-row.ensures.queried.same refl up).now)
          (c.in_ok-row.ensures.value up))
          (subst (AreKept mid) (sym c.take-before.ensures.value) c.clock.new.db.are_kept)
          c.after.ensures;
    }

pub returns-in_err-write_or_undo : goal.returns-in_err-write_or_undo
returns-in_err-write_or_undo g c =
    let old = state g.S.Store c.args.db.now.conn in
    let mid = state g.S.Store c.clock.new.db.conn in
    let new = state g.S.Store c.write_or_undo.new.conn in
    let Applies = AppliesChanges (changes_of c.args.changes.now) in
    let fails : is_ok c.from_residual-in_err-write_or_undo.result ≡ false = search rules in
    subst (λ done. HasWritten old new done Applies) (sym fails)
    (looked_written old mid new (with_changes c.args.changes.now c.in_ok-row.row) Applies
    c.in_ok-row.ensures.queried
    (by_clock_read old mid c.args.changes.now c.in_ok-row.row c.in_ok-row.ensures.queried
    c.in_ok-row.ensures.value)
    (clean_if_open new.is_clean new.is_open (g.met.S.Store.shut_if_dirty _)) false
    c.in_err-write_or_undo.ensures)

pub returns : goal.returns
returns g c =
    let old = state g.S.Store c.args.db.now.conn in
    let mid = state g.S.Store c.clock.new.db.conn in
    let new = state g.S.Store c.write_or_undo.new.conn in
    looked_written old mid new (with_changes c.args.changes.now c.in_ok-row.row)
    (AppliesChanges (changes_of c.args.changes.now)) c.in_ok-row.ensures.queried
    (by_clock_read old mid c.args.changes.now c.in_ok-row.row c.in_ok-row.ensures.queried
    c.in_ok-row.ensures.value)
    (clean_if_open new.is_clean new.is_open (g.met.S.Store.shut_if_dirty _)) true
    c.in_ok-write_or_undo.ensures
