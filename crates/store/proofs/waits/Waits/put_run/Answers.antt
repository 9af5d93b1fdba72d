use Rattle.std.proofs.Common.{rules, ◌≡◌, Some, None, true, take, map, sym, subst}
use Rattle.std.specs.FinMap.{FinMap}
use Rattle.std.specs.Map.{lookup}
use Rattle.numbers.specs.Subjects.{Subject}
use Rattle.numbers.specs.Abstraction.{subject_of}
use Rattle.model.specs.Content.{wait_cmp}
use Rattle.settle.specs.Abstraction.{spid_of, wait_key_of}
use Rattle.store.specs.Batch.{AreNew}
use Rattle.store.specs.Runs.{carriers_in, run_length}
use Rattle.store.specs.About.{IsKey, about_of}
use Rattle.store.specs.QueueRows.{AreOf, HasKeysOf, has_key}
use Rattle.store.specs.WaitRows.{Waiting, download_of, waiting_of, waits_of, rows_of}
use Rattle.store.proofs.NewRuns.{IsRun, run-first, run-of, run-waits}
use Rattle.store.proofs.QueueOrder.{keys-added, keys-kept, keys-back}
use Rattle.store.proofs.RowsChanged.{IsRow, Agrees, agrees-same, agrees-new, agrees-back}
use Rattle.store.proofs.WaitsKept.{same_key, none-from, row-at, row-written}
use Rattle.store.proofs.waits.Waits.put_run.Goals as goal

-- ---- a row that is new

pub invariant_of-self-in-Ok : goal.invariant_of-self-in-Ok
invariant_of-self-in-Ok c =
    let b = c.broadcast_of-broadcast.result in
    let rows = c.self.inside.rows.entries in
    let d = download_of (wait_key_of c.args.key) in
    let none = row-at rows b (wait_key_of c.args.key) None c.broadcast_of-broadcast.ensures
    (none-from (lookup (same_key b) rows) (search rules)) in
    let row = row-written rows c.insert.new.self.entries b (wait_key_of c.args.key)
    (Some c.in_ok-row.row) c.broadcast_of-broadcast.ensures c.in-Ok.ensures.updates.0 in (
      agrees-new (rows_of rows) (about_of c.self.inside.about.entries)
          (about_of c.add_keys.new.about.entries) d c.self.invariant.0
          (rows_of c.insert.new.self.entries) (waiting_of c.in_ok-row.row) row none
          (subst (λ s. IsKey (about_of c.self.inside.about.entries)
          (about_of c.add_keys.new.about.entries) s d true) (sym c.in_ok-row.ensures.subject)
          c.in_ok-add_keys.ensures.ok.0),
      keys-added (rows_of rows) (has_key c.self.inside.order) c.self.invariant.1 d
          (rows_of c.insert.new.self.entries) (has_key c.add_keys.new.order)
          (Some (waiting_of c.in_ok-row.row)) row c.in_ok-add_keys.ensures.ok.1.0
          c.in_ok-add_keys.ensures.ok.1.1,
    )

pub returns-in-Ok-clause-new : goal.returns-in-Ok-clause-new
returns-in-Ok-clause-new c =
    let b = c.broadcast_of-broadcast.result in
    let rows = c.self.inside.rows.entries in
    let d = download_of (wait_key_of c.args.key) in
    let s = subject_of c.args.subject in
    let es = take c.run_length-count.result c.args.downloads.now in
    let none = row-at rows b (wait_key_of c.args.key) None c.broadcast_of-broadcast.ensures
    (none-from (lookup (same_key b) rows) (search rules)) in
    let row = row-written rows c.insert.new.self.entries b (wait_key_of c.args.key)
    (Some c.in_ok-row.row) c.broadcast_of-broadcast.ensures c.in-Ok.ensures.updates.0 in
    let all : IsRow (rows_of rows) (rows_of c.insert.new.self.entries) d
    (Some (s, map spid_of (carriers_in es))) =
    subst (λ (w : Waiting). IsRow (rows_of rows) (rows_of c.insert.new.self.entries) d (Some w))
    (λ i. (c.in_ok-row.ensures.subject i, map spid_of (c.in_ok-row.ensures.carriers i))) row in
    let run : IsRun d s 0 es =
    subst (λ n. IsRun d s 0 (take n c.args.downloads.now)) (sym c.run_length-count.ensures.length)
    (run-first d s 0 c.args.downloads.now) in
    subst (λ (m : FinMap wait_cmp Subject). AreNew es m
    (waits_of (rows_of c.insert.new.self.entries))) c.self.view_is
    (run-waits d s es (rows_of rows) (rows_of c.insert.new.self.entries) none all run)

-- ---- nothing is added

pub invariant_of-self-in-Err : goal.invariant_of-self-in-Err
invariant_of-self-in-Err c =
    let b = c.broadcast_of-broadcast.result in
    let rows = c.self.inside.rows.entries in
    let d = download_of (wait_key_of c.args.key) in
    let same : c.insert.new.self.entries ≡ rows = search rules in
    let none = row-at rows b (wait_key_of c.args.key) None c.broadcast_of-broadcast.ensures
    (none-from (lookup (same_key b) rows) (search rules)) in
    subst (λ es. Agrees (rows_of es) (about_of c.remove_keys.new.about.entries)
    × HasKeysOf (rows_of es) (has_key c.remove_keys.new.order)) (sym same) (
      agrees-back (rows_of rows) (about_of c.self.inside.about.entries)
          (about_of c.add_keys.new.about.entries) (about_of c.remove_keys.new.about.entries) d
          (subject_of c.args.subject) none c.in_ok-add_keys.ensures.ok.0 c.remove_keys.ensures.0
          c.self.invariant.0,
      keys-back (rows_of rows) (has_key c.self.inside.order) c.self.invariant.1 d
          (has_key c.add_keys.new.order) (has_key c.remove_keys.new.order) none
          c.in_ok-add_keys.ensures.ok.1.1 c.remove_keys.ensures.1,
    )

pub invariant_of-self : goal.invariant_of-self
invariant_of-self c =
    let b = c.broadcast_of-broadcast.result in
    let rows = c.self.inside.rows.entries in
    let d = download_of (wait_key_of c.args.key) in
    let none = row-at rows b (wait_key_of c.args.key) None c.broadcast_of-broadcast.ensures
    (none-from (lookup (same_key b) rows) (search rules)) in (
      agrees-same (rows_of rows) (about_of c.self.inside.about.entries)
          (about_of c.add_keys.new.about.entries) c.in_err-add_keys.ensures.err.0
          c.self.invariant.0,
      keys-kept (rows_of rows) (has_key c.self.inside.order) c.self.invariant.1 d
          (has_key c.add_keys.new.order) none c.in_err-add_keys.ensures.err.1,
    )

-- ---- what was added is of one broadcast

pub returns-in-Ok-clause-same : goal.returns-in-Ok-clause-same
returns-in-Ok-clause-same c =
    let d = download_of (wait_key_of c.args.key) in
    let s = subject_of c.args.subject in
    let all = c.args.downloads.now in
    subst (λ n. AreOf d (take n all)) (sym c.run_length-count.ensures.length)
    (run-of d s 0 (take (run_length d s 0 all) all) (run-first d s 0 all))
