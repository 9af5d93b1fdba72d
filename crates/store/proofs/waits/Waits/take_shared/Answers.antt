use Rattle.std.proofs.Common.{rules, ◌≡◌, true, Some, refl, sym, ◌∙◌, subst}
use Rattle.std.specs.FinMap.{FinMap}
use Rattle.numbers.specs.Subjects.{Subject}
use Rattle.model.specs.Content.{wait_cmp, wait_key}
use Rattle.store.specs.About.{about_of}
use Rattle.store.specs.QueueRows.{has_key}
use Rattle.store.specs.Ranks.{subject_at}
use Rattle.store.specs.Sharing.{TakesWait}
use Rattle.store.specs.WaitRows.{download_of, is_shared, rows_of, spids_of, waiting_of, waits_of}
use Rattle.store.specs.declared.keys.RowKey.{RowKey}
use Rattle.store.proofs.QueueOrder.{keys-stay}
use Rattle.store.proofs.RowsChanged.{agrees-kept, row-same}
use Rattle.store.proofs.SharedWaits.{takes-wait}
use Rattle.store.proofs.WaitsKept.{row-at, row-written, without-waits}
use Rattle.store.proofs.waits.Waits.take_shared.Goals as goal

-- ---- nothing is deleted

pub invariant_of-self-then-not-is_shared : goal.invariant_of-self-then-not-is_shared
invariant_of-self-then-not-is_shared c =
    let key = c.in_ok-key.key in
    let b : RowKey = record {
      minute = key.minute.number;
      id = c.args.id;
      attempt = c.args.attempt;
    } in
    let k = wait_key c.args.carrier.number key.minute.number c.args.id c.args.attempt in
    let was = c.in_ok-row.row.now in
    let old = c.self.inside.rows.entries in
    let new = (c.get_mut.follows.lender was).entries in
    let row = row-written old new b k (Some was) refl (search rules) in
    let there = row-at old b k (Some was) refl (search rules) in (
      agrees-kept (rows_of old) (rows_of new) (about_of c.self.inside.about.entries)
          (download_of k) (waiting_of was) (waiting_of was) row there refl c.self.invariant.0,
      keys-stay (rows_of old) (has_key c.self.inside.order) c.self.invariant.1 (download_of k)
          (rows_of new) (waiting_of was) (waiting_of was) row there,
    )

pub returns-then-not-is_shared-clause-none : goal.returns-then-not-is_shared-clause-none
returns-then-not-is_shared-clause-none c =
    let key = c.in_ok-key.key in
    let b : RowKey = record {
      minute = key.minute.number;
      id = c.args.id;
      attempt = c.args.attempt;
    } in
    let k = wait_key c.args.carrier.number key.minute.number c.args.id c.args.attempt in
    let was = c.in_ok-row.row.now in
    let old = c.self.inside.rows.entries in
    let new = (c.get_mut.follows.lender was).entries in
    let row = row-written old new b k (Some was) refl (search rules) in
    let there = row-at old b k (Some was) refl (search rules) in
    row-same (rows_of old) (rows_of new) (download_of k) (Some (waiting_of was)) row (sym there)
    ∙ c.self.view_is

-- ---- the download is deleted

pub invariant_of-self-2 : goal.invariant_of-self-2
invariant_of-self-2 c =
    let key = c.in_ok-key.key in
    let b : RowKey = record {
      minute = key.minute.number;
      id = c.args.id;
      attempt = c.args.attempt;
    } in
    let k = wait_key c.args.carrier.number key.minute.number c.args.id c.args.attempt in
    let was = c.in_ok-row.row.now in
    let now = c.take.new.self in
    let old = c.self.inside.rows.entries in
    let new = (c.get_mut.follows.lender now).entries in
    let row = row-written old new b k (Some now) refl (search rules) in
    let there = row-at old b k (Some was) refl (search rules) in (
      agrees-kept (rows_of old) (rows_of new) (about_of c.self.inside.about.entries)
          (download_of k) (waiting_of was) (waiting_of now) row there c.take.ensures.same
          c.self.invariant.0,
      keys-stay (rows_of old) (has_key c.self.inside.order) c.self.invariant.1 (download_of k)
          (rows_of new) (waiting_of was) (waiting_of now) row there,
    )

pub returns-clause-some : goal.returns-clause-some
returns-clause-some c =
    let key = c.in_ok-key.key in
    let b : RowKey = record {
      minute = key.minute.number;
      id = c.args.id;
      attempt = c.args.attempt;
    } in
    let k = wait_key c.args.carrier.number key.minute.number c.args.id c.args.attempt in
    let was = c.in_ok-row.row.now in
    let now = c.take.new.self in
    let old = c.self.inside.rows.entries in
    let new = (c.get_mut.follows.lender now).entries in
    let row = row-written old new b k (Some now) refl (search rules) in
    let there = row-at old b k (Some was) refl (search rules) in
    let shared : is_shared c.args.registered.now c.args.carrier (spids_of was) ≡ true =
    search rules in
    subst (λ (m : FinMap wait_cmp Subject). TakesWait c.args.registered.now m
    (waits_of (rows_of new)) (subject_at c.args.rank) k) c.self.view_is
    (takes-wait (rows_of old) (about_of c.self.inside.about.entries) (subject_at c.args.rank)
    c.args.id c.args.attempt key was c.self.invariant.0 c.in_ok-key.ensures there
    c.args.registered.now c.args.carrier shared (waits_of (rows_of new))
    (without-waits (rows_of old) (rows_of new) k (waiting_of was) (waiting_of now) there row
    c.take.ensures))
