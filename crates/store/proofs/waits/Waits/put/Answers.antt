use Rattle.std.proofs.Common.{rules, ◌≡◌, true, Some, None, ap, sym, ◌∙◌, subst}
use Rattle.std.specs.FinMap.{FinMap, get}
use Rattle.numbers.specs.Subjects.{Subject}
use Rattle.numbers.specs.Abstraction.{subject_of}
use Rattle.model.specs.Content.{wait_cmp}
use Rattle.settle.specs.Abstraction.{wait_key_of}
use Rattle.store.specs.Maps.{set}
use Rattle.store.specs.About.{IsKey, about_of}
use Rattle.store.specs.QueueRows.{HasKeysOf, has_key}
use Rattle.store.specs.WaitRows.{download_of, waiting_of, rows_of}
use Rattle.store.proofs.QueueOrder.{keys-stay, keys-added, keys-kept, keys-back}
use Rattle.store.proofs.RowsChanged.{Agrees, agrees-same, agrees-kept, agrees-new, agrees-back, row-same}
use Rattle.store.proofs.WaitsKept.{IsPut, row-at, wait-at, row-written, if-ok-then, on-ok-from, subject-stays, added-waits, first-waits}
use Rattle.store.proofs.Steps.{err-then}
use Rattle.store.proofs.waits.Waits.put.Goals as goal

-- ---- a row that is there

pub invariant_of-self : goal.invariant_of-self
invariant_of-self c =
    let row = row-written c.self.inside.rows.entries
    (c.get_mut.follows.lender c.add.new.self).entries c.broadcast_of-broadcast.result
    (wait_key_of c.args.key) (Some c.add.new.self) c.broadcast_of-broadcast.ensures
    (search rules) in
    let there = row-at c.self.inside.rows.entries c.broadcast_of-broadcast.result
    (wait_key_of c.args.key) (Some c.in-Some.row.now) c.broadcast_of-broadcast.ensures
    (search rules) in (
      agrees-kept (rows_of c.self.inside.rows.entries)
          (rows_of (c.get_mut.follows.lender c.add.new.self).entries)
          (about_of c.self.inside.about.entries)
          (download_of (wait_key_of c.args.key)) (waiting_of c.in-Some.row.now)
          (waiting_of c.add.new.self) row there
          (subject-stays c.add.result c.args.key.carrier.number (subject_of c.args.subject)
          (waiting_of c.in-Some.row.now) (waiting_of c.add.new.self) c.add.ensures.added
          c.add.ensures.refused) c.self.invariant.0,
      keys-stay (rows_of c.self.inside.rows.entries) (has_key c.self.inside.order)
          c.self.invariant.1 (download_of (wait_key_of c.args.key))
          (rows_of (c.get_mut.follows.lender c.add.new.self).entries)
          (waiting_of c.in-Some.row.now) (waiting_of c.add.new.self) row there,
    )

pub returns-in-Some-clause-before : goal.returns-in-Some-clause-before
returns-in-Some-clause-before c =
    if-ok-then c.add.result (λ before is.
    is ∙ sym (wait-at c.self.inside.rows.entries c.broadcast_of-broadcast.result
    (wait_key_of c.args.key) (Some c.in-Some.row.now) c.broadcast_of-broadcast.ensures
    (search rules))
    ∙ ap (λ m. get m (wait_key_of c.args.key)) c.self.view_is)
    c.add.ensures.before

pub returns-in-Some-clause-ok : goal.returns-in-Some-clause-ok
returns-in-Some-clause-ok c =
    let row = row-written c.self.inside.rows.entries
    (c.get_mut.follows.lender c.add.new.self).entries c.broadcast_of-broadcast.result
    (wait_key_of c.args.key) (Some c.add.new.self) c.broadcast_of-broadcast.ensures
    (search rules) in
    on-ok-from c.add.result (λ before added.
    added-waits (rows_of c.self.inside.rows.entries)
    (rows_of (c.get_mut.follows.lender c.add.new.self).entries) (wait_key_of c.args.key)
    (subject_of c.args.subject) (waiting_of c.in-Some.row.now) (waiting_of c.add.new.self)
    (row-at c.self.inside.rows.entries c.broadcast_of-broadcast.result (wait_key_of c.args.key)
    (Some c.in-Some.row.now) c.broadcast_of-broadcast.ensures (search rules)) row added
    ∙ ap (λ (m : FinMap wait_cmp Subject). set m (wait_key_of c.args.key)
    (Some (subject_of c.args.subject))) c.self.view_is)
    c.add.ensures.added

pub returns-in-Some-clause-err : goal.returns-in-Some-clause-err
returns-in-Some-clause-err c =
    let row = row-written c.self.inside.rows.entries
    (c.get_mut.follows.lender c.add.new.self).entries c.broadcast_of-broadcast.result
    (wait_key_of c.args.key) (Some c.add.new.self) c.broadcast_of-broadcast.ensures
    (search rules) in
    err-then c.add.result (λ same.
    row-same (rows_of c.self.inside.rows.entries)
    (rows_of (c.get_mut.follows.lender c.add.new.self).entries)
    (download_of (wait_key_of c.args.key)) (Some (waiting_of c.add.new.self)) row
    (ap (λ w. Some w) same ∙ sym (row-at c.self.inside.rows.entries c.broadcast_of-broadcast.result
    (wait_key_of c.args.key) (Some c.in-Some.row.now) c.broadcast_of-broadcast.ensures
    (search rules)))
    ∙ c.self.view_is)
    c.add.ensures.refused

-- ---- a row that is new

pub invariant_of-self-in-Ok : goal.invariant_of-self-in-Ok
invariant_of-self-in-Ok c =
    let row = row-written c.self.inside.rows.entries c.insert.new.self.entries
    c.broadcast_of-broadcast.result (wait_key_of c.args.key) (Some c.of-row.result)
    c.broadcast_of-broadcast.ensures
    (subst (λ m. IsPut m.entries c.insert.new.self.entries c.broadcast_of-broadcast.result
    (Some c.of-row.result)) c.get_mut.follows.holds-at-none c.in-Ok.ensures.updates.0) in (
      agrees-new (rows_of c.self.inside.rows.entries) (about_of c.self.inside.about.entries)
          (about_of c.add_keys.new.about.entries) (download_of (wait_key_of c.args.key))
          c.self.invariant.0 (rows_of c.insert.new.self.entries) (waiting_of c.of-row.result) row
          (row-at c.self.inside.rows.entries c.broadcast_of-broadcast.result
          (wait_key_of c.args.key) None c.broadcast_of-broadcast.ensures (search rules))
          (subst (λ s. IsKey (about_of c.self.inside.about.entries)
          (about_of c.add_keys.new.about.entries) s (download_of (wait_key_of c.args.key)) true)
          (sym c.of-row.ensures.same) c.in_ok-add_keys.ensures.ok.0),
      keys-added (rows_of c.self.inside.rows.entries) (has_key c.self.inside.order)
          c.self.invariant.1 (download_of (wait_key_of c.args.key))
          (rows_of c.insert.new.self.entries) (has_key c.add_keys.new.order)
          (Some (waiting_of c.of-row.result)) row c.in_ok-add_keys.ensures.ok.1.0
          c.in_ok-add_keys.ensures.ok.1.1,
    )

pub returns-in-Ok-clause-before : goal.returns-in-Ok-clause-before
returns-in-Ok-clause-before c =
    sym (wait-at c.self.inside.rows.entries c.broadcast_of-broadcast.result (wait_key_of c.args.key)
    None c.broadcast_of-broadcast.ensures (search rules)) ∙ ap (λ m. get m (wait_key_of c.args.key))
    c.self.view_is

pub returns-in-Ok-clause-ok : goal.returns-in-Ok-clause-ok
returns-in-Ok-clause-ok c =
    let row = row-written c.self.inside.rows.entries c.insert.new.self.entries
    c.broadcast_of-broadcast.result (wait_key_of c.args.key) (Some c.of-row.result)
    c.broadcast_of-broadcast.ensures
    (subst (λ m. IsPut m.entries c.insert.new.self.entries c.broadcast_of-broadcast.result
    (Some c.of-row.result)) c.get_mut.follows.holds-at-none c.in-Ok.ensures.updates.0) in
    first-waits (rows_of c.self.inside.rows.entries) (rows_of c.insert.new.self.entries)
    (wait_key_of c.args.key) (subject_of c.args.subject) (waiting_of c.of-row.result)
    (row-at c.self.inside.rows.entries c.broadcast_of-broadcast.result (wait_key_of c.args.key) None
    c.broadcast_of-broadcast.ensures (search rules)) row c.of-row.ensures
    ∙ ap (λ (m : FinMap wait_cmp Subject). set m (wait_key_of c.args.key)
    (Some (subject_of c.args.subject))) c.self.view_is

pub invariant_of-self-in-Err : goal.invariant_of-self-in-Err
invariant_of-self-in-Err c =
    let same : c.insert.new.self.entries ≡ c.self.inside.rows.entries = search rules in
    let none = row-at c.self.inside.rows.entries c.broadcast_of-broadcast.result
    (wait_key_of c.args.key) None c.broadcast_of-broadcast.ensures (search rules) in
    subst (λ es. Agrees (rows_of es) (about_of c.remove_keys.new.about.entries)
    × HasKeysOf (rows_of es) (has_key c.remove_keys.new.order)) (sym same) (
      agrees-back (rows_of c.self.inside.rows.entries) (about_of c.self.inside.about.entries)
          (about_of c.add_keys.new.about.entries) (about_of c.remove_keys.new.about.entries)
          (download_of (wait_key_of c.args.key)) (subject_of c.args.subject) none
          c.in_ok-add_keys.ensures.ok.0 c.remove_keys.ensures.0 c.self.invariant.0,
      keys-back (rows_of c.self.inside.rows.entries) (has_key c.self.inside.order)
          c.self.invariant.1 (download_of (wait_key_of c.args.key))
          (has_key c.add_keys.new.order) (has_key c.remove_keys.new.order) none
          c.in_ok-add_keys.ensures.ok.1.1 c.remove_keys.ensures.1,
    )

-- ---- nothing is added

pub invariant_of-self-in_err-add_keys : goal.invariant_of-self-in_err-add_keys
invariant_of-self-in_err-add_keys c =
    let none = row-at c.self.inside.rows.entries c.broadcast_of-broadcast.result
    (wait_key_of c.args.key) None c.broadcast_of-broadcast.ensures (search rules) in
    subst (λ m. Agrees (rows_of m.entries) (about_of c.add_keys.new.about.entries)
    × HasKeysOf (rows_of m.entries) (has_key c.add_keys.new.order))
    (sym c.get_mut.follows.holds-at-none) (
      agrees-same (rows_of c.self.inside.rows.entries) (about_of c.self.inside.about.entries)
          (about_of c.add_keys.new.about.entries) c.in_err-add_keys.ensures.err.0
          c.self.invariant.0,
      keys-kept (rows_of c.self.inside.rows.entries) (has_key c.self.inside.order)
          c.self.invariant.1 (download_of (wait_key_of c.args.key)) (has_key c.add_keys.new.order)
          none c.in_err-add_keys.ensures.err.1,
    )
