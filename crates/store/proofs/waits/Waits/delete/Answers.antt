use Rattle.std.proofs.Common.{rules, ◌≡◌, false, Some, None, ap, sym, ◌∙◌, subst, [], map}
use Rattle.std.specs.FinMap.{FinMap, get}
use Rattle.numbers.specs.Subjects.{Subject}
use Rattle.model.specs.Content.{wait_cmp}
use Rattle.settle.specs.Abstraction.{spid_of, wait_key_of}
use Rattle.store.specs.Maps.{set}
use Rattle.store.specs.About.{IsKey, about_of}
use Rattle.store.specs.QueueRows.{HasKeysOf, has_key}
use Rattle.store.specs.WaitRows.{download_of, spids_of, waiting_of, rows_of, waits_of}
use Rattle.store.proofs.QueueOrder.{keys-stay, keys-removed}
use Rattle.store.proofs.RowsChanged.{Agrees, agrees-kept, agrees-gone}
use Rattle.store.proofs.WaitsKept.{row-at, wait-at, row-written, row-taken, without-waits, gone-waits, not-there}
use Rattle.numbers.proofs.Small.{no_members}
use Rattle.store.proofs.waits.Waits.delete.Goals as goal

pub returns-in_default : goal.returns-in_default
returns-in_default c =
    ap (λ m. waits_of (rows_of m.entries)) c.get_mut.follows.holds-at-none ∙ c.self.view_is
    ∙ not-there c.args.self.now (wait_key_of c.args.key)
    (ap (λ m. get m (wait_key_of c.args.key)) (sym c.self.view_is)
    ∙ wait-at c.self.inside.rows.entries c.broadcast_of-broadcast.result (wait_key_of c.args.key)
    None c.broadcast_of-broadcast.ensures (search rules))

-- ---- the last carrier of its row

pub invariant_of-self-then-is_empty : goal.invariant_of-self-then-is_empty
invariant_of-self-then-is_empty c =
    let gone = row-taken c.self.inside.rows.entries
    (c.get_mut.follows.lender c.take.new.self).entries c.remove.new.self.entries
    c.broadcast_of-broadcast.result (wait_key_of c.args.key) c.take.new.self
    c.broadcast_of-broadcast.ensures (search rules) c.remove.ensures.updates.0 in (
      agrees-gone (rows_of c.self.inside.rows.entries) (about_of c.self.inside.about.entries)
          (about_of c.remove_keys.new.about.entries) (download_of (wait_key_of c.args.key))
          c.self.invariant.0 (rows_of c.remove.new.self.entries) (waiting_of c.in-Some.row.now) gone
          (row-at c.self.inside.rows.entries c.broadcast_of-broadcast.result
          (wait_key_of c.args.key) (Some c.in-Some.row.now) c.broadcast_of-broadcast.ensures
          (search rules))
          (subst (λ s. IsKey (about_of c.self.inside.about.entries)
          (about_of c.remove_keys.new.about.entries) s (download_of (wait_key_of c.args.key)) false)
          (c.subject-subject.ensures ∙ c.take.ensures.same) c.remove_keys.ensures.0),
      keys-removed (rows_of c.self.inside.rows.entries) (has_key c.self.inside.order)
          c.self.invariant.1 (download_of (wait_key_of c.args.key))
          (rows_of c.remove.new.self.entries) (has_key c.remove_keys.new.order) gone
          c.remove_keys.ensures.1,
    )

pub returns-then-is_empty : goal.returns-then-is_empty
returns-then-is_empty c =
    let gone = row-taken c.self.inside.rows.entries
    (c.get_mut.follows.lender c.take.new.self).entries c.remove.new.self.entries
    c.broadcast_of-broadcast.result (wait_key_of c.args.key) c.take.new.self
    c.broadcast_of-broadcast.ensures (search rules) c.remove.ensures.updates.0 in
    let nobody : spids_of c.take.new.self ≡ [] =
    no_members (spids_of c.take.new.self) (search rules) in
    gone-waits (rows_of c.self.inside.rows.entries) (rows_of c.remove.new.self.entries)
    (wait_key_of c.args.key) (waiting_of c.in-Some.row.now) (waiting_of c.take.new.self)
    (row-at c.self.inside.rows.entries c.broadcast_of-broadcast.result (wait_key_of c.args.key)
    (Some c.in-Some.row.now) c.broadcast_of-broadcast.ensures (search rules)) gone c.take.ensures
    (ap (map spid_of) nobody)
    ∙ ap (λ (m : FinMap wait_cmp Subject). set m (wait_key_of c.args.key) None) c.self.view_is

-- ---- a carrier among others

pub invariant_of-self-else-is_empty : goal.invariant_of-self-else-is_empty
invariant_of-self-else-is_empty c =
    let row = row-written c.self.inside.rows.entries
    (c.get_mut.follows.lender c.take.new.self).entries c.broadcast_of-broadcast.result
    (wait_key_of c.args.key) (Some c.take.new.self) c.broadcast_of-broadcast.ensures
    (search rules) in
    let there = row-at c.self.inside.rows.entries c.broadcast_of-broadcast.result
    (wait_key_of c.args.key) (Some c.in-Some.row.now) c.broadcast_of-broadcast.ensures
    (search rules) in (
      agrees-kept (rows_of c.self.inside.rows.entries)
          (rows_of (c.get_mut.follows.lender c.take.new.self).entries)
          (about_of c.self.inside.about.entries) (download_of (wait_key_of c.args.key))
          (waiting_of c.in-Some.row.now) (waiting_of c.take.new.self) row there
          c.take.ensures.same c.self.invariant.0,
      keys-stay (rows_of c.self.inside.rows.entries) (has_key c.self.inside.order)
          c.self.invariant.1 (download_of (wait_key_of c.args.key))
          (rows_of (c.get_mut.follows.lender c.take.new.self).entries)
          (waiting_of c.in-Some.row.now) (waiting_of c.take.new.self) row there,
    )

pub returns-else-is_empty : goal.returns-else-is_empty
returns-else-is_empty c =
    let row = row-written c.self.inside.rows.entries
    (c.get_mut.follows.lender c.take.new.self).entries c.broadcast_of-broadcast.result
    (wait_key_of c.args.key) (Some c.take.new.self) c.broadcast_of-broadcast.ensures
    (search rules) in
    without-waits (rows_of c.self.inside.rows.entries)
    (rows_of (c.get_mut.follows.lender c.take.new.self).entries) (wait_key_of c.args.key)
    (waiting_of c.in-Some.row.now) (waiting_of c.take.new.self)
    (row-at c.self.inside.rows.entries c.broadcast_of-broadcast.result (wait_key_of c.args.key)
    (Some c.in-Some.row.now) c.broadcast_of-broadcast.ensures (search rules)) row c.take.ensures
    ∙ ap (λ (m : FinMap wait_cmp Subject). set m (wait_key_of c.args.key) None) c.self.view_is

-- ---- nothing is there

pub invariant_of-self : goal.invariant_of-self
invariant_of-self c =
    subst (λ m. Agrees (rows_of m.entries) (about_of c.self.inside.about.entries)
    × HasKeysOf (rows_of m.entries) (has_key c.self.inside.order))
    (sym c.get_mut.follows.holds-at-none) c.self.invariant
