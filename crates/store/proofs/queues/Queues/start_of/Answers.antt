use Rattle.std.proofs.Common.{rules, ◌≡◌, true, false, sym, subst}
use Rattle.std.specs.Ordering.{is_lt}
use Rattle.store.specs.QueueRows.{queue_key_of, AreCursors}
use Rattle.store.specs.WaitRows.{download_cmp}
use Rattle.store.proofs.QueueOrder.{not-after, not-after-itself, less-before, up-to-later}
use Rattle.store.proofs.queues.Queues.start_of.Goals as goal

pub invariant_of-self : goal.invariant_of-self
invariant_of-self c =
    let latest = queue_key_of c.self.inside.latest in
    let start = queue_key_of c.move_cursor-start.result in
    let less : is_lt (download_cmp latest start) ≡ true = search rules in (
      subst (AreCursors c.move_cursor-start.new.cursors.entries)
          (sym c.move_cursor-start.ensures.same) c.move_cursor-start.ensures.cursors,
      c.move_cursor-start.ensures.latest start
          (up-to-later c.self.inside.cursors.entries latest start (less-before latest start less)
          c.self.invariant.1)
          (not-after-itself start),
    )

pub invariant_of-self-else-lt : goal.invariant_of-self-else-lt
invariant_of-self-else-lt c =
    let latest = queue_key_of c.self.inside.latest in
    let start = queue_key_of c.move_cursor-start.result in
    let late : is_lt (download_cmp latest start) ≡ false = search rules in (
      subst (AreCursors c.move_cursor-start.new.cursors.entries)
          (sym c.move_cursor-start.ensures.same) c.move_cursor-start.ensures.cursors,
      c.move_cursor-start.ensures.latest latest c.self.invariant.1 (not-after latest start late),
    )
