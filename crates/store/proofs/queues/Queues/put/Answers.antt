use Rattle.std.proofs.Common.{rules, ◌≡◌, false, ap, sym, ◌∙◌, subst}
use Rattle.std.specs.Ordering.{is_le, is_lt}
use Rattle.numbers.specs.Abstraction.{subject_of}
use Rattle.settle.specs.Abstraction.{wait_key_of}
use Rattle.store.specs.QueueRows.{queue_key_of, AreCursors}
use Rattle.store.specs.WaitRows.{download_cmp}
use Rattle.store.proofs.QueueOrder.{put-after, not-after}
use Rattle.store.proofs.queues.Queues.put.Goals as goal

pub invariant_of-self-then-lt : goal.invariant_of-self-then-lt
invariant_of-self-then-lt c = (
  subst (AreCursors c.move_back.new.cursors.entries) (sym c.in_ok-before.ensures.ok)
      (c.move_back.ensures.cursors c.self.inside.waits (subject_of c.args.subject)
      c.self.invariant.0),
  c.move_back.ensures.latest (queue_key_of c.self.inside.latest) c.self.invariant.1,
)

pub invariant_of-self-else-lt : goal.invariant_of-self-else-lt
invariant_of-self-else-lt c =
    let own = queue_key_of c.queue_key.result in
    let latest = queue_key_of c.self.inside.latest in
    let late : is_lt (download_cmp own latest) ≡ false = search rules in (
      subst (AreCursors c.self.inside.cursors.entries) (sym c.in_ok-before.ensures.ok)
          (put-after c.self.inside.cursors.entries latest (wait_key_of c.args.key)
          c.self.inside.waits (subject_of c.args.subject)
          (ap (λ d. is_le (download_cmp latest d)) (sym c.queue_key.ensures)
          ∙ not-after own latest late) c.self.invariant.1 c.self.invariant.0),
      c.self.invariant.1,
    )
