use Rattle.std.proofs.Common.{rules, ◌≡◌, false, take, ap, sym, ◌∙◌}
use Rattle.std.specs.Ordering.{is_le, is_lt}
use Rattle.settle.specs.Abstraction.{wait_key_of}
use Rattle.store.specs.QueueRows.{queue_key_of}
use Rattle.store.specs.WaitRows.{download_cmp, download_of}
use Rattle.store.proofs.QueueOrder.{all-after, not-after}
use Rattle.store.proofs.queues.Queues.put_run.Goals as goal

pub invariant_of-self-else-lt : goal.invariant_of-self-else-lt
invariant_of-self-else-lt c =
    let own = queue_key_of c.queue_key.result in
    let latest = queue_key_of c.self.inside.latest in
    let late : is_lt (download_cmp own latest) ≡ false = search rules in (
      all-after c.self.inside.cursors.entries latest (download_of (wait_key_of c.args.key))
          (take c.in_ok-count.count c.args.downloads.now) c.self.inside.waits c.put_run.new.self
          (ap (λ d. is_le (download_cmp latest d)) (sym c.queue_key.ensures)
          ∙ not-after own latest late) c.self.invariant.1 c.in_ok-count.ensures.same
          c.in_ok-count.ensures.new c.self.invariant.0,
      c.self.invariant.1,
    )
