use Rattle.std.proofs.Common.{ap, ◌∙◌}
use Rattle.std.specs.Prelude.{◌||◌}
use Rattle.store.specs.QueueRows.{is_among}
use Rattle.store.proofs.AboutListed.{has-none}
use Rattle.store.proofs.queue_order.QueueOrder.new.Goals as goal

pub returns : goal.returns
returns c = λ d.
    ap (λ b. b || is_among c.new-2.result.items d) (has-none c.new.result c.new.ensures.empty d)
    ∙ ap (λ ks. is_among ks d) c.new-2.ensures.items
