use Rattle.std.proofs.Common.{List, sym, subst, ◌∙◌, ap, refl, None, map, get_or, drop, ◌+◌}
use Rattle.std.proofs.lemmas.List.{drop_all, drop_more}
use Rattle.settle.specs.declared.rows.BroadcastKey.{BroadcastKey}
use Rattle.settle.specs.Changes.{delete_rows, same_broadcast}
use Rattle.settle.specs.Abstraction.{broadcast_key_of}
use Rattle.store.specs.BroadcastRows.{broadcasts_of, AreBroadcastsDeleted}
use Rattle.store.proofs.BroadcastRows.{broadcast-set}
use Rattle.store.proofs.commit.delete_broadcasts.Goals as goal

abbrev none : BroadcastKey
none = record { id = 0; attempt = 0 }

pub loop-key-preserved : goal.loop-key-preserved
loop-key-preserved c last taken =
    c.loop-key.invariant last
    (subst (λ (ks : List BroadcastKey). AreBroadcastsDeleted ks (broadcasts_of c.loop-key.table)
    last)
    (sym (drop_more c.args.keys.now c.loop-key.key-index none c.loop-key-test.true))
    (λ k. taken k
    ∙ ap (delete_rows same_broadcast
    (map broadcast_key_of (drop (c.loop-key.key-index + 1) c.args.keys.now)) k)
    (broadcast-set c.loop-key.table c.remove.new.self c.of.result
    (broadcast_key_of (get_or c.args.keys.now c.loop-key.key-index none)) None c.of.ensures
    c.remove.ensures.updates.0 k)))

pub returns : goal.returns
returns c =
    c.loop-key.invariant (broadcasts_of c.loop-key.table)
    (subst (λ (ks : List BroadcastKey). AreBroadcastsDeleted ks (broadcasts_of c.loop-key.table)
    (broadcasts_of c.loop-key.table))
    (sym (drop_all c.loop-key.key-index c.args.keys.now c.loop-key-test.false)) (λ k. refl))
