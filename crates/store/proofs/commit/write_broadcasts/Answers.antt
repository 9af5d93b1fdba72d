use Rattle.std.proofs.Common.{rules, ◌≡◌, cond, ◌+◌, List, Some, drop, sym, subst, ◌∙◌, ap, refl, arith}
use Rattle.std.proofs.lemmas.List.{drop_all}
use Rattle.delivery.specs.declared.broadcast.Broadcast.{Broadcast}
use Rattle.settle.specs.declared.rows.BroadcastKey.{BroadcastKey}
use Rattle.settle.specs.Changes.{put_rows, same_broadcast}
use Rattle.settle.specs.Abstraction.{broadcast_key_of, broadcast_row_of}
use Rattle.settle.proofs.Rest.{rest_at}
use Rattle.store.specs.Maps.{seen_entries}
use Rattle.std.specs.HashMap as hash
use Rattle.std.specs.FinMap.{get}
use Rattle.store.specs.BroadcastRows.{broadcasts_of, same_id, AreBroadcastsPut}
use Rattle.store.specs.declared.keys.BroadcastId.{BroadcastId}
use Rattle.store.proofs.BroadcastRows.{broadcast-set}
use Rattle.store.proofs.commit.write_broadcasts.Goals as goal

pub loop-key-preserved : goal.loop-key-preserved
loop-key-preserved c =
    let e = c.loop-key-item.result in
    let room = c.loop-key.invariant.room in
    let inside = c.loop-key-test.true in
    let kept = c.insert.ensures.spare in
    let put_one : (q : BroadcastId) → hash.get same_id c.insert.new.self q
    ≡ cond (same_id c.of.result q) (Some c.of-in-loop-key.result) (hash.get same_id c.loop-key.table
    q) =
    search rules in
    record {
      written = λ last put. c.loop-key.invariant.written last
          (subst (λ (es : List (BroadcastKey × Broadcast)). AreBroadcastsPut es
          (broadcasts_of c.loop-key.table) last)
          (sym (rest_at c.args.broadcasts.now c.loop-key.key-index e inside c.loop-key-item.is))
          (λ k. put k
          ∙ ap (put_rows same_broadcast (seen_entries broadcast_key_of broadcast_row_of
          (drop (c.loop-key.key-index + 1) c.args.broadcasts.now)) k)
          (broadcast-set c.loop-key.table c.insert.new.self c.of.result (broadcast_key_of e.0)
          (Some c.of-in-loop-key.result) c.of.ensures put_one k
          ∙ ap (λ row. cond (same_broadcast (broadcast_key_of e.0) k) (Some row)
          (get (broadcasts_of c.loop-key.table) k)) c.of-in-loop-key.ensures)));
      room = omega (arith, room, kept);
    }

pub returns : goal.returns
returns c =
    c.loop-key.invariant.written (broadcasts_of c.loop-key.table)
    (subst (λ (es : List (BroadcastKey × Broadcast)). AreBroadcastsPut es
    (broadcasts_of c.loop-key.table) (broadcasts_of c.loop-key.table))
    (sym (drop_all c.loop-key.key-index c.args.broadcasts.now c.loop-key-test.false)) (λ k. refl))
