use Rattle.std.proofs.Common.{◌≡◌, ◌++◌, true, sym, subst, take, length, ◌+◌, ◌≤◌, arith, refl}
use Rattle.std.specs.Prelude.{option_to_list}
use Rattle.sqlite.specs.Held.{state}
use Rattle.sqlite.specs.Effect.{Database}
use Rattle.sql_rows.specs.Content.{content_in}
use Rattle.sql_store.specs.Queues.{HaveBroadcasts, IsNext}
use Rattle.sql_store.specs.Store.{content_at}
use Rattle.sql_store.proofs.CallLemmas.{looked_then}
use Rattle.sql_store.proofs.QueueLemmas.{one_more_fits, told_next}
use Rattle.sql_store.proofs.queue.first_downloads.Goals as goal

pub loop-wait-preserved : goal.loop-wait-preserved
loop-wait-preserved g c =
    let first = state g.S.Store c.args.db.now.conn in
    let before = state g.S.Store c.loop-wait.db.conn in
    let after = state g.S.Store c.next.new.db.conn in
    let next = c.in_ok-download.ensures in
    let download = c.in_ok-download.download in
    let put : c.put_behind.new.downloads.items ≡ c.loop-wait.downloads.items ++ option_to_list
    download = c.in_ok-put_behind.ensures in
    record {
      looked = looked_then first before after true c.loop-wait.invariant.looked next.queried;
      told = λ up.
          let was = (next.queried.same refl up).was_open in
          let same = (c.loop-wait.invariant.looked.same refl was).now in
          let is = subst (λ (d : Database). IsNext (content_in d.trees) c.wait-item.result download)
          same (next.value up) in
          subst (HaveBroadcasts (content_at first) (take (c.loop-wait.wait-index + 1)
          c.args.waits.now))
          (sym put)
          (told_next (content_at first) c.args.waits.now c.loop-wait.wait-index c.wait-item.result
          c.loop-wait-test.true c.wait-item.is c.loop-wait.downloads.items
          (c.loop-wait.invariant.told was) download is);
      most = subst (λ l. length l ≤ c.args.many) (sym put)
          (one_more_fits c.loop-wait.downloads.items download c.args.many (let low =
          c.if-len-many.false in omega arith));
    }
