use Rattle.std.proofs.Common.{subst, refl}
use Rattle.sqlite.specs.Held.{state}
use Rattle.sqlite.specs.Effect.{Database}
use Rattle.sql_rows.specs.Content.{content_in}
use Rattle.sql_store.specs.Queues.{AreFirstWithBroadcasts}
use Rattle.sql_store.specs.Store.{content_at}
use Rattle.sql_store.proofs.QueueLemmas.{first_are}
use Rattle.sql_store.proofs.queue.first_of_all.Goals as goal

pub returns-clause-value : goal.returns-clause-value
returns-clause-value g c up =
    let old = state g.S.Store c.args.db.now.conn in
    let waits = c.in_ok-waits.waits.items in
    let downloads = c.in_ok-downloads.downloads.items in
    let mid_up = (c.in_ok-downloads.ensures.queried.same refl up).was_open in
    let same = (c.in_ok-waits.ensures.queried.same refl mid_up).now in
    let told = subst (λ w. AreFirstWithBroadcasts (content_at (state g.S.Store c.queue.new.db.conn))
    c.args.many
    w downloads) c.as_slice.ensures.value (c.in_ok-downloads.ensures.value up) in
    first_are (content_at old) c.args.spid.number c.args.many ⊥ waits downloads
    (c.in_ok-waits.ensures.value mid_up)
    (subst (λ (d : Database). AreFirstWithBroadcasts (content_in d.trees) c.args.many waits
    downloads) same
    told) (λ none. absurd none)
