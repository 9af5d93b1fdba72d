use Rattle.std.proofs.Common.{◌≡◌, ◌≤◌, false, length, subst, sym, ◌∙◌, true≢false, arith, refl}
use Rattle.sqlite.specs.Held.{state}
use Rattle.sqlite.specs.Effect.{Database}
use Rattle.sql_rows.specs.Content.{content_in}
use Rattle.sql_store.specs.Queues.{AreFirstWithBroadcasts}
use Rattle.sql_store.specs.Store.{content_at}
use Rattle.sql_store.proofs.QueueLemmas.{first_are}
use Rattle.sql_store.proofs.queue.first_page.Goals as goal
use Rattle.sql_store.proofs.queue.first_page.Goals.{then-is_all, else-is_all}

pub returns-then-len-many-clause-value : goal.returns-then-len-many-clause-value
returns-then-len-many-clause-value g c = λ up.
    let old = state g.S.Store c.args.db.now.conn in
    let waits = c.in_ok-waits.waits.items in
    let downloads = c.in_ok-downloads.downloads.items in
    let mid_up = (c.in_ok-downloads.ensures.queried.same refl up).was_open in
    let same = (c.in_ok-waits.ensures.queried.same refl mid_up).now in
    let told = subst (λ w. AreFirstWithBroadcasts (content_at (state g.S.Store c.page.new.db.conn))
    c.args.many w
    downloads) c.as_slice.ensures.value (c.in_ok-downloads.ensures.value up) in
    let first =
    subst (λ (d : Database). AreFirstWithBroadcasts (content_in d.trees) c.args.many waits
    downloads) same
    told in
    first_are (content_at old) c.args.spid.number c.args.many (c.in_ok-waits.is_all ≡ false) waits
    downloads (c.in_ok-waits.ensures.value mid_up) first (λ left.
    let most : length downloads ≤ c.args.many = first.most in
    elim c.if-is_all.branch [
      | then-is_all w ↦ absurd (true≢false (sym w.if-is_all.true ∙ left))
      | else-is_all w ↦
          let enough : (c.args.many ≤ w.len.result) =
          (let e = sym w.value-is ∙ c.if-len-many.true in grind arith) in
          let len = w.len.ensures in
          omega (arith, most, enough, len)
    ])
