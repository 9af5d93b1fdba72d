use Rattle.std.proofs.Common.{refl, sym, ap, ◌∙◌, map, subst}
use Rattle.sqlite.specs.Held.{state}
use Rattle.sqlite.specs.declared.types.Value.TheVariants.{Text}
use Rattle.sqlite_rules.specs.Lists.{Has}
use Rattle.sql_store.specs.Store.{content_at}
use Rattle.sql_store.specs.Lists.{download_of}
use Rattle.sql_rows.specs.Values.{spid_value}
use Rattle.sql_rows.specs.Content.{wait_in}
use Rattle.sql_rows.specs.Found.{IsListAnswer}
use Rattle.sql_rows.specs.declared.statement.Query.TheVariants.{WaitsFor}
use Rattle.sql_rows.proofs.QueriesListed.{wait_seen, waits_for_picked}
use Rattle.sql_store.proofs.LookupLemmas.{one_bound}
use Rattle.sql_store.proofs.QueueLemmas.{queued_are}
use Rattle.sql_store.proofs.queue.queue.Goals as goal

pub returns-clause-value : goal.returns-clause-value
returns-clause-value g c up =
    let old = state g.S.Store c.args.db.now.conn in
    let found = c.in_ok-found.found.items in
    let params = one_bound c.text.result (spid_value c.args.spid.number) refl (c.text.ensures
    ∙ ap Text c.spid_bytes-bytes.ensures) in
    let answer = subst (λ p. IsListAnswer WaitsFor wait_in old.now.trees p (map wait_seen found))
    params (c.in_ok-found.ensures.value up) in
    let are = c.in_ok-waits.ensures ∙ ap (map download_of) c.as_slice.ensures.value in
    queued_are (content_at old) c.args.spid.number found _ c.put_in_order.ensures.rises
    (λ x at. subst (λ l. Has l x) are (c.put_in_order.ensures.only x at))
    (λ x at. c.put_in_order.ensures.each x (subst (λ l. Has l x) (sym are) at))
    (waits_for_picked old.now.trees (c.in_ok-found.ensures.once up) c.args.spid found answer)
