use Rattle.std.proofs.Common.{◌≡◌, ◌∷◌, [], false, sym, ap, ◌∙◌, map, subst, nat_lt, le-ltb, arith}
use Rattle.sqlite.specs.Held.{state}
use Rattle.sqlite.specs.Value.{owned}
use Rattle.sqlite.specs.Values.{bound_value}
use Rattle.sqlite.specs.declared.types.Value.TheVariants.{Text}
use Rattle.sqlite_rules.specs.Lists.{Has}
use Rattle.sql_store.specs.Store.{content_at}
use Rattle.sql_store.specs.Lists.{download_of}
use Rattle.sql_rows.specs.Values.{spid_value}
use Rattle.sql_rows.specs.Content.{wait_in}
use Rattle.sql_rows.specs.Found.{IsListAnswer}
use Rattle.sql_rows.specs.declared.statement.Query.TheVariants.{WaitsFirst}
use Rattle.sql_rows.proofs.QueriesListed.{wait_seen}
use Rattle.sql_store.proofs.FrontLemmas.{front_found}
use Rattle.sql_store.proofs.QueueLemmas.{front_queued}
use Rattle.sql_store.proofs.queue.page.Goals as goal

pub returns-clause-value : goal.returns-clause-value
returns-clause-value g c up =
    let old = state g.S.Store c.args.db.now.conn in
    let found = c.in_ok-found.found.items in
    let params = ap (λ v. bound_value v ∷ bound_value (owned c.number.result) ∷ []) (c.text.ensures
    ∙ ap Text c.spid_bytes-bytes.ensures)
    ∙ ap (λ v. spid_value c.args.spid.number ∷ bound_value v ∷ []) c.number.ensures in
    let answer = subst (λ p. IsListAnswer WaitsFirst wait_in old.now.trees p (map wait_seen found))
    params (c.in_ok-found.ensures.value up) in
    let are = c.in_ok-waits.ensures ∙ ap (map download_of) c.as_slice.ensures.value in
    front_queued (content_at old) c.args.spid.number found _ c.put_in_order.ensures.rises
    (λ x at. subst (λ l. Has l x) are (c.put_in_order.ensures.only x at))
    (λ x at. c.put_in_order.ensures.each x (subst (λ l. Has l x) (sym are) at))
    c.args.many (nat_lt c.len.result c.args.many ≡ false) (λ full. le-ltb c.len.result c.args.many
    (let is = c.len.ensures in omega (arith, full, is)))
    (front_found old.now.trees (c.in_ok-found.ensures.once up) c.args.spid c.args.many found answer)
