use Rattle.std.proofs.Common.{sym, ap, ◌∙◌, ◌∷◌, [], map, subst}
use Rattle.sqlite.specs.Held.{state}
use Rattle.sqlite.specs.Value.{owned}
use Rattle.sqlite.specs.Values.{bound_value}
use Rattle.sqlite.specs.declared.types.Value.TheVariants.{Text}
use Rattle.sqlite_rules.specs.Lists.{Has}
use Rattle.numbers.specs.Abstraction.{subject_of}
use Rattle.sql_store.specs.Store.{content_at}
use Rattle.sql_store.specs.Lists.{download_of}
use Rattle.sql_rows.specs.Values.{subject_value}
use Rattle.sql_rows.specs.Content.{wait_in}
use Rattle.sql_rows.specs.Found.{IsListAnswer}
use Rattle.sql_rows.specs.declared.statement.Query.TheVariants.{WaitsAbout}
use Rattle.sql_rows.proofs.QueriesListed.{wait_seen, waits_about_picked}
use Rattle.sql_store.proofs.ListLemmas.{about_are}
use Rattle.sql_store.proofs.lists.waits_about.Goals as goal

pub returns-clause-value : goal.returns-clause-value
returns-clause-value g c up =
    let old = state g.S.Store c.args.db.now.conn in
    let found = c.in_ok-waits.waits.items in
    let params = ap (λ v. bound_value v ∷ bound_value (owned c.text.result) ∷ []) c.subject.ensures
    ∙ ap (λ v. subject_value (subject_of c.args.of) ∷ bound_value v ∷ []) (c.text.ensures
    ∙ ap Text c.spid_bytes-bytes.ensures) in
    let answer = subst (λ p. IsListAnswer WaitsAbout wait_in old.now.trees p (map wait_seen found))
    params (c.in_ok-waits.ensures.value up) in
    let are = c.in_ok-downloads.ensures ∙ ap (map download_of) c.as_slice.ensures.value in
    about_are (content_at old) c.args.spid.number (subject_of c.args.of) found _
    (waits_about_picked old.now.trees (c.in_ok-waits.ensures.once up) c.args.spid c.args.of found
    answer)
    c.put_in_order.ensures.rises (λ x at. subst (λ l. Has l x) are
    (c.put_in_order.ensures.only x at)) (λ x at. c.put_in_order.ensures.each x
    (subst (λ l. Has l x) (sym are) at))
