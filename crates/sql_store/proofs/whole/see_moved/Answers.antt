use Rattle.std.proofs.Common.{◌≡◌, true, rules, sym, subst, ◌∙◌, refl}
use Rattle.sqlite.specs.Held.{state}
use Rattle.sqlite.specs.Effect.{Database}
use Rattle.sql_rows.specs.Content.{old_clock_in}
use Rattle.sql_rows.specs.declared.statement.Table.TheVariants.{OldClock}
use Rattle.sql_store.specs.Whole.{IsRead}
use Rattle.sql_store.proofs.WholeLemmas.{moved_told}
use Rattle.sql_store.proofs.whole.see_moved.Goals as goal

pub returns-clause-value : goal.returns-clause-value
returns-clause-value g c up =
    let db = (state g.S.Store c.args.db.now.conn).now.trees in
    let second = c.in_ok-clock.ensures.queried.same refl up in
    let first = c.in_ok-versions.ensures.queried.same refl second.was_open in
    let blank : c.are_blank.result ≡ true = search rules in
    moved_told db c.in_ok-versions.versions c.in_ok-clock.clock (c.in_ok-versions.ensures.value
    second.was_open)
    (subst (λ (d : Database). IsRead OldClock old_clock_in d.trees c.in_ok-clock.clock) first.now
    (c.in_ok-clock.ensures.value up)) (sym c.are_blank.ensures ∙ blank)
