use Rattle.std.proofs.Common.{sym, subst, refl}
use Rattle.sqlite.specs.Held.{state}
use Rattle.sqlite.specs.Effect.{Database}
use Rattle.sql_rows.specs.Content.{set_in}
use Rattle.sql_rows.specs.declared.statement.Table.TheVariants.{WindowSet}
use Rattle.sql_store.specs.Whole.{IsRead, ReadsAdded}
use Rattle.sql_store.proofs.WholeLemmas.{added_told}
use Rattle.sql_store.proofs.whole.read_added.Goals as goal

pub returns-clause-value : goal.returns-clause-value
returns-clause-value g c up =
    let db = (state g.S.Store c.args.db.now.conn).now.trees in
    let second = c.in_ok-sets.ensures.queried.same refl up in
    let first = c.in_ok-nexts.ensures.queried.same refl second.was_open in
    subst (ReadsAdded db) (sym c.are_blank.ensures)
    (added_told db c.in_ok-nexts.nexts c.in_ok-sets.sets
    (c.in_ok-nexts.ensures.value second.was_open)
    (subst (λ (d : Database). IsRead WindowSet set_in d.trees c.in_ok-sets.sets) first.now
    (c.in_ok-sets.ensures.value up)))
