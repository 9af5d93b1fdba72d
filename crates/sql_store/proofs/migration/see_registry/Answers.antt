use Rattle.std.proofs.Common.{false, subst, ◌∙◌, refl}
use Rattle.sqlite.specs.Held.{state}
use Rattle.sqlite.specs.Effect.{Database}
use Rattle.sql_rows.specs.Content.{block_row_in, code_row_in, lrn_row_in}
use Rattle.sql_rows.specs.declared.statement.Table.TheVariants.{Lrn, Code, Block}
use Rattle.sql_store.specs.Whole.{IsRead}
use Rattle.sql_store.proofs.WholeLemmas.{registry_read}
use Rattle.sql_store.proofs.migration.see_registry.Goals as goal

pub returns-clause-value : goal.returns-clause-value
returns-clause-value g c up =
    let db = (state g.S.Store c.args.conn.now).now.trees in
    let fourth = c.in_ok-see-4.ensures.queried.same refl up in
    let third = c.in_ok-see-3.ensures.queried.same refl fourth.was_open in
    let second = c.in_ok-see-2.ensures.queried.same refl third.was_open in
    let first = c.in_ok-see.ensures.queried.same refl second.was_open in
    let two = second.now ∙ first.now in
    let three = third.now ∙ two in
    registry_read db false false false false (c.in_ok-see.ensures.value second.was_open)
    (subst (λ (d : Database). IsRead Lrn lrn_row_in d.trees false) first.now
    (c.in_ok-see-2.ensures.value third.was_open))
    (subst (λ (d : Database). IsRead Code code_row_in d.trees false) two
    (c.in_ok-see-3.ensures.value fourth.was_open))
    (subst (λ (d : Database). IsRead Block block_row_in d.trees false) three
    (c.in_ok-see-4.ensures.value up))
