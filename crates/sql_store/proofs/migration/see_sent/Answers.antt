use Rattle.std.proofs.Common.{◌≡◌, false, rules, subst, sym, ◌∙◌, refl}
use Rattle.sqlite.specs.Held.{state}
use Rattle.sqlite.specs.Effect.{Database}
use Rattle.sql_rows.specs.Content.{next_row_in, wait_in}
use Rattle.sql_rows.specs.declared.statement.Table.TheVariants.{NextRouting, Wait}
use Rattle.sql_rows.specs.declared.migration.SchemaVersion.TheVariants.{First}
use Rattle.sql_store.specs.Migration.{AreNextsRead}
use Rattle.sql_store.specs.Whole.{IsRead}
use Rattle.sql_store.proofs.WholeLemmas.{broadcast_rows, next_rows, wait_rows}
use Rattle.sql_store.proofs.migration.see_sent.Goals as goal

pub returns-clause-value : goal.returns-clause-value
returns-clause-value g c up =
    let db = (state g.S.Store c.args.conn.now).now.trees in
    let third = c.in_ok-see-3.ensures.queried.same refl up in
    let second = c.in_ok-see-2.ensures.queried.same refl third.was_open in
    let first = c.in_ok-see.ensures.queried.same refl second.was_open in
    record {
      broadcasts = (broadcast_rows db false (c.in_ok-see.ensures.value second.was_open)).each;
      waits = (wait_rows db false (subst (λ (d : Database). IsRead Wait wait_in d.trees false)
          first.now (c.in_ok-see-2.ensures.value third.was_open))).each;
      nexts = subst (λ f. AreNextsRead f db) (sym c.in-Modify.is)
          (next_rows db false (subst (λ (d : Database). IsRead NextRouting next_row_in d.trees
          false) (second.now ∙ first.now) (c.in_ok-see-3.ensures.value up))).each;
    }

pub returns-in_default-clause-value : goal.returns-in_default-clause-value
returns-in_default-clause-value g c up =
    let db = (state g.S.Store c.args.conn.now).now.trees in
    let second = c.in_ok-see-2.ensures.queried.same refl up in
    let first = c.in_ok-see.ensures.queried.same refl second.was_open in
    let is : c.args.schema_version ≡ First = search rules in
    record {
      broadcasts = (broadcast_rows db false (c.in_ok-see.ensures.value second.was_open)).each;
      waits = (wait_rows db false (subst (λ (d : Database). IsRead Wait wait_in d.trees false)
          first.now (c.in_ok-see-2.ensures.value up))).each;
      nexts = subst (λ f. AreNextsRead f db) (sym is) (λ r at. absurd at);
    }
