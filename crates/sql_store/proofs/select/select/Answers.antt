use Rattle.std.proofs.Common.{rules, ◌≡◌, true, false, is_ok, sym, subst, refl}
use Rattle.std.specs.Prelude.{IfOk, IfErr}
use Rattle.sqlite.specs.Held.{state}
use Rattle.sqlite.specs.State.{HasCleanDisk, Shown, FailsToQuery, Survives, CommitsShowing}
use Rattle.sqlite.specs.Values.{bound}
use Rattle.sql_store.specs.Store.{HasQueried}
use Rattle.sql_store.proofs.CallLemmas.{answers, clean_if_open, looked, looked_err, looked_ok, looked_ours}
use Rattle.sql_store.proofs.KeptLemmas.{kept_by_query, nothing_kept}
use Rattle.sql_store.proofs.select.select.Goals as goal

pub returns-in_err-rows-clause-queried : goal.returns-in_err-rows-clause-queried
returns-in_err-rows-clause-queried g c =
    let old = state g.S.Store c.args.db.now.conn in
    let new = state g.S.Store c.query_all.new.self in
    let params = bound c.args.params.now in
    let fails : is_ok c.from_residual.result ≡ false = search rules in
    subst (HasQueried old new) (sym fails) (looked_err c.args.query params old new
    c.args.db.now.ours
    c.in_err-rows.field-0.0 (clean_if_open new.is_clean new.is_open (g.met.S.Store.shut_if_dirty _))
    (subst (λ t. HasCleanDisk new → FailsToQuery t params old new c.in_err-rows.field-0.0)
    c.text.ensures c.in_err-rows.ensures.err)
    (subst (λ t. Survives old new (CommitsShowing t params old)) c.text.ensures
    c.query_all.ensures.survives))

pub returns-clause-value : goal.returns-clause-value
returns-clause-value g c up =
    let old = state g.S.Store c.args.db.now.conn in
    let new = state g.S.Store c.query_all.new.self in
    let params = bound c.args.params.now in
    let clean : HasCleanDisk new =
    clean_if_open new.is_clean new.is_open (g.met.S.Store.shut_if_dirty _) up in
    let shown = subst (λ t. Shown t params old new c.in_ok-rows.rows.items) c.text.ensures
    (c.in_ok-rows.ensures.ok clean) in
    let looked = looked_ok c.args.query params old new c.args.db.now.ours c.in_ok-rows.rows.items
    (clean_if_open new.is_clean new.is_open (g.met.S.Store.shut_if_dirty _)) (λ _. shown)
    (subst (λ t. Survives old new (CommitsShowing t params old)) c.text.ensures
    c.query_all.ensures.survives) in
    answers c.args.query params old new c.args.db.now.ours c.in_ok-rows.rows.items
    (looked.same refl up).was_open shown

pub returns-clause-queried : goal.returns-clause-queried
returns-clause-queried g c =
    let old = state g.S.Store c.args.db.now.conn in
    let new = state g.S.Store c.query_all.new.self in
    let params = bound c.args.params.now in
    looked_ok c.args.query params old new c.args.db.now.ours c.in_ok-rows.rows.items
    (clean_if_open new.is_clean new.is_open (g.met.S.Store.shut_if_dirty _))
    (subst (λ t. HasCleanDisk new → Shown t params old new c.in_ok-rows.rows.items) c.text.ensures
    c.in_ok-rows.ensures.ok) (subst (λ t. Survives old new (CommitsShowing t params old))
    c.text.ensures c.query_all.ensures.survives)

pub invariant_of-db : goal.invariant_of-db
invariant_of-db g c =
    let old = state g.S.Store c.args.db.now.conn in
    let new = state g.S.Store c.query_all.new.self in
    let params = bound c.args.params.now in
    let looked = looked c.args.query params old new c.args.db.now.ours c.query_all.result
    (λ rows. rows.items) (clean_if_open new.is_clean new.is_open (g.met.S.Store.shut_if_dirty _))
    (subst (λ t. HasCleanDisk new
    → IfOk c.query_all.result (λ rows. Shown t params old new rows.items)) c.text.ensures
    c.query_all.ensures.ok) (subst (λ t. HasCleanDisk new
    → IfErr c.query_all.result (FailsToQuery t params old new)) c.text.ensures
    c.query_all.ensures.err) (subst (λ t. Survives old new (CommitsShowing t params old))
    c.text.ensures c.query_all.ensures.survives) in
    record {
      ours = looked_ours old new (is_ok c.query_all.result) c.args.db.now.ours looked;
      are_kept = nothing_kept new c.take-kept.new.self c.take-kept.ensures.after;
    }

pub invariant_of-db-2 : goal.invariant_of-db-2
invariant_of-db-2 g c =
    let old = state g.S.Store c.args.db.now.conn in
    let new = state g.S.Store c.query_all.new.self in
    let params = bound c.args.params.now in
    let looked = looked_ok c.args.query params old new c.args.db.now.ours c.in_ok-rows.rows.items
    (clean_if_open new.is_clean new.is_open (g.met.S.Store.shut_if_dirty _))
    (subst (λ t. HasCleanDisk new → Shown t params old new c.in_ok-rows.rows.items) c.text.ensures
    c.in_ok-rows.ensures.ok) (subst (λ t. Survives old new (CommitsShowing t params old))
    c.text.ensures c.query_all.ensures.survives) in
    record {
      ours = looked_ours old new true c.args.db.now.ours looked;
      are_kept = kept_by_query old new c.args.db.now.kept c.take-kept.result
          c.take-kept.ensures.value c.args.db.now.are_kept looked;
    }
