use Rattle.std.proofs.Common.{rules, ◌≡◌, [], false, is_ok, sym, subst, refl}
use Rattle.sqlite.specs.Held.{state}
use Rattle.sqlite.specs.State.{HasCleanDisk, Shown, FailsToQuery, Survives, CommitsShowing}
use Rattle.sql_rows.specs.Statements.{all_text}
use Rattle.sql_store.specs.Store.{HasQueried}
use Rattle.sql_store.proofs.CallLemmas.{clean_if_open}
use Rattle.sql_store.proofs.MigrationLemmas.{old_answers, old_looked, old_unlooked}
use Rattle.sql_store.proofs.migration.select_old.Goals as goal

pub returns-in_err-rows-clause-queried : goal.returns-in_err-rows-clause-queried
returns-in_err-rows-clause-queried g c =
    let old = state g.S.Store c.args.conn.now in
    let new = state g.S.Store c.query_all.new.self in
    let same : c.text.result.now ≡ all_text c.args.table = c.text.ensures in
    let fails : is_ok c.from_residual.result ≡ false = search rules in
    subst (HasQueried old new) (sym fails) (old_unlooked c.args.schema_version c.args.table
    c.requires.has old
    new
    c.requires.old c.in_err-rows.field-0.0 (clean_if_open new.is_clean new.is_open
    (g.met.S.Store.shut_if_dirty _))
    (subst (λ t. HasCleanDisk new → FailsToQuery t [] old new c.in_err-rows.field-0.0) same
    c.in_err-rows.ensures.err) (subst (λ t. Survives old new (CommitsShowing t [] old)) same
    c.query_all.ensures.survives))

pub returns-clause-value : goal.returns-clause-value
returns-clause-value g c up =
    let old = state g.S.Store c.args.conn.now in
    let new = state g.S.Store c.query_all.new.self in
    let same : c.text.result.now ≡ all_text c.args.table = c.text.ensures in
    let clean : HasCleanDisk new =
    clean_if_open new.is_clean new.is_open (g.met.S.Store.shut_if_dirty _) up in
    let shown =
    subst (λ t. Shown t [] old new c.in_ok-rows.rows.items) same (c.in_ok-rows.ensures.ok clean) in
    let looked = old_looked c.args.schema_version c.args.table c.requires.has old new c.requires.old
    c.in_ok-rows.rows.items (clean_if_open new.is_clean new.is_open (g.met.S.Store.shut_if_dirty _))
    (λ _. shown)
    (subst (λ t. Survives old new (CommitsShowing t [] old)) same c.query_all.ensures.survives) in
    old_answers c.args.schema_version c.args.table c.requires.has old new c.requires.old
    c.in_ok-rows.rows.items (looked.same refl up).was_open shown

pub returns-clause-queried : goal.returns-clause-queried
returns-clause-queried g c =
    let old = state g.S.Store c.args.conn.now in
    let new = state g.S.Store c.query_all.new.self in
    let same : c.text.result.now ≡ all_text c.args.table = c.text.ensures in
    old_looked c.args.schema_version c.args.table c.requires.has old new c.requires.old
    c.in_ok-rows.rows.items (clean_if_open new.is_clean new.is_open (g.met.S.Store.shut_if_dirty _))
    (subst (λ t. HasCleanDisk new → Shown t [] old new c.in_ok-rows.rows.items) same
    c.in_ok-rows.ensures.ok) (subst (λ t. Survives old new (CommitsShowing t [] old)) same
    c.query_all.ensures.survives)
