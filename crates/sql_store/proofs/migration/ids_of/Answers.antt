use Rattle.std.proofs.Common.{◌≡◌, rules, false, is_ok, [], Err, IfErr, IfOk, IsTrue, sym, subst}
use Rattle.sqlite.specs.Held.{state}
use Rattle.sqlite.specs.State.{CommitsShowing, FailsToQuery, HasCleanDisk, Survives}
use Rattle.sql_rows.specs.Statements.{all_text}
use Rattle.sql_rows.specs.Versions.{old_version_in}
use Rattle.sql_rows.specs.declared.statement.Query.TheVariants.{All}
use Rattle.sql_rows.specs.declared.statement.Table.TheVariants.{OldVersion}
use Rattle.sql_rows.proofs.StatementLemmas.{query_selects}
use Rattle.sql_rows.specs.declared.fault.Fault.TheVariants.{Device}
use Rattle.sql_store.specs.Migration.{AreIdsOf, HasIds}
use Rattle.sql_store.specs.Store.{HasQueried, clean_if_open}
use Rattle.sql_store.proofs.CallLemmas.{both_survive, fails_as, query_commits_nothing}
use Rattle.sql_store.proofs.ThroughLemmas.{err_from, ids_read, old_plain, read_from, table_looked}
use Rattle.sql_store.proofs.migration.ids_of.Goals as goal

pub returns-in_err-rows-clause-queried : goal.returns-in_err-rows-clause-queried
returns-in_err-rows-clause-queried g c =
    let old = state g.S.Store c.args.conn.now in
    let new = state g.S.Store c.query.follows.lender-at-none in
    let text = all_text OldVersion in
    let held = c.query.follows.holds-at-none in
    let fails : HasCleanDisk new
    → IfErr c.query.result (FailsToQuery c.text.result.now [] old new) = search rules in
    let kept : Survives old new (CommitsShowing c.text.result.now [] old) = search rules in
    let survives = query_commits_nothing text [] old new (query_selects (All OldVersion))
    (subst (λ t. Survives old new (CommitsShowing t [] old)) c.text.ensures kept) in
    let failed : is_ok c.from_residual.result ≡ false = search rules in
    let looked : HasQueried old new false =
    table_looked {R = Unit {0}} old_version_in (λ r seen. Unit {0}) text old new (Err Device)
    (old_plain old_version_in OldVersion old old c.args.schema_version tt c.requires.old)
    (clean_if_open new.is_clean new.is_open (g.met.S.Store.shut_if_dirty _)) (λ clean. tt)
    (λ clean. fails_as c.text.result.now [] old new c.in_err-rows.field-0.0
    (rw c.in_err-rows.was at (fails clean))) survives in
    subst (HasQueried old new) (sym failed) looked

pub returns-clause-value : goal.returns-clause-value
returns-clause-value g c =
    let old = state g.S.Store c.args.conn.now in
    let new = state g.S.Store c.ids_among.new.rows.conn.now in
    let all = read_from g.S.Store (all_text OldVersion) c.text.ensures c.args.conn.now
    c.in_ok-rows.rows.conn.now c.ids_among.new.rows.conn.now
    (old_plain old_version_in OldVersion old old c.args.schema_version tt c.requires.old)
    c.in_ok-rows.ensures.begun c.ids_among.ensures.survives old_version_in
    (λ ids. AreIdsOf ids.items) c.ids_among.result c.ids_among.ensures.all in
    let told : IsTrue new.is_open
    → IfOk c.ids_among.result (λ ids. HasIds ids.items old.now.trees) =
    λ up. ids_read c.args.schema_version old new c.requires.old (λ ids. ids.items)
    c.ids_among.result
    (all (clean_if_open new.is_clean new.is_open (g.met.S.Store.shut_if_dirty _) up)) in
    search rules

pub returns-clause-queried : goal.returns-clause-queried
returns-clause-queried g c =
    let first = c.args.conn.now in
    let here = c.in_ok-rows.rows.conn.now in
    let last = c.ids_among.new.rows.conn.now in
    let old = state g.S.Store first in
    let mid = state g.S.Store here in
    let new = state g.S.Store last in
    let text = all_text OldVersion in
    let plain = old_plain old_version_in OldVersion old old c.args.schema_version tt c.requires.old
    in
    let all = read_from g.S.Store text c.text.ensures first here last plain
    c.in_ok-rows.ensures.begun c.ids_among.ensures.survives old_version_in
    (λ ids. AreIdsOf ids.items) c.ids_among.result c.ids_among.ensures.all in
    let err = err_from g.S.Store text c.text.ensures first here last plain
    c.in_ok-rows.ensures.begun c.ids_among.ensures.survives c.ids_among.result
    c.ids_among.ensures.err in
    let asked = query_commits_nothing text [] old mid (query_selects (All OldVersion))
    (subst (λ t. Survives old mid (CommitsShowing t [] old)) c.text.ensures
    c.in_ok-rows.ensures.survives) in
    let looked : HasQueried old new (is_ok c.ids_among.result) =
    table_looked old_version_in (λ ids. AreIdsOf ids.items) text old new c.ids_among.result plain
    (clean_if_open new.is_clean new.is_open (g.met.S.Store.shut_if_dirty _)) all err
    (both_survive old mid new asked c.ids_among.ensures.survives) in
    search rules
