use Rattle.std.proofs.Common.{rules, [], IfErr, subst}
use Rattle.sqlite.specs.Held.{state}
use Rattle.sqlite.specs.State.{CommitsShowing, FailsToQuery, HasCleanDisk, Survives}
use Rattle.sqlite.proofs.StateLemmas.{survives_then}
use Rattle.sql_rows.specs.Statements.{all_text}
use Rattle.sql_rows.specs.declared.statement.Query.TheVariants.{All}
use Rattle.sql_rows.proofs.StatementLemmas.{query_selects}
use Rattle.sql_store.specs.Through.{BlankMeansNone}
use Rattle.sql_store.proofs.CallLemmas.{fails_as, query_commits_nothing}
use Rattle.sql_store.proofs.ThroughLemmas.{err_from, read_from}
use Rattle.sql_store.proofs.through.read_table.Goals as goal

pub returns-in_err-rows-clause-err : goal.returns-in_err-rows-clause-err
returns-in_err-rows-clause-err g c = λ clean.
    let old = state g.S.Store c.args.conn.now in
    let new = state g.S.Store c.query.follows.lender-at-none in
    let held = c.query.follows.holds-at-none in
    let fails : HasCleanDisk new
    → IfErr c.query.result (FailsToQuery c.text.result.now [] old new) = search rules in
    let left = fails_as c.text.result.now [] old new c.in_err-rows.field-0.0
    (rw c.in_err-rows.was at (fails clean)) in
    search rules

pub returns-in_err-rows-clause-survives : goal.returns-in_err-rows-clause-survives
returns-in_err-rows-clause-survives g c =
    let old = state g.S.Store c.args.conn.now in
    let new = state g.S.Store c.query.follows.lender-at-none in
    let held = c.query.follows.holds-at-none in
    let kept : Survives old new (CommitsShowing c.text.result.now [] old) = search rules in
    query_commits_nothing (all_text c.args.table) [] old new (query_selects (All c.args.table))
    (subst (λ t. Survives old new (CommitsShowing t [] old)) c.text.ensures kept)

pub returns-clause-all : goal.returns-clause-all
returns-clause-all g c =
    let told = read_from g.S.Store (all_text c.args.table) c.text.ensures c.args.conn.now
    c.in_ok-rows.rows.conn.now c.read_rows.new.rows.conn.now c.requires.plain
    c.in_ok-rows.ensures.begun c.read_rows.ensures.survives g.T.FromRow.seen_in BlankMeansNone
    c.read_rows.result c.read_rows.ensures.all in
    search rules

pub returns-clause-err : goal.returns-clause-err
returns-clause-err g c =
    let left = err_from g.S.Store (all_text c.args.table) c.text.ensures c.args.conn.now
    c.in_ok-rows.rows.conn.now c.read_rows.new.rows.conn.now c.requires.plain
    c.in_ok-rows.ensures.begun c.read_rows.ensures.survives c.read_rows.result
    c.read_rows.ensures.err in
    search rules

pub returns-clause-survives : goal.returns-clause-survives
returns-clause-survives g c =
    let old = state g.S.Store c.args.conn.now in
    let here = state g.S.Store c.in_ok-rows.rows.conn.now in
    let new = state g.S.Store c.read_rows.new.rows.conn.now in
    let first =
    query_commits_nothing (all_text c.args.table) [] old here (query_selects (All c.args.table))
    (subst (λ t. Survives old here (CommitsShowing t [] old)) c.text.ensures
    c.in_ok-rows.ensures.survives) in
    let both : Survives old new (λ _. ⊥) =
    survives_then old here new _ _ _ (λ _ db none. none) (λ _ db none. none) first
    c.read_rows.ensures.survives in
    search rules
