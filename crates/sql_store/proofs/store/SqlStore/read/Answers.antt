use Rattle.std.proofs.Common.{◌≤◌, subst, arith}
use Rattle.sqlite.specs.Held.{Held, state}
use Rattle.sqlite_trees.specs.View.{doubt}
use Rattle.sql_store.proofs.OpeningLemmas.{falls}
use Rattle.sql_store.proofs.store.SqlStore.read.Goals as goal

pub returns-in-Ok-clause-clean : goal.returns-in-Ok-clause-clean
returns-in-Ok-clause-clean g c = falls _ _ c.in-Ok.ensures.queried.honest

pub returns-in-Err-clause-err_clean : goal.returns-in-Err-clause-err_clean
returns-in-Err-clause-err_clean g c =
    let before : doubt (state g.S.Store c.args.self.db.conn).is_clean ≤ doubt
    (state g.S.Store c.read_all.new.db.conn).is_clean = falls _ _ c.in-Err.ensures.queried.honest in
    let after : doubt (state g.S.Store c.read_all.new.db.conn).is_clean ≤ doubt
    (g.S.Store.view c.into_store.result).is_clean =
    subst (λ (h : Held _). doubt (g.S.Store.view h.store).is_clean ≤ doubt
    (g.S.Store.view c.into_store.result).is_clean) c.release.ensures
    c.into_store.ensures.quiet.clean
    in
    omega (arith, before, after)
