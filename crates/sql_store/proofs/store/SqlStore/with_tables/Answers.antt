use Rattle.std.proofs.Common.{IsTrue, rules, subst, sym, ◌∙◌}
use Rattle.sqlite.specs.Held.{state}
use Rattle.sqlite.specs.State.{HasCleanDisk}
use Rattle.sql_store.specs.Store.{IsIdle, clean_if_open}
use Rattle.sql_store.proofs.OpeningLemmas.{opened_idle, opened_ours}
use Rattle.sql_store.proofs.store.SqlStore.with_tables.Goals as goal

pub of-db-requires : goal.of-db-requires
of-db-requires g c =
    let s = state g.S.Store c.args.conn in
    let ok : IsTrue c.is_ours.result = search rules in
    record {
      ours = λ up. opened_ours s
          (c.requires.opened
          (clean_if_open s.is_clean s.is_open (g.met.S.Store.shut_if_dirty _) up))
          (sym c.schema.ensures.value ∙ c.is_ours.ensures ok);
    }

pub of-requires : goal.of-requires
of-requires g c up =
    let s = state g.S.Store c.args.conn in
    let still = subst (λ h. IsTrue (state g.S.Store h).is_open) c.of-db.ensures up in
    let clean : HasCleanDisk s =
    clean_if_open s.is_clean s.is_open (g.met.S.Store.shut_if_dirty _) still in
    subst (λ h. IsIdle (state g.S.Store h)) (sym c.of-db.ensures)
    (opened_idle s (c.requires.opened clean))
