use Rattle.sqlite.specs.Held.{state}
use Rattle.sqlite.specs.State.{HasCleanDisk}
use Rattle.sql_store.specs.Store.{clean_if_open}
use Rattle.sql_store.proofs.OpeningLemmas.{opened_form}
use Rattle.sql_store.proofs.store.SqlStore.moved.Goals as goal

pub migrate-requires-clause-old : goal.migrate-requires-clause-old
migrate-requires-clause-old g c = λ up.
    let s = state g.S.Store c.args.conn in
    let clean : HasCleanDisk s = clean_if_open s.is_clean s.is_open (g.met.S.Store.shut_if_dirty _)
    up in
    opened_form s (c.requires.opened clean) c.args.schema_version c.requires.form
