use Rattle.std.proofs.Common.{subst}
use Rattle.sqlite.specs.Held.{state}
use Rattle.sqlite_catalog.specs.Listing.{IsSound}
use Rattle.sql_rows.proofs.KeyOnce as once
use Rattle.sql_store.proofs.once.keys_are_unique.Goals as goal

pub returns : goal.returns
returns g c = λ up.
    let ours = c.requires up in
    let db = (state g.S.Store c.args.conn.now).now.trees in
    once.keys_once db (subst (λ k. IsSound k db) ours.schema
    (c.schema-schema.ensures.live up).0).obeys ours.shaped
