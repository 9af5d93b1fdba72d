use Rattle.std.proofs.Common.{pos, refl, ◌∷◌, []}
use Rattle.sqlite.specs.declared.types.Value.TheVariants.{Int}
use Rattle.sqlite.specs.Held.{state}
use Rattle.sql_rows.specs.declared.statement.Table.TheVariants.{Version}
use Rattle.sql_rows.proofs.PutLemmas.{take_version}
use Rattle.sql_store.specs.Changes.{without_version}
use Rattle.sql_store.proofs.LookupLemmas.{one_bound}
use Rattle.sql_store.proofs.MadeLemmas.{take_made}
use Rattle.sql_store.proofs.rows.delete_version.Goals as goal

pub returns : goal.returns
returns g c =
    let old = state g.S.Store c.args.conn.now in
    let new = state g.S.Store c.take.new.conn in
    let id = c.args.id in
    take_made old new Version (Int (pos id) ∷ []) _ (without_version id)
    (one_bound c.number.result (Int (pos id)) refl c.number.ensures) c.in_ok-take.ensures
    (λ shaped did. take_version old.now new.now shaped id did)
