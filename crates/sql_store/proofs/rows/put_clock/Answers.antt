use Rattle.std.proofs.Common.{pos, refl, rules, ◌<◌, ◌≤◌, ◌∷◌, []}
use Rattle.sqlite.specs.declared.types.Value.TheVariants.{Int}
use Rattle.sqlite.specs.Held.{state}
use Rattle.sql_rows.specs.declared.statement.Table.TheVariants.{Clock}
use Rattle.sql_rows.specs.Clocks.{clock_of}
use Rattle.sql_rows.specs.Content.{clock_params}
use Rattle.sql_rows.proofs.PutLemmas.{put_clock}
use Rattle.sql_store.specs.Changes.{with_clock}
use Rattle.sql_rows.proofs.Backs.{clock_back}
use Rattle.sql_rows.proofs.BoundLemmas.{bound_clock}
use Rattle.sql_store.proofs.LookupLemmas.{one_bound}
use Rattle.sql_store.proofs.MadeLemmas.{keyed_as, put_made}
use Rattle.sql_rows.proofs.RowKeys.{clock_keyed}
use Rattle.sql_store.proofs.rows.put_clock.Goals as goal

pub returns : goal.returns
returns g c =
    let old = state g.S.Store c.args.conn.now in
    let new = state g.S.Store c.replace.new.conn in
    let row = c.args.row.now in
    let few : row.next_id < 9223372036854775808 = search rules in
    let least : 0 < row.present = search rules in
    let most : row.present ≤ 1000 = search rules in
    put_made old new Clock (Int (pos 0) ∷ []) _ (clock_params 0 (clock_of row)) _
    (with_clock (clock_of row)) (one_bound c.number.result (Int (pos 0)) refl c.number.ensures)
    (bound_clock _ 0 (clock_of row) c.clock_params.ensures) c.in_ok-replace.ensures
    (λ shaped did. put_clock old.now new.now shaped (clock_of row) (clock_back row few least most)
    did)

pub replace-requires : goal.replace-requires
replace-requires g c =
    let row = clock_of c.args.row.now in
    keyed_as Clock (Int (pos 0) ∷ []) _ (clock_params 0 row) _
    (one_bound c.number.result (Int (pos 0)) refl c.number.ensures)
    (bound_clock _ 0 row c.clock_params.ensures) (clock_keyed 0 row)
