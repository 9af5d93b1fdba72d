use Rattle.std.proofs.Common.{◌≡◌, true, false, is_ok, pos, refl, rules, sym, subst, subst₂, ◌∷◌, [], IsTrue}
use Rattle.sqlite.specs.declared.types.Value.TheVariants.{Int}
use Rattle.sqlite.specs.Held.{state}
use Rattle.sql_rows.specs.Versions.{version_params}
use Rattle.sql_rows.specs.Written.{Replaced}
use Rattle.sql_rows.specs.declared.statement.Table.TheVariants.{Version}
use Rattle.sql_rows.proofs.BoundLemmas.{bound_version}
use Rattle.sql_store.specs.Migration.{IsBarePut}
use Rattle.sql_store.specs.Store.{WritesInTransaction}
use Rattle.sql_store.proofs.CallLemmas.{writes_as, writes_nothing}
use Rattle.sql_store.proofs.LookupLemmas.{one_bound}
use Rattle.sql_store.proofs.MadeLemmas.{keyed_as}
use Rattle.sql_rows.proofs.RowKeys.{version_keyed}
use Rattle.sql_store.proofs.migration.put_bare.Goals as goal

pub returns-in_err-replace : goal.returns-in_err-replace
returns-in_err-replace g c =
    let old = state g.S.Store c.args.conn.now in
    let new = state g.S.Store c.replace.new.conn in
    let fails : is_ok c.from_residual.result ≡ false = search rules in
    subst (λ d. WritesInTransaction old new d (IsBarePut c.args.id c.args.row.now)) (sym fails)
    (writes_nothing old new _ _ c.in_err-replace.ensures)

pub returns : goal.returns
returns g c =
    let old = state g.S.Store c.args.conn.now in
    let new = state g.S.Store c.replace.new.conn in
    let id = c.args.id in
    let row = c.args.row.now in
    let fit : IsTrue c.fits.result = search rules in
    let back = c.fits.ensures.back fit in
    writes_as old new true (Replaced Version (Int (pos id) ∷ []) (version_params id row))
    (IsBarePut id row) (λ did. (did, back))
    (subst₂ (λ k r. WritesInTransaction old new true (Replaced Version k r))
    (one_bound c.number.result (Int (pos id)) refl c.number.ensures)
    (bound_version _ id row c.version_params-params.ensures) c.in_ok-replace.ensures)

pub replace-requires : goal.replace-requires
replace-requires g c =
    let id = c.args.id in
    let row = c.args.row.now in
    keyed_as Version (Int (pos id) ∷ []) _ (version_params id row) _
    (one_bound c.number.result (Int (pos id)) refl c.number.ensures)
    (bound_version _ id row c.version_params-params.ensures) (version_keyed id row)
