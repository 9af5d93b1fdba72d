use Rattle.std.proofs.Common.{◌≡◌, Some, None, Option, true, false, is_ok, pos, refl, sym, subst, subst₂, ◌∷◌, [], IsTrue, rules}
use Rattle.sqlite.specs.declared.types.Value.TheVariants.{Int}
use Rattle.sqlite.specs.Held.{state}
use Rattle.sqlite.specs.Effect.{Database}
use Rattle.numbers.specs.Routings.{Routing}
use Rattle.model.specs.Content.{VersionRow}
use Rattle.sql_rows.specs.Shaped.{AreShaped}
use Rattle.sql_rows.specs.Written.{Replaced}
use Rattle.sql_rows.specs.declared.statement.Table.TheVariants.{Version}
use Rattle.sql_rows.specs.Content.{content_in}
use Rattle.sql_rows.specs.Versions.{bare, next_of, version_entry, version_params, version_row}
use Rattle.sql_rows.proofs.PutLemmas.{Became, put_modified, put_plain, version_between}
use Rattle.sql_store.specs.Changes.{with_version}
use Rattle.sql_store.specs.Store.{IsNextPut, AppliesInTransaction, WritesInTransaction}
use Rattle.sql_rows.proofs.BoundLemmas.{bound_version}
use Rattle.sql_store.proofs.CallLemmas.{two_made, two_stop}
use Rattle.sql_store.proofs.LookupLemmas.{one_bound}
use Rattle.sql_store.proofs.MadeLemmas.{keyed_as}
use Rattle.sql_rows.proofs.RowKeys.{version_keyed}
use Rattle.sql_store.proofs.rows.put_version.Goals as goal

-- The change of the content that both rows make.
whole_put : (old mid new : Database) → AreShaped old.trees
    → (id : _) (v : VersionRow) (next : Option Routing) → next_of v.status ≡ next
    → version_entry (version_row id v) ≡ Some (id, bare v) →
    Replaced Version (Int (pos id) ∷ []) (version_params id v) old mid → IsNextPut id next mid new
    → Became new (with_version id v (content_in old.trees))
whole_put old mid new shaped id v None sends back first second =
    put_plain old mid new shaped id v sends back first second
whole_put old mid new shaped id v (Some r) sends back first second =
    put_modified old mid new shaped id v r sends back second.1 first second.0

pub returns-in_err-put_next : goal.returns-in_err-put_next
returns-in_err-put_next g c =
    let old = state g.S.Store c.args.conn.now in
    let mid = state g.S.Store c.replace.new.conn in
    let new = state g.S.Store c.put_next.new.conn in
    let fails : is_ok c.from_residual-in_err-put_next.result ≡ false = search rules in
    subst (λ d. AppliesInTransaction old new d (with_version c.args.id c.args.row.now)) (sym fails)
    (two_stop old mid new _ _ _ c.in_ok-replace.ensures c.in_err-put_next.ensures)

pub returns : goal.returns
returns g c =
    let old = state g.S.Store c.args.conn.now in
    let mid = state g.S.Store c.replace.new.conn in
    let new = state g.S.Store c.put_next.new.conn in
    let id = c.args.id in
    let row = c.args.row.now in
    let fit : IsTrue c.fits.result = search rules in
    let back = c.fits.ensures.back fit in
    let first =
    subst₂ (λ k r. WritesInTransaction old mid true (Replaced Version k r))
    (one_bound c.number.result (Int (pos id)) refl c.number.ensures)
    (bound_version _ id row c.version_params-params.ensures) c.in_ok-replace.ensures in
    let second =
    subst (λ (v : VersionRow). WritesInTransaction mid new true (IsNextPut id (next_of v.status)))
    c.row.view_is c.in_ok-put_next.ensures in
    two_made old mid new true (Replaced Version (Int (pos id) ∷ []) (version_params id row))
    (IsNextPut id (next_of row.status)) (with_version id row) first second
    (λ shaped did. version_between old.now mid.now new.now shaped id row back did)
    (λ shaped did then. whole_put old.now mid.now new.now shaped id row (next_of row.status) refl
    back did then)

pub replace-requires : goal.replace-requires
replace-requires g c =
    let id = c.args.id in
    let row = c.args.row.now in
    keyed_as Version (Int (pos id) ∷ []) _ (version_params id row) _
    (one_bound c.number.result (Int (pos id)) refl c.number.ensures)
    (bound_version _ id row c.version_params-params.ensures) (version_keyed id row)
