use Rattle.std.proofs.Common.{◌≡◌, Some, false, true, is_ok, pos, refl, rules, sym, subst, subst₂, ◌∷◌, []}
use Rattle.sqlite.specs.declared.types.Value.TheVariants.{Int}
use Rattle.sqlite.specs.Held.{state}
use Rattle.numbers.specs.Abstraction.{routing_of}
use Rattle.sql_rows.specs.Content.{next_params}
use Rattle.sql_rows.specs.Written.{Replaced}
use Rattle.sql_rows.specs.declared.statement.Table.TheVariants.{NextRouting}
use Rattle.sql_rows.proofs.Backs.{next_back}
use Rattle.sql_rows.proofs.BoundLemmas.{bound_next}
use Rattle.sql_store.specs.Store.{IsNextPut, WritesInTransaction}
use Rattle.sql_store.proofs.CallLemmas.{writes_as, writes_nothing}
use Rattle.sql_store.proofs.LookupLemmas.{one_bound}
use Rattle.sql_store.proofs.MadeLemmas.{keyed_as}
use Rattle.sql_rows.proofs.RowKeys.{next_keyed}
use Rattle.sql_store.proofs.rows.put_routing.Goals as goal

pub returns-in_err-replace : goal.returns-in_err-replace
returns-in_err-replace g c =
    let old = state g.S.Store c.args.conn.now in
    let new = state g.S.Store c.replace.new.conn in
    let fails : is_ok c.from_residual.result ≡ false = search rules in
    subst (λ d. WritesInTransaction old new d
    (IsNextPut c.args.id (Some (routing_of c.args.routing))))
    (sym fails) (writes_nothing old new _ _ c.in_err-replace.ensures)

pub returns : goal.returns
returns g c =
    let old = state g.S.Store c.args.conn.now in
    let new = state g.S.Store c.replace.new.conn in
    let id = c.args.id in
    let routing = routing_of c.args.routing in
    writes_as old new true (Replaced NextRouting (Int (pos id) ∷ []) (next_params id routing))
    (IsNextPut id (Some routing)) (λ did. (did, next_back id c.args.routing c.requires))
    (subst₂ (λ k r. WritesInTransaction old new true (Replaced NextRouting k r))
    (one_bound c.number.result (Int (pos id)) refl c.number.ensures)
    (bound_next _ id routing c.next_params-params.ensures) c.in_ok-replace.ensures)

pub replace-requires : goal.replace-requires
replace-requires g c =
    let id = c.args.id in
    let routing = routing_of c.args.routing in
    keyed_as NextRouting (Int (pos id) ∷ []) _ (next_params id routing) _
    (one_bound c.number.result (Int (pos id)) refl c.number.ensures)
    (bound_next _ id routing c.next_params-params.ensures) (next_keyed id routing)
