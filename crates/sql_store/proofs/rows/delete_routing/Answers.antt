use Rattle.std.proofs.Common.{◌≡◌, None, false, true, is_ok, pos, refl, rules, sym, subst}
use Rattle.sqlite.specs.declared.types.Value.TheVariants.{Int}
use Rattle.sqlite.specs.Held.{state}
use Rattle.sql_rows.specs.Written.{Removed}
use Rattle.sql_rows.specs.declared.statement.Table.TheVariants.{NextRouting}
use Rattle.sql_store.specs.Store.{IsNextPut, WritesInTransaction}
use Rattle.sql_store.proofs.CallLemmas.{writes_nothing}
use Rattle.sql_store.proofs.LookupLemmas.{one_bound}
use Rattle.sql_store.proofs.rows.delete_routing.Goals as goal

pub returns-in_err-take : goal.returns-in_err-take
returns-in_err-take g c =
    let old = state g.S.Store c.args.conn.now in
    let new = state g.S.Store c.take.new.conn in
    let fails : is_ok c.from_residual.result ≡ false = search rules in
    subst (λ d. WritesInTransaction old new d (IsNextPut c.args.id None)) (sym fails)
    (writes_nothing old new _ _ c.in_err-take.ensures)

pub returns : goal.returns
returns g c =
    let old = state g.S.Store c.args.conn.now in
    let new = state g.S.Store c.take.new.conn in
    subst (λ k. WritesInTransaction old new true (Removed NextRouting k))
    (one_bound c.number.result (Int (pos c.args.id)) refl c.number.ensures)
    c.in_ok-take.ensures
