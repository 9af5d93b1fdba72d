use Rattle.std.proofs.Common.{pos, refl, is_ok, subst}
use Rattle.sqlite.specs.declared.types.Value.TheVariants.{Int}
use Rattle.sqlite.specs.Held.{state}
use Rattle.sql_rows.specs.Written.{Removed}
use Rattle.sql_rows.specs.declared.statement.Table.TheVariants.{OldVersion}
use Rattle.sql_store.specs.Store.{WritesInTransaction}
use Rattle.sql_store.proofs.LookupLemmas.{one_bound}
use Rattle.sql_store.proofs.migration.delete_old.Goals as goal

pub returns : goal.returns
returns g c =
    let old = state g.S.Store c.args.conn.now in
    let new = state g.S.Store c.take.new.conn in
    subst (λ k. WritesInTransaction old new (is_ok c.take.result) (Removed OldVersion k))
    (one_bound c.number.result (Int (pos c.args.id)) refl c.number.ensures) c.take.ensures
