use Rattle.std.proofs.Common.{◌≡◌, ◌∷◌, [], Some, None, rules, get_or, sym, subst, ◌∙◌}
use Rattle.std.specs.Prelude.{is_ok}
use Rattle.sqlite.specs.Held.{state}
use Rattle.sql_store.specs.Migration.{AreTreesMigrated, HasMigrated}
use Rattle.sql_store.proofs.MigrationLemmas.{migrated, no_item, one_item}
use Rattle.sql_store.proofs.migration.carry_over.Goals as goal

pub returns-in-empty-clause-moves : goal.returns-in-empty-clause-moves
returns-in-empty-clause-moves g c =
    let a = state g.S.Store c.args.conn.now in
    let b = state g.S.Store c.ids_of.new.conn in
    let d = state g.S.Store c.read_old.new.conn in
    let e = state g.S.Store c.move_rows.new.conn in
    let f = c.args.schema_version in
    let ids = c.in_ok-ids.ids.items in
    let none : c.in_ok-clocks.clocks.items ≡ [] =
    sym c.as_slice.ensures.value ∙ no_item c.as_slice.result.now c.in-empty.len_below in
    migrated f a b d e (is_ok c.move_rows.result) ids c.in_ok-clocks.clocks.items None
    c.in_ok-ids.ensures.queried c.in_ok-clocks.ensures.queried c.requires.old
    c.in_ok-ids.ensures.value c.in_ok-clocks.ensures.value none
    (subst (λ ids. HasMigrated (AreTreesMigrated f ids None) d e (is_ok c.move_rows.result))
    c.as_slice-in-empty.ensures.value c.move_rows.ensures.moves)

pub returns-in-len1-clause-moves : goal.returns-in-len1-clause-moves
returns-in-len1-clause-moves g c =
    let a = state g.S.Store c.args.conn.now in
    let b = state g.S.Store c.ids_of.new.conn in
    let d = state g.S.Store c.read_old.new.conn in
    let e = state g.S.Store c.move_rows-in-len1.new.conn in
    let f = c.args.schema_version in
    let ids = c.in_ok-ids.ids.items in
    let clock = c.clock-item.result in
    let item : clock ≡ get_or c.as_slice.result.now 0 clock = search rules in
    let one : c.in_ok-clocks.clocks.items ≡ clock ∷ [] =
    sym c.as_slice.ensures.value ∙ one_item c.as_slice.result.now clock c.in-len1.len_at_least
    c.in-len1.len_below item in
    migrated f a b d e (is_ok c.move_rows-in-len1.result) ids c.in_ok-clocks.clocks.items
    (Some clock) c.in_ok-ids.ensures.queried c.in_ok-clocks.ensures.queried c.requires.old
    c.in_ok-ids.ensures.value c.in_ok-clocks.ensures.value one
    (subst (λ ids. HasMigrated (AreTreesMigrated f ids (Some clock)) d e
    (is_ok c.move_rows-in-len1.result))
    c.as_slice-in-len1.ensures.value c.move_rows-in-len1.ensures.moves)
