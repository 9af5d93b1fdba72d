use Rattle.std.proofs.Common.{rules, ◌≡◌, [], ◌∷◌, Some, None, map, get_or, sym, subst, ◌∙◌}
use Rattle.sqlite.specs.Held.{state}
use Rattle.sql_rows.specs.Content.{old_clock_in}
use Rattle.sql_rows.specs.Found.{IsListAnswer}
use Rattle.sql_rows.specs.declared.keyed.OldClock.{OldClock as ClockImpl}
use Rattle.sql_rows.specs.declared.statement.Query.TheVariants.{All}
use Rattle.sql_rows.specs.declared.statement.Table.TheVariants.{OldClock}
use Rattle.numbers.proofs.Small.{some_is}
use Rattle.sql_rows.proofs.Formers.{clock_seen}
use Rattle.version.specs.Abstraction.{windows_of}
use Rattle.sql_store.proofs.MigrationLemmas.{no_item, one_item, other_windows, own_windows, same_told}
use Rattle.sql_store.proofs.migration.has_windows.Goals as goal

pub returns-in-empty-clause-own : goal.returns-in-empty-clause-own
returns-in-empty-clause-own g c = λ up ok.
    let none : c.in_ok-clocks.clocks.items ≡ [] =
    sym c.as_slice.ensures.value ∙ no_item c.as_slice.result.now c.in-empty.len_below in
    own_windows (state g.S.Store c.args.conn.now).now.trees (windows_of c.args.windows.now) None
    (subst (λ cs. IsListAnswer (All OldClock) old_clock_in
    (state g.S.Store c.args.conn.now).now.trees [] (map clock_seen cs)) none
    (c.in_ok-clocks.ensures.value up))
    (λ x is. let never : None ≡ Some x = is in cc)

pub returns-in-len1-clause-own : goal.returns-in-len1-clause-own
returns-in-len1-clause-own g c = λ up is_own.
    let clock = c.clock-item.result in
    let item : clock ≡ get_or c.as_slice.result.now 0 clock = search rules in
    let one : c.in_ok-clocks.clocks.items ≡ clock ∷ [] =
    sym c.as_slice.ensures.value ∙ one_item c.as_slice.result.now clock c.in-len1.len_at_least
    c.in-len1.len_below item in
    let same : windows_of clock.windows ≡ windows_of c.args.windows.now = search (rules, is_own) in
    own_windows (state g.S.Store c.args.conn.now).now.trees (windows_of c.args.windows.now)
    (Some clock)
    (subst (λ cs. IsListAnswer (All OldClock) old_clock_in
    (state g.S.Store c.args.conn.now).now.trees [] (map clock_seen cs)) one
    (c.in_ok-clocks.ensures.value up))
    (λ x is. subst (λ (y : ClockImpl). windows_of y.windows ≡ windows_of c.args.windows.now)
    (some_is clock x is) same)

pub returns-in-len1-clause-others : goal.returns-in-len1-clause-others
returns-in-len1-clause-others g c = λ up is_other.
    let clock = c.clock-item.result in
    let item : clock ≡ get_or c.as_slice.result.now 0 clock = search rules in
    let one : c.in_ok-clocks.clocks.items ≡ clock ∷ [] =
    sym c.as_slice.ensures.value ∙ one_item c.as_slice.result.now clock c.in-len1.len_at_least
    c.in-len1.len_below item in
    other_windows (state g.S.Store c.args.conn.now).now.trees (windows_of c.args.windows.now) clock
    (subst (λ cs. IsListAnswer (All OldClock) old_clock_in
    (state g.S.Store c.args.conn.now).now.trees [] (map clock_seen cs)) one
    (c.in_ok-clocks.ensures.value up))
    (same_told (windows_of clock.windows) (windows_of c.args.windows.now) c.eq.result c.eq.ensures
    is_other)
