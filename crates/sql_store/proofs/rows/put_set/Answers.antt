use Rattle.std.proofs.Common.{◌≡◌, Some, true, false, is_ok, pos, refl, rules, arith, sym, ap, subst, ◌∙◌, subst₂, ◌<◌, ◌≤◌, ◌∷◌, []}
use Rattle.sqlite.specs.declared.types.Value.TheVariants.{Int}
use Rattle.sqlite.specs.Effect.{Database}
use Rattle.sqlite.specs.Held.{state}
use Rattle.sqlite.specs.State.{State}
use Rattle.windows.specs.declared.window.Windows.{Windows as WindowsImpl}
use Rattle.version.specs.Abstraction.{windows_of}
use Rattle.sql_rows.specs.declared.statement.Table.TheVariants.{Clock, WindowSet}
use Rattle.sql_rows.specs.Clocks.{clock_of}
use Rattle.sql_rows.specs.declared.keyed.StoredClock.{StoredClock as StoredImpl}
use Rattle.sql_rows.specs.Content.{clock_entry, clock_params, set_entry, set_params, stored}
use Rattle.sql_rows.specs.Shaped.{AreShaped}
use Rattle.sql_rows.specs.Tables.{the_schema}
use Rattle.sql_rows.specs.Written.{Replaced}
use Rattle.sql_rows.proofs.PutLemmas.{clock_framed, put_set, put_set_clock, set_framed}
use Rattle.sql_store.specs.Changes.{with_set}
use Rattle.sql_store.specs.Store.{AppliesInTransaction, IsSetPut, WritesInTransaction}
use Rattle.sql_rows.proofs.Backs.{clock_back, set_back}
use Rattle.sql_rows.proofs.BoundLemmas.{bound_clock, bound_set}
use Rattle.sql_store.proofs.CallLemmas.{two_made, two_stop, two_unwritten, two_wrote, writes_nothing}
use Rattle.sql_rows.proofs.Casts.{clock_cast, set_cast}
use Rattle.sql_store.specs.Whole.{EachReads}
use Rattle.sql_store.proofs.LookupLemmas.{one_bound}
use Rattle.sql_store.proofs.WholeLemmas.{reads_replaced}
use Rattle.sql_store.proofs.MadeLemmas.{keyed_as}
use Rattle.sql_rows.proofs.RowKeys.{clock_keyed, set_keyed}
use Rattle.sql_store.proofs.rows.put_set.Goals as goal

pub returns-in_err-replace-2-clause-applies : goal.returns-in_err-replace-2-clause-applies
returns-in_err-replace-2-clause-applies g c =
    let old = state g.S.Store c.args.conn.now in
    let mid = state g.S.Store c.replace.new.conn in
    let new = state g.S.Store c.replace-2.new.conn in
    let fails : is_ok c.from_residual-in_err-replace-2.result ≡ false = search rules in
    subst (λ d. AppliesInTransaction old new d (with_set (clock_of c.args.row.now)
    (windows_of c.args.windows.now))) (sym fails)
    (two_stop old mid new _ _ _ c.in_ok-replace.ensures c.in_err-replace-2.ensures)

-- What both statements wrote, by the values of the code.
module _ (row : StoredImpl) (windows : WindowsImpl) (few : row.next_id < 9223372036854775808)
    (least : 0 < row.present) (most : row.present ≤ 1000) where
  abbrev IsSetWritten : Database → Database → Type 0
  IsSetWritten = Replaced WindowSet (Int (pos row.present) ∷ [])
      (set_params row.present (windows_of windows))

  abbrev IsClockWritten : Database → Database → Type 0
  IsClockWritten = Replaced Clock (Int (pos 0) ∷ []) (clock_params 0 (clock_of row))

  back : set_entry (stored (set_params row.present (windows_of windows)))
      ≡ Some (row.present, windows_of windows)
  back = set_back (record { number = row.present; windows = windows }) least most

  between : (old mid : Database) → AreShaped old.trees → IsSetWritten old mid
      → (mid.schema ≡ the_schema) × AreShaped mid.trees
  between old mid shaped did =
      let b = put_set old mid shaped row.present (windows_of windows) back did in
      (b.schema, b.shaped)

  put : (old mid new : Database) → IsSetWritten old mid → IsClockWritten mid new → IsSetPut old new
  put old mid new did then =
      let first = set_framed old mid row.present (windows_of windows) did in
      let second = clock_framed mid new (clock_of row) then in
      record {
        others = λ t set clock. second t clock ∙ first t set;
        sets = λ each. subst (EachReads set_entry)
            (sym (second WindowSet (λ tie. omega (arith, tie))))
            (reads_replaced WindowSet set_entry (Int (pos row.present) ∷ [])
            (set_params row.present (windows_of windows))
            (stored (set_params row.present (windows_of windows)))
            (row.present, windows_of windows) back old mid
            (λ db. set_cast db row.present (windows_of windows)) did each);
        clock = λ each. reads_replaced Clock clock_entry (Int (pos 0) ∷ [])
            (clock_params 0 (clock_of row)) (stored (clock_params 0 (clock_of row)))
            (0, clock_of row) (clock_back row few least most) mid new
            (λ db. clock_cast db 0 (clock_of row)) then
            (subst (EachReads clock_entry) (sym (first Clock (λ tie. omega (arith, tie)))) each);
      }

  made : (a b d : State) → WritesInTransaction a b true IsSetWritten
      → WritesInTransaction b d true IsClockWritten
      → AppliesInTransaction a d true (with_set (clock_of row) (windows_of windows))
  made a b d first second =
      two_made a b d true IsSetWritten IsClockWritten (with_set (clock_of row) (windows_of windows))
      first second (between a.now b.now)
      (λ shaped did then. put_set_clock a.now b.now d.now shaped (windows_of windows) (clock_of row)
      back (clock_back row few least most) did then)

  others : (a b d : State) → WritesInTransaction a b true IsSetWritten
      → WritesInTransaction b d true IsClockWritten → WritesInTransaction a d true IsSetPut
  others a b d first second =
      two_wrote a b d true IsSetWritten IsClockWritten IsSetPut first second (between a.now b.now)
      (λ did then. put a.now b.now d.now did then)

pub returns-in_err-replace-clause-others : goal.returns-in_err-replace-clause-others
returns-in_err-replace-clause-others g c =
    let old = state g.S.Store c.args.conn.now in
    let new = state g.S.Store c.replace.new.conn in
    let fails : is_ok c.from_residual.result ≡ false = search rules in
    subst (λ d. WritesInTransaction old new d IsSetPut) (sym fails)
    (writes_nothing old new _ _ c.in_err-replace.ensures)

pub returns-in_err-replace-2-clause-others : goal.returns-in_err-replace-2-clause-others
returns-in_err-replace-2-clause-others g c =
    let old = state g.S.Store c.args.conn.now in
    let mid = state g.S.Store c.replace.new.conn in
    let new = state g.S.Store c.replace-2.new.conn in
    let fails : is_ok c.from_residual-in_err-replace-2.result ≡ false = search rules in
    subst (λ d. WritesInTransaction old new d IsSetPut) (sym fails)
    (two_unwritten old mid new _ _ _ c.in_ok-replace.ensures
    c.in_err-replace-2.ensures)

pub returns-clause-applies : goal.returns-clause-applies
returns-clause-applies g c =
    let old = state g.S.Store c.args.conn.now in
    let mid = state g.S.Store c.replace.new.conn in
    let new = state g.S.Store c.replace-2.new.conn in
    let row = c.args.row.now in
    let few : row.next_id < 9223372036854775808 = search rules in
    let least : 0 < row.present = search rules in
    let most : row.present ≤ 1000 = search rules in
    let first =
    subst₂ (λ k r. WritesInTransaction old mid true (Replaced WindowSet k r))
    (one_bound c.number-key.result (Int (pos row.present)) refl (c.number-key.ensures
    ∙ ap (λ k. Int (pos k)) c.from.ensures)) (bound_set _ row.present
    (windows_of c.args.windows.now) c.set_params.ensures)
    c.in_ok-replace.ensures in
    let second =
    subst₂ (λ k r. WritesInTransaction mid new true (Replaced Clock k r))
    (one_bound c.number.result (Int (pos 0)) refl c.number.ensures) (bound_clock _ 0 (clock_of row)
    c.clock_params.ensures) c.in_ok-replace-2.ensures in
    made row c.args.windows.now few least most old mid new first second

pub returns-clause-others : goal.returns-clause-others
returns-clause-others g c =
    let old = state g.S.Store c.args.conn.now in
    let mid = state g.S.Store c.replace.new.conn in
    let new = state g.S.Store c.replace-2.new.conn in
    let row = c.args.row.now in
    let few : row.next_id < 9223372036854775808 = search rules in
    let least : 0 < row.present = search rules in
    let most : row.present ≤ 1000 = search rules in
    let first =
    subst₂ (λ k r. WritesInTransaction old mid true (Replaced WindowSet k r))
    (one_bound c.number-key.result (Int (pos row.present)) refl (c.number-key.ensures
    ∙ ap (λ k. Int (pos k)) c.from.ensures)) (bound_set _ row.present
    (windows_of c.args.windows.now) c.set_params.ensures)
    c.in_ok-replace.ensures in
    let second =
    subst₂ (λ k r. WritesInTransaction mid new true (Replaced Clock k r))
    (one_bound c.number.result (Int (pos 0)) refl c.number.ensures) (bound_clock _ 0 (clock_of row)
    c.clock_params.ensures) c.in_ok-replace-2.ensures in
    others row c.args.windows.now few least most old mid new first second

pub replace-requires : goal.replace-requires
replace-requires g c =
    let n = c.args.row.now.present in
    let windows = windows_of c.args.windows.now in
    keyed_as WindowSet (Int (pos n) ∷ []) _ (set_params n windows) _
    (one_bound c.number-key.result (Int (pos n)) refl (c.number-key.ensures
    ∙ ap (λ k. Int (pos k)) c.from.ensures)) (bound_set _ n windows c.set_params.ensures)
    (set_keyed n windows)

pub replace-requires-2 : goal.replace-requires-2
replace-requires-2 g c =
    let row = clock_of c.args.row.now in
    keyed_as Clock (Int (pos 0) ∷ []) _ (clock_params 0 row) _
    (one_bound c.number.result (Int (pos 0)) refl c.number.ensures)
    (bound_clock _ 0 row c.clock_params.ensures) (clock_keyed 0 row)
