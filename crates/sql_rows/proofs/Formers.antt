-- The content of a file with an earlier schema, as it is put into the current tables.
use Rattle.std.proofs.Common.{◌≡◌, ℕ, pos, map, List, [], ◌∷◌, Bool, true, false, cond, Option, Some, None, refl, sym, ap, subst, ◌∙◌}
use Rattle.std.specs.Prelude.{option_map}
use Rattle.std.specs.Cmp.{nat_cmp_total, tied_itself}
use Rattle.std.specs.Ordering.{eq_by_cmp, nat_cmp}
use Rattle.std.specs.FinMap.{get}
use Rattle.sqlite.specs.declared.types.Value.{Value}
use Rattle.sqlite.specs.declared.types.Value.TheVariants.{Int}
use Rattle.sqlite.specs.Order.{Row, column, value_cmp}
use Rattle.sqlite.specs.Program.{overlay}
use Rattle.sqlite.specs.Query.{IsAnswer}
use Rattle.sqlite.specs.Tree.{Trees, rowid}
use Rattle.sqlite.specs.View.{IsShaped}
use Rattle.sqlite_rules.specs.Lists.{Has}
use Rattle.sqlite_rules.proofs.PlaceLemmas.{tied_same}
use Rattle.sqlite_trees.specs.declared.store.Shape.TheVariants.{Table as AsTable}
use Rattle.sqlite_value.proofs.OrderLemmas.{value_cmp_total}
use Rattle.numbers.specs.Routings.{Routing}
use Rattle.model.specs.Content.{ClockRow, VersionRow}
use Rattle.model.specs.Statuses.{Send, Create, Delete, Modify, Status, Pending, Conflict, CancelPending, Sending, Active, PartialFailure, Failed, DisconnectPending, Old, Canceled}
use Rattle.model.specs.declared.words.Side.{Side}
use Rattle.sql_rows.specs.Clocks.{old_clock_of}
use Rattle.sql_rows.specs.Content.{old_clock_entry, old_clock_in, old_clock_shown, windows_in}
use Rattle.sql_rows.specs.OldSchemas.{old_clock, old_versions_in}
use Rattle.sql_rows.specs.Found.{IsListAnswer, IsSole, IsSoleAnswer}
use Rattle.sql_rows.specs.Migration.{table_of_old}
use Rattle.sql_rows.specs.Shaped.{AreShaped}
use Rattle.sql_rows.specs.Statements.{query_of, query_test, shown_by, tree_of}
use Rattle.sql_rows.specs.Values.{is_int, minute_in, number_in, only_in, send_in, side_in, status_in}
use Rattle.sql_rows.specs.Versions.{bare, bare_status, old_shown_of, old_version_entry, old_version_in, version_with}
use Rattle.sql_rows.specs.Written.{IsFrame}
use Rattle.sql_rows.specs.declared.keyed.OldClock.{OldClock}
use Rattle.sql_rows.specs.declared.migration.OldTable.{OldTable}
use Rattle.sql_rows.specs.declared.statement.Query.TheVariants.{All, OldVersionNumbered}
use Rattle.sql_rows.specs.declared.statement.Table.TheVariants.{OldClock as ClockTable, OldVersion as VersionTable}
use Rattle.sql_rows.specs.declared.version_row.OldVersion.{OldVersion}
use Rattle.sql_rows.proofs.FoundLemmas.{value_of}
use Rattle.sql_rows.proofs.KeyTests.{number_tests}
use Rattle.sql_rows.proofs.Inversions.{bind_some, map_some, number_read, reads_with}
use Rattle.sql_rows.proofs.Listed.{listed}
use Rattle.sql_rows.proofs.Lookups.{entry_from, looked_up}
use Rattle.sql_rows.proofs.RowLemmas.{Tests}
use Rattle.sql_rows.proofs.Orders.{same_number}
use Rattle.sql_rows.proofs.Picked.{Picks, picks}
use Rattle.sql_rows.proofs.QueryLemmas.{passes, plain_answer}
use Rattle.sql_rows.proofs.TableLemmas.{shaped_framed}
use Rattle.numbers.proofs.Small.{some_is}

-- ---- a row that reads is bare

-- What a status sends, if it sends something.
abbrev sent_by : Status → Option Send
sent_by (Sending send) = Some send
sent_by s = None

module _ (own put : Routing) where
  -- Of the words of a status, only one says that something is sent.
  sent_own : (a b c d e f g h i j : Bool) (by : Option Side) (sends : Option Send)
      (release : Option ℕ) → (sends ≡ Some (Modify put) → own ≡ put) →
      cond a (Some Pending)
      (cond b (Some Conflict) (cond c (option_map CancelPending by)
      (cond d (option_map Sending sends)
      (cond e (Some Active)
      (cond f (Some PartialFailure)
      (cond g (Some Failed) (cond h (option_map DisconnectPending release)
      (cond i (Some Old) (cond j (Some Canceled) None)))))))))
      ≡ Some (Sending (Modify put)) → own ≡ put
  sent_own true b c d e f g h i j by sends release same it =
      absurd (let no = ap (option_map sent_by) it in cc)
  sent_own false true c d e f g h i j by sends release same it =
      absurd (let no = ap (option_map sent_by) it in cc)
  sent_own false false true d e f g h i j None sends release same it = absurd cc
  sent_own false false true d e f g h i j (Some side) sends release same it =
      absurd (let no = ap (option_map sent_by) it in cc)
  sent_own false false false true e f g h i j by None release same it = absurd cc
  sent_own false false false true e f g h i j by (Some send) release same it =
      same (some_is (Some send) (Some (Modify put)) (ap (option_map sent_by) it))
  sent_own false false false false true f g h i j by sends release same it =
      absurd (let no = ap (option_map sent_by) it in cc)
  sent_own false false false false false true g h i j by sends release same it =
      absurd (let no = ap (option_map sent_by) it in cc)
  sent_own false false false false false false true h i j by sends release same it =
      absurd (let no = ap (option_map sent_by) it in cc)
  sent_own false false false false false false false true i j by sends None same it = absurd cc
  sent_own false false false false false false false true i j by sends (Some m) same it =
      absurd (let no = ap (option_map sent_by) it in cc)
  sent_own false false false false false false false false true j by sends release same it =
      absurd (let no = ap (option_map sent_by) it in cc)
  sent_own false false false false false false false false false true by sends release same it =
      absurd (let no = ap (option_map sent_by) it in cc)
  sent_own false false false false false false false false false false by sends release same it =
      absurd cc

  modified_own : (a b c : Bool)
      → cond a (Some Create) (cond b (Some Delete) (cond c (Some (Modify own)) None))
      ≡ Some (Modify put) → own ≡ put
  modified_own true b c e = absurd cc
  modified_own false true c e = absurd cc
  modified_own false false true e = cc
  modified_own false false false e = absurd cc

bare_own : (own : Option Routing) (status sends release by : Value) (s : Status)
    → status_in own status sends release by ≡ Some s → bare_status own s ≡ s
bare_own own status sends release by (Sending Create) e = refl
bare_own own status sends release by (Sending Delete) e = refl
bare_own None status sends release by (Sending (Modify put)) e = refl
bare_own (Some own) status sends release by (Sending (Modify put)) e =
    ap (λ r. Sending (Modify r)) (sent_own own put _ _ _ _ _ _ _ _ _ _ (side_in by)
    (send_in (Some own) sends) (minute_in release) (modified_own own put _ _ _) e)
bare_own own status sends release by Pending e = refl
bare_own own status sends release by Conflict e = refl
bare_own own status sends release by (CancelPending side) e = refl
bare_own own status sends release by Active e = refl
bare_own own status sends release by PartialFailure e = refl
bare_own own status sends release by Failed e = refl
bare_own own status sends release by (DisconnectPending m) e = refl
bare_own own status sends release by Old e = refl
bare_own own status sends release by Canceled e = refl

pub bare_read : (held : Option ℕ) (r : Row) (e : ℕ × VersionRow) → version_with held r ≡ Some e
    → bare e.1 ≡ e.1
bare_read held r e h =
    ap (λ t. record (e.1) { status = t })
    (bare_own e.1.routing (column r 9) (column r 10) (column r 13) (column r 16) e.1.status
    (reads_with held r e h).status)

-- ---- versions

abbrev pub old_seen : OldVersion → ℕ × VersionRow
old_seen v = (v.version.id, v.version.row)

module _ (db : Trees) (shaped : IsShaped AsTable (db 5)) where
  -- Rows with the same id are the same row.
  once : (r s : Row) (k : ℕ) (a b : VersionRow) → Has (db 5) r → Has (db 5) s
      → old_version_entry r ≡ Some (k, a) → old_version_entry s ≡ Some (k, b) → s ≡ r
  once r s k a b at there is also =
      let one = number_read (column r 0) k (reads_with (Some 1) (old_shown_of r) (k, a) is).id in
      let two = number_read (column s 0) k (reads_with (Some 1) (old_shown_of s) (k, b) also).id in
      tied_same (db 5) s r shaped.0 there at (ap (value_cmp (rowid s)) (one ∙ sym two)
      ∙ tied_itself value_cmp_total (rowid s))

  pub old_picked : (items : List OldVersion) → IsListAnswer (All VersionTable) old_version_in db []
      (map old_seen items) → Picks old_seen (old_versions_in (db 5)) (λ k v. Unit {0}) items
  old_picked items h =
      picks nat_cmp_total same_number old_version_in old_shown_of old_seen
      (passes (query_test (All VersionTable)) []) (λ k v. Unit {0}) (db 5) items once
      (λ r k v is. (λ e. tt, λ e. refl))
      (listed old_seen old_version_in old_shown_of _ (db 5) h.0 items
      (plain_answer 5 (query_test (All VersionTable)) (shown_by VersionTable) (overlay db []) [] h.0
      h.1) h.2)

-- Each version is bare.
pub old_bare : (db : Trees) (k : ℕ) (v : VersionRow) → get (old_versions_in (db 5)) k ≡ Some v
    → bare v ≡ v
old_bare db k v e = let f = entry_from nat_cmp nat_cmp_total old_version_in old_shown_of same_number
    (db 5) k v e in bare_read (Some 1) (old_shown_of f.row) (k, v) f.reads

-- The version with an id.
module _ (db : Trees) where
  old_tests : (n : ℕ)
      → Tests nat_cmp old_version_entry n (passes (query_test OldVersionNumbered)
      (Int (pos n) ∷ []))
  old_tests =
      number_tests old_version_entry (λ r e is. (reads_with (Some 1) (old_shown_of r) e is).id)

  pub old_version_found : (id : ℕ) (o : Option (ℕ × VersionRow))
      → IsSoleAnswer OldVersionNumbered old_version_in db (Int (pos id) ∷ []) o
      → get (old_versions_in (db 5)) id ≡ value_of o
  old_version_found id o h =
      looked_up nat_cmp nat_cmp_total old_version_in old_shown_of id _ (old_tests id) (db 5) h.0 o
      (plain_answer 5 (query_test OldVersionNumbered) (shown_by VersionTable) (overlay db [])
      (Int (pos id) ∷ []) h.0 h.1) h.2

-- ---- the clock's row

abbrev pub clock_seen : OldClock → ℕ × ClockRow
clock_seen c = (c.number, old_clock_of c)

-- The clock's row has the number 0.
old_clock_key : (r : Row) (e : ℕ × ClockRow) → old_clock_entry r ≡ Some e → e.0 ≡ 0
old_clock_key r e h =
    let a = bind_some _ (only_in (column r 0)) e h in
    let b = bind_some _ (minute_in (column r 2)) e a.2 in
    let c = bind_some _ (number_in (column r 3)) e b.2 in
    let d = map_some _ (windows_in 3 (old_clock_shown r)) e c.2 in
    sym (ap (λ (x : ℕ × ClockRow). x.0) d.2) ∙ only_zero (column r 0) a.0 a.1
  where
    only_zero : (v : Value) (n : ℕ) → only_in v ≡ Some n → n ≡ 0
    only_zero v n e = by_cases (is_int (pos 0) v) e
      where
        by_cases : (b : Bool) → cond b (Some 0) None ≡ Some n → n ≡ 0
        by_cases true e = cc
        by_cases false e = absurd cc

pub old_clock_is : (db : Trees) (o : Option (ℕ × ClockRow)) (rows : List Row)
    → IsAnswer (query_of (All ClockTable)) (overlay db []) [] rows → IsSole old_clock_in rows o
    → old_clock (db 12) ≡ option_map (λ (e : ℕ × ClockRow). e.1) o
old_clock_is db o rows answer sole =
    looked_up nat_cmp nat_cmp_total old_clock_in old_clock_shown 0
    (passes (query_test (All ClockTable)) [])
    (λ r e is. sym (ap (λ n. eq_by_cmp nat_cmp 0 n) (old_clock_key r e is))) (db 12) rows o
    (plain_answer 12 (query_test (All ClockTable)) (shown_by ClockTable) (overlay db []) [] rows
    answer) sole

-- ---- emptying a table keeps the shapes

pub old_rows : (t : OldTable) (db next : Trees) → next (tree_of (table_of_old t)) ≡ []
    → IsFrame (table_of_old t) db next → AreShaped db → AreShaped next
old_rows t db next none frame shaped =
    shaped_framed (table_of_old t) db next frame (subst (IsShaped AsTable) (sym none) (tt, tt))
    shaped
