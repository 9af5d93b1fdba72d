-- The content found by each query by a key.
use Rattle.std.proofs.Common.{◌≡◌, ℕ, pos, [], ◌∷◌, Bool, true, false, Option, Some, None, refl, sym, ap, subst, ◌∙◌, true≢false, nat_lt, ◌&&◌}
use Rattle.std.specs.Prelude.{option_map}
use Rattle.std.specs.Ordering.{nat_cmp}
use Rattle.std.specs.Cmp.{nat_cmp_total, tied_itself}
use Rattle.std.specs.List.Sorted.{IsPermutation}
use Rattle.std.specs.FinMap.{get}
use Rattle.std.specs.Ordering.{is_eq}
use Rattle.sqlite.specs.declared.types.Value.TheVariants.{Int}
use Rattle.sqlite.specs.Order.{Row, column, value_cmp}
use Rattle.sqlite.specs.Tree.{Trees, rowid}
use Rattle.sqlite_rules.specs.Lists.{Has}
use Rattle.sqlite_rules.proofs.PlaceLemmas.{tied_same}
use Rattle.sqlite_value.proofs.OrderLemmas.{value_cmp_total}
use Rattle.sqlite.specs.Program.{overlay}
use Rattle.numbers.specs.Subjects.{Subject}
use Rattle.numbers.specs.Abstraction.{subject_of}
use Rattle.numbers.specs.declared.spid.Spid.{Spid}
use Rattle.numbers.specs.declared.ported.Subject.{Subject as SubjectImpl}
use Rattle.model.specs.Content.{BlockRow, VersionRow, BroadcastRow, BroadcastKey, broadcast_cmp, subject_if}
use Rattle.model.specs.Windows.{Windows}
use Rattle.sql_rows.specs.Clocks.{StoredClock}
use Rattle.settle.specs.Reads.{IsInForce, IsOpen}
use Rattle.settle.specs.declared.rows.NumberedRow.{NumberedRow}
use Rattle.numbers.specs.Routings.{Routing}
use Rattle.sql_rows.specs.Shaped.{AreShaped}
use Rattle.sql_rows.specs.Values.{spid_value, subject_value, subject_number, subject_in, found_in}
use Rattle.sql_rows.specs.Versions.{version_in, version_entry, shown_of}
use Rattle.sql_rows.specs.Content.{nexts_in, next_row_in, next_shown, content_in, bare_in, carrier_in, carrier_shown, lrn_row_in, code_row_in, owner_shown, block_row_in, block_shown, broadcast_in, broadcast_shown, set_in, set_shown, clock_in, clock_shown, clocks_in}
use Rattle.sql_rows.specs.Found.{IsSoleAnswer}
use Rattle.sql_rows.specs.Statements.{column_is, query_test, shown_by}
use Rattle.sql_rows.specs.declared.statement.Table.TheVariants.{Carrier, Lrn, Code, Block, Version, Broadcast, Clock, NextRouting, WindowSet}
use Rattle.sql_rows.specs.declared.statement.Query.TheVariants.{CarrierNamed, LrnNumbered, CodeNumbered, BlockNumbered, ClockNumbered, WindowSetNumbered, VersionNumbered, VersionInForce, VersionOpen, BroadcastKeyed, NextRoutingNumbered}
use Rattle.sql_rows.proofs.QueryLemmas.{passes, plain_answer}
use Rattle.sql_rows.proofs.Lookups.{looked_up, only, none_picked, none_passes, entry_of, entry_from, From}
use Rattle.sql_rows.proofs.Orders.{same_number, same_broadcast}
use Rattle.model.proofs.KeyOrders.{broadcast_total}
use Rattle.sql_rows.proofs.KeyTests.{next_tests, column_passes, equal_numbers, never_below, carrier_tests, lrn_tests, code_tests, block_tests, version_tests, set_tests, clock_tests, broadcast_tests}
use Rattle.sql_rows.proofs.Inversions.{reads, number_read, number_small, subject_read, found_read, unfound_read, version_key, next_key, broadcast_reads}
use Rattle.sql_rows.proofs.Backs.{subject_back}
use Rattle.numbers.proofs.Small.{true_both}

-- The value of an entry.
abbrev pub value_of : {K V : Type 0} → Option (K × V) → Option V
value_of {K} {V} o = option_map (λ (e : K × V). e.1) o

module _ (db : Trees) where
  pub carrier_found : (s : Spid) (o : Option (ℕ × Unit {0}))
      → IsSoleAnswer CarrierNamed carrier_in db (spid_value s.number ∷ []) o
      → get (content_in db).carriers s.number ≡ value_of o
  carrier_found s o h =
      looked_up nat_cmp nat_cmp_total carrier_in carrier_shown s.number _ (carrier_tests s) (db 0)
      h.0 o (plain_answer 0 (query_test CarrierNamed) (shown_by Carrier) (overlay db [])
      (spid_value s.number ∷ []) h.0 h.1) h.2

  pub lrn_found : (n : ℕ) (o : Option (ℕ × ℕ))
      → IsSoleAnswer LrnNumbered lrn_row_in db (Int (pos n) ∷ []) o
      → get (content_in db).lrns n ≡ value_of o
  lrn_found n o h = looked_up nat_cmp nat_cmp_total lrn_row_in owner_shown n _ (lrn_tests n) (db 2)
      h.0 o (plain_answer 2 (query_test LrnNumbered) (shown_by Lrn) (overlay db [])
      (Int (pos n) ∷ []) h.0 h.1) h.2

  pub code_found : (n : ℕ) (o : Option (ℕ × ℕ))
      → IsSoleAnswer CodeNumbered code_row_in db (Int (pos n) ∷ []) o
      → get (content_in db).codes n ≡ value_of o
  code_found n o h = looked_up nat_cmp nat_cmp_total code_row_in owner_shown n _ (code_tests n)
      (db 3) h.0 o (plain_answer 3 (query_test CodeNumbered) (shown_by Code) (overlay db [])
      (Int (pos n) ∷ []) h.0 h.1) h.2

  pub block_found : (n : ℕ) (o : Option (ℕ × BlockRow))
      → IsSoleAnswer BlockNumbered block_row_in db (Int (pos n) ∷ []) o
      → get (content_in db).blocks n ≡ value_of o
  block_found n o h = looked_up nat_cmp nat_cmp_total block_row_in block_shown n _ (block_tests n)
      (db 4) h.0 o (plain_answer 4 (query_test BlockNumbered) (shown_by Block) (overlay db [])
      (Int (pos n) ∷ []) h.0 h.1) h.2

  pub set_found : (n : ℕ) (o : Option (ℕ × Windows))
      → IsSoleAnswer WindowSetNumbered set_in db (Int (pos n) ∷ []) o
      → get (content_in db).sets n ≡ value_of o
  set_found n o h = looked_up nat_cmp nat_cmp_total set_in set_shown n _ (set_tests n) (db 17) h.0 o
      (plain_answer 17 (query_test WindowSetNumbered) (shown_by WindowSet) (overlay db [])
      (Int (pos n) ∷ []) h.0 h.1) h.2

  pub clock_found : (o : Option (ℕ × StoredClock))
      → IsSoleAnswer ClockNumbered clock_in db (Int (pos 0) ∷ []) o
      → get (clocks_in (db 21)) 0 ≡ value_of o
  clock_found o h = looked_up nat_cmp nat_cmp_total clock_in clock_shown 0 _ (clock_tests 0) (db 21)
      h.0 o (plain_answer 21 (query_test ClockNumbered) (shown_by Clock) (overlay db [])
      (Int (pos 0) ∷ []) h.0 h.1) h.2

  pub version_found : (id : ℕ) (o : Option (ℕ × VersionRow))
      → IsSoleAnswer VersionNumbered version_in db (Int (pos id) ∷ []) o
      → get (bare_in db).versions id ≡ value_of o
  version_found id o h = looked_up nat_cmp nat_cmp_total version_in shown_of id _ (version_tests id)
      (db 18) h.0 o (plain_answer 18 (query_test VersionNumbered) (shown_by Version) (overlay db [])
      (Int (pos id) ∷ []) h.0 h.1) h.2

  -- The version found has that id.
  pub version_own : (id : ℕ) (e : ℕ × VersionRow)
      → IsSoleAnswer VersionNumbered version_in db (Int (pos id) ∷ []) (Some e) → e.0 ≡ id
  version_own id e h =
      let one = only shown_of (passes (query_test VersionNumbered) (Int (pos id) ∷ [])) (db 18)
      h.2.0 (subst (IsPermutation _) h.2.1 (plain_answer 18 (query_test VersionNumbered)
      (shown_by Version) (overlay db []) (Int (pos id) ∷ []) h.0 h.1)) in
      let entry : version_entry one.row ≡ Some e = ap version_in one.shows ∙ h.2.2 in
      sym (same_number id e.0 (sym (version_tests id one.row e entry) ∙ one.passes))

  pub next_found : (id : ℕ) (o : Option (ℕ × Routing))
      → IsSoleAnswer NextRoutingNumbered next_row_in db (Int (pos id) ∷ []) o
      → get (nexts_in (db 16)) id ≡ value_of o
  next_found id o h = looked_up nat_cmp nat_cmp_total next_row_in next_shown id _ (next_tests id)
      (db 16) h.0 o (plain_answer 16 (query_test NextRoutingNumbered) (shown_by NextRouting)
      (overlay db []) (Int (pos id) ∷ []) h.0 h.1) h.2

  pub broadcast_found : (k : BroadcastKey) (o : Option (BroadcastKey × BroadcastRow))
      → IsSoleAnswer BroadcastKeyed broadcast_in db (Int (pos k.id) ∷ Int (pos k.attempt) ∷ []) o
      → get (content_in db).broadcasts k ≡ value_of o
  broadcast_found k o h =
      looked_up broadcast_cmp broadcast_total broadcast_in broadcast_shown k _ (broadcast_tests k)
      (db 8) h.0 o (plain_answer 8 (query_test BroadcastKeyed) (shown_by Broadcast) (overlay db [])
      (Int (pos k.id) ∷ Int (pos k.attempt) ∷ []) h.0 h.1) h.2

  -- ---- no key is as great as this

  pub no_great_id : (id : ℕ) → nat_lt id 9223372036854775808 ≡ false
      → get (bare_in db).versions id ≡ None
  no_great_id id great = by_cases (get (bare_in db).versions id) refl
    where
      by_cases : (o : Option VersionRow) → get (bare_in db).versions id ≡ o → o ≡ None
      by_cases None e = refl
      by_cases (Some w) e =
          let f = entry_from nat_cmp nat_cmp_total version_in shown_of same_number (db 18) id w e in
          absurd (true≢false
          (sym (number_small (column f.row 0) id (version_key f.row (id, w) f.reads)) ∙ great))

  pub no_great_next : (id : ℕ) → nat_lt id 9223372036854775808 ≡ false
      → get (nexts_in (db 16)) id ≡ None
  no_great_next id great = by_cases (get (nexts_in (db 16)) id) refl
    where
      by_cases : (o : Option Routing) → get (nexts_in (db 16)) id ≡ o → o ≡ None
      by_cases None e = refl
      by_cases (Some w) e =
          let f = entry_from nat_cmp nat_cmp_total next_row_in next_shown same_number (db 16) id w
          e in
          absurd (true≢false
          (sym (number_small (column f.row 0) id (next_key f.row (id, w) f.reads)) ∙ great))

  pub no_great_broadcast : (k : BroadcastKey)
      → (nat_lt k.id 9223372036854775808 && nat_lt k.attempt 9223372036854775808) ≡ false
      → get (content_in db).broadcasts k ≡ None
  no_great_broadcast k great = by_cases (get (content_in db).broadcasts k) refl
    where
      by_cases : (o : Option BroadcastRow) → get (content_in db).broadcasts k ≡ o → o ≡ None
      by_cases None e = refl
      by_cases (Some w) e =
          let f = entry_from broadcast_cmp broadcast_total broadcast_in broadcast_shown
          same_broadcast (db 8) k w e in
          let r = broadcast_reads f.row (k, w) f.reads in
          absurd (true≢false
          (sym (true_both _ _ (number_small (column f.row 1) k.id r.id)
          (number_small (column f.row 2) k.attempt r.attempt)) ∙ great))

  -- ---- versions by subject column

  module _ (shaped : AreShaped db) where
    -- Rows with the same id are the same row.
    pub versions_once : (r s : Row) (k : ℕ) (a b : VersionRow) → Has (db 18) r → Has (db 18) s
        → version_entry r ≡ Some (k, a) → version_entry s ≡ Some (k, b) → s ≡ r
    versions_once r s k a b at there is also =
        let one = number_read (column r 0) k (version_key r (k, a) is) in
        let two = number_read (column s 0) k (version_key s (k, b) also) in
        tied_same (db 18) s r (shaped Version).0 there at (ap (value_cmp (rowid s)) (one ∙ sym two)
        ∙ tied_itself value_cmp_total (rowid s))

    -- A row that reads is an entry of the map.
    pub version_stands : (r : Row) (id : ℕ) (v : VersionRow) → Has (db 18) r
        → version_entry r ≡ Some (id, v) → get (bare_in db).versions id ≡ Some v
    version_stands r id v at is =
        entry_of nat_cmp nat_cmp_total version_in shown_of same_number (db 18) versions_once r id v
        at is

  -- Each version has a row that reads as it.
  pub version_row_of : (id : ℕ) (v : VersionRow) → get (bare_in db).versions id ≡ Some v
      → From nat_cmp nat_cmp_total version_in shown_of id (db 18) v
  version_row_of id v e = entry_from nat_cmp nat_cmp_total version_in shown_of same_number (db 18)
      id v e

-- A subject column that finds its row passes the test of that subject only.
found_passes : (place id : ℕ) (r : Row) (t : Subject) (b : Bool) (s : SubjectImpl)
    → found_in id t (column r place) ≡ Some b → subject_in (column r 2) ≡ Some t
    → subject_if b t ≡ Some (subject_of s)
    → passes (column_is place 0 ∷ []) (subject_value (subject_of s) ∷ []) r ≡ true
found_passes place id r t false s is of e = absurd cc
found_passes place id r t true s is of e =
    let same : t ≡ subject_of s = cc in
    let col = found_read id t (column r place) is in
    column_passes place _ _ r col ∙ equal_numbers (subject_number t) (subject_number (subject_of s))
    ∙ ap (λ u. is_eq (nat_cmp (subject_number u) (subject_number (subject_of s)))) same
    ∙ ap is_eq (tied_itself nat_cmp_total (subject_number (subject_of s)))

passes_found : (place id : ℕ) (r : Row) (t : Subject) (b : Bool) (s : SubjectImpl)
    → found_in id t (column r place) ≡ Some b → subject_in (column r 2) ≡ Some t
    → passes (column_is place 0 ∷ []) (subject_value (subject_of s) ∷ []) r ≡ true
    → subject_if b t ≡ Some (subject_of s)
passes_found place id r t false s is of passed =
    absurd (true≢false (sym passed ∙ column_passes place (subject_value (subject_of s)) _ r
    (unfound_read id t (column r place) is) ∙ never_below id (subject_number (subject_of s))))
passes_found place id r t true s is of passed =
    let col = found_read id t (column r place) is in
    let n = subject_number (subject_of s) in
    let same : subject_number t ≡ n =
    same_number (subject_number t) n (sym (sym passed ∙ column_passes place _ _ r col
    ∙ equal_numbers (subject_number t) n)) in
    let own : column r 2 ≡ subject_value t = subject_read (column r 2) t of in
    let read : subject_in (subject_value (subject_of s)) ≡ Some t =
    ap (λ k. subject_in (Int (pos k))) (sym same) ∙ ap subject_in (sym own) ∙ of in
    sym read ∙ subject_back s

module _ (db : Trees) (shaped : AreShaped db) (s : SubjectImpl) where
  pub in_force_found : (o : Option NumberedRow)
      → IsSoleAnswer VersionInForce version_in db (subject_value (subject_of s) ∷ [])
      (option_map (λ (v : NumberedRow). (v.id, v.row)) o) → IsInForce (bare_in db) (subject_of s) o
  in_force_found None h = λ id row at given.
      let none = none_picked shown_of _ (db 18)
      (subst (IsPermutation _) h.2 (plain_answer 18 (query_test VersionInForce) (shown_by Version)
      (overlay db []) (subject_value (subject_of s) ∷ []) h.0 h.1)) in
      let f = version_row_of db id row at in
      let r = reads (shown_of f.row) (id, row) f.reads in
      none_passes _ (db 18) f.row none f.has (found_passes 19 id f.row row.subject r.is_in_force s
      r.found_in_force r.subject (sym r.holds ∙ given))
  in_force_found (Some v) h =
      let one = only shown_of (passes (query_test VersionInForce)
      (subject_value (subject_of s) ∷ [])) (db 18) h.2.0
      (subst (IsPermutation _) h.2.1 (plain_answer 18 (query_test VersionInForce) (shown_by Version)
      (overlay db []) (subject_value (subject_of s) ∷ []) h.0 h.1)) in
      let entry : version_entry one.row ≡ Some (v.id, v.row) = ap version_in one.shows ∙ h.2.2 in
      let r = reads (shown_of one.row) (v.id, v.row) entry in (
        version_stands db shaped one.row v.id v.row one.has entry,
        r.holds ∙ passes_found 19 v.id one.row v.row.subject r.is_in_force s r.found_in_force
            r.subject one.passes,
      )

  pub open_found : (o : Option NumberedRow)
      → IsSoleAnswer VersionOpen version_in db (subject_value (subject_of s) ∷ [])
      (option_map (λ (v : NumberedRow). (v.id, v.row)) o) → IsOpen (bare_in db) (subject_of s) o
  open_found None h = λ id row at given.
      let none = none_picked shown_of _ (db 18)
      (subst (IsPermutation _) h.2 (plain_answer 18 (query_test VersionOpen) (shown_by Version)
      (overlay db []) (subject_value (subject_of s) ∷ []) h.0 h.1)) in
      let f = version_row_of db id row at in
      let r = reads (shown_of f.row) (id, row) f.reads in
      none_passes _ (db 18) f.row none f.has (found_passes 20 id f.row row.subject r.is_open s
      r.found_open r.subject (sym r.opens ∙ given))
  open_found (Some v) h =
      let one = only shown_of (passes (query_test VersionOpen) (subject_value (subject_of s) ∷ []))
      (db 18) h.2.0 (subst (IsPermutation _) h.2.1 (plain_answer 18 (query_test VersionOpen)
      (shown_by Version) (overlay db []) (subject_value (subject_of s) ∷ []) h.0 h.1)) in
      let entry : version_entry one.row ≡ Some (v.id, v.row) = ap version_in one.shows ∙ h.2.2 in
      let r = reads (shown_of one.row) (v.id, v.row) entry in (
        version_stands db shaped one.row v.id v.row one.has entry,
        r.opens ∙ passes_found 20 v.id one.row v.row.subject r.is_open s r.found_open r.subject
            one.passes,
      )
