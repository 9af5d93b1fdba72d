-- The list of everything in force.
use Rattle.std.proofs.Common.{◌≡◌, ℕ, ◌+◌, ◌<◌, ◌≤◌, nat_lt, length, List, [], ◌∷◌, map, Bool, true, false, Option, Some, slice_index_or, Less, refl, sym, ap, subst, ◌∙◌, arith}
use Rattle.std.specs.FinMap.{get}
use Rattle.std.specs.List.{filter_map}
use Rattle.std.specs.List.Sorted.{IsPermutation, IsStrictlySortedBy}
use Rattle.std.specs.Ordering.{nat_cmp, on}
use Rattle.std.specs.Cmp.{nat_cmp_total}
use Rattle.std.proofs.lemmas.Bool.Decides.{nat_tests}
use Rattle.std.proofs.lemmas.Cmp.{on_total}
use Rattle.std.proofs.lemmas.List.Sorted.{IsPermutation-sym}
use Rattle.std.proofs.lemmas.Map.Keys.{sorted_from_all_adjacent}
use Rattle.sqlite.specs.Order.{column}
use Rattle.sqlite.specs.Tree.{Trees}
use Rattle.sqlite_rules.specs.Lists.{Has}
use Rattle.sqlite_rules.proofs.ListLemmas.{contains_had}
use Rattle.numbers.specs.Routings.{Routing}
use Rattle.numbers.specs.Subjects.{Subject}
use Rattle.numbers.specs.Abstraction.{key_of, routing_of, subject_of}
use Rattle.delivery.specs.declared.mirror.RoutedRow.{RoutedRow}
use Rattle.model.specs.Content.{VersionRow, subject_if}
use Rattle.settle.specs.Reads.{AreInForce, IsRouted}
use Rattle.settle.specs.declared.rows.NumberedRow.{NumberedRow}
use Rattle.sql_rows.specs.Content.{bare_in, content_in, nexts_in}
use Rattle.sql_rows.proofs.Rerouted.{bare-of, whole-of}
use Rattle.sql_rows.specs.Values.{number_in, subject_from, subject_number}
use Rattle.sql_rows.specs.Versions.{rerouted, shown_of, version_in}
use Rattle.sql_rows.proofs.DueLemmas.{has_permuted}
use Rattle.sql_rows.proofs.Inversions.{bind_some, map_some, number_small, reads, subject_same}
use Rattle.sql_rows.proofs.Listed.{from_mapped, has_mapped}
use Rattle.sql_rows.proofs.Lookups.{entry_from}
use Rattle.sql_rows.proofs.Orders.{same_number}
use Rattle.sql_rows.proofs.Picked.{Picks}
use Rattle.sql_rows.proofs.QueriesListed.{IsAmong, version_seen}
use Rattle.sql_store.specs.Routed.{routed_in, routed_model}
use Rattle.sql_store.proofs.ListLemmas.{all_had, all_there}
use Rattle.sql_store.proofs.MappedLemmas.{from_filter_mapped, has_filter_mapped}

-- ---- one row

routes : (v : VersionRow) (s : Subject) (r : Routing) → v.holds ≡ Some s → v.routing ≡ Some r
    → routed_in v ≡ Some (s, r)
routes v s r holds routing = rw (holds, routing) refl

routes_from : (v : VersionRow) (s : Subject) (r : Routing) → routed_in v ≡ Some (s, r)
    → (v.holds ≡ Some s) × (v.routing ≡ Some r)
routes_from v s r is =
    let a = bind_some _ v.holds (s, r) is in
    let b = map_some _ v.routing (s, r) a.2 in (
      a.1 ∙ ap (λ (e : Subject × Routing). Some e.0) b.2,
      b.1 ∙ ap (λ (e : Subject × Routing). Some e.1) b.2,
    )

-- A subject that a row holds fits in its column.
small : (n : ℕ) → nat_lt n 9223372036854775808 ≡ true → n ≤ 9223372036854775807
small n h = grind (arith, nat_tests)

holds_small : (db : Trees) (id : ℕ) (row : VersionRow) (s : Subject)
    → get (bare_in db).versions id ≡ Some row → row.holds ≡ Some s
    → subject_number s ≤ 9223372036854775807
holds_small db id row s got holds =
    let f = entry_from nat_cmp nat_cmp_total version_in shown_of same_number (db 18) id row got in
    let it = reads (shown_of f.row) (id, row) f.reads in
    let n = bind_some subject_from (number_in (column f.row 2)) row.subject it.subject in
    let own : subject_number row.subject ≤ 9223372036854775807 =
    subst (λ n. n ≤ 9223372036854775807) (subject_same n.0 row.subject n.2)
    (small n.0 (number_small (column f.row 2) n.0 n.1)) in
    same it.is_in_force (sym it.holds ∙ holds) own
  where
    same : (b : Bool) → subject_if b row.subject ≡ Some s
        → subject_number row.subject ≤ 9223372036854775807 → subject_number s ≤ 9223372036854775807
    same true e own = let is : row.subject ≡ s = cc in
        subst (λ t. subject_number t ≤ 9223372036854775807) is own
    same false e own = absurd cc

-- ---- the list

abbrev pub Rises : List RoutedRow → Type 0
Rises = IsStrictlySortedBy (on (λ (r : RoutedRow). key_of r.subject) nat_cmp)

pub rows_rise : (rs : List RoutedRow) (n : ℕ) → length rs ≤ n
    → ((k : ℕ) (d : RoutedRow) → k + 1 < n
    → nat_cmp (key_of (slice_index_or rs k d).subject)
    (key_of (slice_index_or rs (k + 1) d).subject) ≡ Less) → Rises rs
unfolding IsStrictlySortedBy
rows_rise [] n whole each = tt
rows_rise (r ∷ rs) n whole each =
    sorted_from_all_adjacent (on_total (λ (r : RoutedRow). key_of r.subject) nat_cmp_total) (r ∷ rs)
    r (λ k inside. each k r (omega (arith, inside, whole)))

abbrev in_row : NumberedRow → Option (Subject × Routing)
in_row v = routed_in v.row

bare_routed : (db : Trees) (found : List NumberedRow) (rows items : List RoutedRow)
    → Picks version_seen (bare_in db).versions (λ id v. IsAmong 0 9223372036854775807 v.holds) found
    → map routed_model rows ≡ filter_map in_row found → IsPermutation rows items → Rises items
    → AreInForce (bare_in db) items
bare_routed db found rows items picks are same rises = record {
  each = λ s routing routed.
      let among : IsAmong 0 9223372036854775807 routed.1.holds =
      subst (IsAmong 0 9223372036854775807) (sym routed.3) (
        omega arith,
        holds_small db routed.0
            routed.1 s routed.2 routed.3,
      ) in
      let x = picks.each routed.0 routed.1 routed.2 among in
      let told : in_row x.0 ≡ Some (s, routing) = ap (λ (e : ℕ × VersionRow). routed_in e.1) x.2
      ∙ routes routed.1 s routing routed.3 routed.4 in
      let at = has_filter_mapped in_row found x.0 (s, routing) x.1 told in
      let r = from_mapped routed_model rows (s, routing) (subst (λ l. Has l (s, routing)) (sym are)
      at) in (
        r.0,
        contains_had items r.0 (has_permuted rows items r.0 same r.1),
        ap (λ (e : Subject × Routing). e.0) (sym r.2),
        ap (λ (e : Subject × Routing). e.1) (sym r.2),
      );
  only = all_there (λ (r : RoutedRow). IsRouted (bare_in db) (subject_of r.subject)
      (routing_of r.routing)) items (λ r at.
      let before = has_permuted items rows r (IsPermutation-sym rows items same) at in
      let x = from_filter_mapped in_row found (routed_model r) (subst (λ l. Has l (routed_model r))
      are (has_mapped routed_model rows r before)) in
      let told = routes_from x.0.row (subject_of r.subject) (routing_of r.routing) x.2 in
      (x.0.id, x.0.row, (picks.only x.0 x.1).0, told.0, told.1));
  rises = λ once. rises;
}

-- A version that sends a modify is in force with its present routing.
pub routed_are : (db : Trees) (found : List NumberedRow) (rows items : List RoutedRow)
    → Picks version_seen (bare_in db).versions (λ id v. IsAmong 0 9223372036854775807 v.holds) found
    → map routed_model rows ≡ filter_map in_row found → IsPermutation rows items → Rises items
    → AreInForce (content_in db) items
routed_are db found rows items picks are same rises =
    let bare = bare_routed db found rows items picks are same rises in
    record {
      each = λ s routing routed.
          let b = bare-of db routed.0 routed.1 routed.2 in
          bare.each s routing (
            routed.0,
            b.0,
            b.1,
            ap (λ (v : VersionRow). v.holds) b.2 ∙ routed.3,
            ap (λ (v : VersionRow). v.routing) b.2 ∙ routed.4,
          );
      only = all_there (λ (r : RoutedRow). IsRouted (content_in db) (subject_of r.subject)
          (routing_of r.routing)) items (λ r at.
          let b = all_had (λ (r : RoutedRow). IsRouted (bare_in db) (subject_of r.subject)
          (routing_of r.routing)) items bare.only r at in
          (b.0, rerouted (get (nexts_in (db 16)) b.0) b.1, whole-of db b.0 b.1 b.2, b.3, b.4));
      rises = λ once. rises;
    }
