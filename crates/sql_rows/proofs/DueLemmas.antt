-- The query for the least deadline.
use Rattle.std.proofs.Common.{◌≡◌, inl, inr, ℕ, pos, negsuc, List, [], ◌∷◌, map, filter, Bool, true, false, Option, Some, None, refl, sym, ap, subst, ◌∙◌, arith, true≢false, nat_lt, ◌<◌, ◌≤◌, slice_index_or, ◌+◌, take, Less, Equal, Greater}
use Rattle.std.specs.Prelude.{option_map}
use Rattle.std.specs.Ordering.{nat_cmp, is_lt, is_le, is_ge, int_cmp}
use Rattle.std.specs.List.{list_all, AllByRecursion}
use Rattle.std.specs.List.Sorted.{IsPermutation, IsSorted, IsSortedBy}
use Rattle.std.proofs.lemmas.List.Sorted.{IsPermutation-sym, sorted_far}
use Rattle.std.specs.Cmp.{IsStrictWeakOrder, IsTotalOrder}
use Rattle.std.specs.declared.cmp.Ordering.{Ordering}
use Rattle.std.specs.Ordering.{ordering_reverse}
use Rattle.std.proofs.lemmas.Int.{ints}
use Rattle.std.proofs.lemmas.Bool.Decides.{nat_tests}
use Rattle.sqlite_trees.proofs.ListLemmas.{all-permutation}
use Rattle.sqlite.specs.declared.types.Value.{Value}
use Rattle.sqlite.specs.declared.types.Value.TheVariants.{Null, Int}
use Rattle.sqlite.specs.Order.{Row, column, value_cmp}
use Rattle.sqlite.specs.Ops.{binary, is_true}
use Rattle.sqlite.specs.Term.{Term}
use Rattle.sqlite_sql.specs.declared.ops.BinaryOp.TheVariants.{Compare}
use Rattle.sqlite_sql.specs.declared.ops.CompareOp.TheVariants.{Ge, Le}
use Rattle.sqlite.specs.Collation.TheVariants.{Binary}
use Rattle.sqlite_value.proofs.OrderLemmas.{value_cmp-Int, value_cmp_total, then-Equal}
use Rattle.sqlite_rules.specs.Lists.{Has}
use Rattle.sqlite_rules.proofs.ListLemmas.{has_filtered, has_kept, all_has, all_from, contains_had}
use Rattle.sqlite.specs.Query.{Query as Asked, IsAnswer, output, Output, output_cmp}
use Rattle.sqlite.specs.Program.{overlay}
use Rattle.sqlite.specs.Tree.{Trees}
use Rattle.model.specs.Content.{VersionRow}
use Rattle.model.specs.Due.{NoRowIsDue}
use Rattle.settle.specs.Reads.{IsLeastDue, IsLeastDeadline}
use Rattle.settle.specs.declared.rows.NumberedRow.{NumberedRow}
use Rattle.sql_rows.specs.Shaped.{AreShaped}
use Rattle.sql_rows.specs.Values.{minute_in}
use Rattle.sql_rows.specs.Versions.{version_in, version_entry, shown_of}
use Rattle.sql_rows.specs.Content.{bare_in}
use Rattle.sql_rows.specs.Found.{IsSoleAnswer}
use Rattle.sql_rows.specs.Statements.{query_of}
use Rattle.sql_rows.specs.declared.statement.Query.TheVariants.{VersionDue}
use Rattle.sql_rows.proofs.QueryLemmas.{passes, picked, map_twice}
use Rattle.sql_rows.proofs.Inversions.{reads, minute_read, some_read, none_read}
use Rattle.sql_rows.proofs.Lookups.{none_passes}
use Rattle.sql_rows.proofs.FoundLemmas.{version_row_of, version_stands}
use Rattle.sql_rows.proofs.OnceLemmas.{true_of}
use Rattle.numbers.proofs.Small.{less_is}

abbrev due_query : Asked
due_query = query_of VersionDue

abbrev pub due_terms : List Term
due_terms = due_query.filter

abbrev pub is_due : ℕ → Row → Bool
is_due n = passes due_terms (Int (pos n) ∷ [])

pub same_head : (a b : Row) → a ∷ [] ≡ b ∷ [] → a ≡ b
same_head a b h = cc

behind_true : (b : Bool) → list_all (λ (c : Bool). c) (true ∷ b ∷ []) ≡ b
behind_true true = refl
behind_true false = refl

le_numbers : (m n : ℕ) → is_le (int_cmp (pos m) (pos n)) ≡ is_le (nat_cmp m n)
le_numbers m n = grind (arith, ints, nat_tests)

pub below_numbers : (m n : ℕ) → is_true (binary (Compare Le Binary) (Int (pos m)) (Int (pos n)))
    ≡ is_le (nat_cmp m n)
unfolding binary
below_numbers m n = true_of _ ∙ ap is_le (value_cmp-Int (pos m) (pos n)) ∙ le_numbers m n

above_ints : (m n : ℕ) → is_ge (int_cmp (pos m) (pos n)) ≡ is_ge (nat_cmp m n)
above_ints m n = grind (arith, ints, nat_tests)

pub above_numbers : (m n : ℕ) → is_true (binary (Compare Ge Binary) (Int (pos m)) (Int (pos n)))
    ≡ is_ge (nat_cmp m n)
unfolding binary
above_numbers m n = true_of _ ∙ ap is_ge (value_cmp-Int (pos m) (pos n)) ∙ above_ints m n

-- The value of a row that is not found is below every number.
pub never_above : (m n : ℕ) → is_true (binary (Compare Ge Binary) (Int (negsuc m)) (Int (pos n)))
    ≡ false
unfolding binary
never_above m n = true_of _ ∙ ap is_ge (value_cmp-Int (negsuc m) (pos n))

pub ge_told : (m n : ℕ) → n ≤ m → is_ge (nat_cmp m n) ≡ true
ge_told m n h = grind (arith, nat_tests)

above_zero : (m : ℕ) → is_true (binary (Compare Ge Binary) (Int (pos m)) (Int (pos 0))) ≡ true
above_zero m = above_numbers m 0 ∙ ge_told m 0 (omega arith)

-- The two tests of a deadline.
abbrev tests : ℕ → Value → List Bool
tests n v =
    is_true (binary (Compare Ge Binary) v (Int (pos 0))) ∷ is_true
    (binary (Compare Le Binary) v (Int (pos n))) ∷ []

number_due : (n m : ℕ) (r : Row) → column r 18 ≡ Int (pos m) → is_due n r ≡ is_le (nat_cmp m n)
number_due n m r is =
    ap (λ v. list_all (λ (b : Bool). b) (tests n v)) is
    ∙ ap (λ b. list_all (λ (c : Bool). c)
    (b ∷ is_true (binary (Compare Le Binary) (Int (pos m)) (Int (pos n))) ∷ [])) (above_zero m)
    ∙ ap (λ b. list_all (λ (c : Bool). c) (true ∷ b ∷ [])) (below_numbers m n)
    ∙ behind_true (is_le (nat_cmp m n))

null_not_due : (n : ℕ) (r : Row) → column r 18 ≡ Null → is_due n r ≡ false
unfolding binary
null_not_due n r is = ap (λ v. list_all (λ (b : Bool). b) (tests n v)) is

pub le_said : (m n : ℕ) → is_le (nat_cmp m n) ≡ true → m ≤ n
le_said m n h = grind (arith, nat_tests)

pub le_told : (m n : ℕ) → m ≤ n → is_le (nat_cmp m n) ≡ true
le_told m n h = grind (arith, nat_tests)

not_less : (m n : ℕ) → is_lt (value_cmp (Int (pos n)) (Int (pos m))) ≡ false → m ≤ n
not_less m n h = let e : is_lt (int_cmp (pos n) (pos m)) ≡ false =
    ap is_lt (sym (value_cmp-Int (pos n) (pos m))) ∙ h in grind (arith, ints, nat_tests, e)

-- The order of two outputs is that of their deadlines.
by_deadline : (a b : Output)
    → is_lt (output_cmp due_query a b) ≡ is_lt (value_cmp (column a.0 0) (column b.0 0))
by_deadline a b = ap is_lt (then-Equal (value_cmp (column a.0 0) (column b.0 0)))

abbrev out : Row → Output
out r = (column r 18 ∷ [], shown_of r)

lt_no : (n m : ℕ) → nat_lt n m ≡ false → m ≤ n
lt_no n m h = grind arith

-- Holds if the output is that of a row of the table that is due.
abbrev IsOutput : Trees → ℕ → Output → Type 0
IsOutput db n o = (r : Row) × Has (db 18) r × (is_due n r ≡ true) × (o ≡ out r)

outputs : (xs : List Row) (P : Output → Type 0) → ((r : Row) → Has xs r → P (out r))
    → AllByRecursion P (map out xs)
outputs [] P h = tt
outputs (x ∷ xs) P h = (h x (inl refl), outputs xs P (λ r at. h r (inr at)))

has_output : (xs : List Row) (r : Row) → Has xs r → Has (map out xs) (out r)
has_output [] r at = at
has_output (x ∷ xs) r (inl same) = inl (ap out same)
has_output (x ∷ xs) r (inr at) = inr (has_output xs r at)

-- A member of a list is a member of its permutation.
pub has_permuted : {X : Type 0} (xs ys : List X) (x : X) → IsPermutation xs ys → Has xs x → Has ys x
has_permuted xs ys x p at =
    all_has (λ y. Has ys y) xs x (all-permutation (λ y. Has ys y) ys xs (IsPermutation-sym xs ys p)
    (all_from (λ y. Has ys y) ys (λ y h. h))) at

-- The first member of a sorted list is not above any other.
pub first_least : (lt : Output → Output → Bool) (o : IsStrictWeakOrder lt) (x : Output)
    (xs : List Output) → IsSortedBy lt (x ∷ xs) → (y : Output) → Has (x ∷ xs) y → lt y x ≡ false
first_least lt o x xs up y at =
    let c = contains_had (x ∷ xs) y at in
    ap (λ z. lt z x) (sym c.2) ∙ sorted_far lt o (x ∷ xs) up 0 c.0 y (omega arith) c.1

not_back : (r : Ordering) → is_lt (ordering_reverse r) ≡ true → is_lt r ≡ false
not_back Less h = sym h
not_back Equal h = refl
not_back Greater h = refl

module _ {K : Type 0} {R : K → K → Ordering} (o : IsTotalOrder R) where
  no_less : (x y z : K) (r s : Ordering) → R y x ≡ r → R x z ≡ s → is_lt (R x y) ≡ false
      → is_lt (R y z) ≡ false → is_lt s ≡ false
  no_less x y z r Equal p q a b = refl
  no_less x y z r Greater p q a b = refl
  no_less x y z Less Less p q a b = sym (ap is_lt (o.trans y x z p q)) ∙ b
  no_less x y z Equal Less p q a b = sym (ap is_lt (o.congr y x z p ∙ q)) ∙ b
  no_less x y z Greater Less p q a b = sym (ap is_lt (o.antisymm x y ∙ ap ordering_reverse p)) ∙ a

  pub ranks_by : {X : Type 0} (key : X → K) → IsStrictWeakOrder (λ x y. is_lt (R (key x) (key y)))
  ranks_by key = record {
    one_way = λ x y h. not_back (R (key y) (key x)) (ap is_lt (sym (o.antisymm (key x) (key y)))
        ∙ h);
    chain = λ x y z a b. no_less (key x) (key y) (key z) _ _ refl refl a b;
  }

weak : IsStrictWeakOrder (λ (a b : Output). is_lt (value_cmp (column a.0 0) (column b.0 0)))
weak = ranks_by value_cmp_total (λ (o : Output). column o.0 0)

-- The answer of the query: no row if none is due, or the first of those due.
pub data Found (db : Trees) (n : ℕ) (rows : List Row) : Type 0 where
  nothing : rows ≡ [] → filter (is_due n) (db 18) ≡ [] → Found db n rows
  first : (r : Row) → Has (db 18) r → is_due n r ≡ true → rows ≡ shown_of r ∷ []
      → ((x : Row) → Has (db 18) x → is_due n x ≡ true
      → is_lt (value_cmp (column x 18) (column r 18)) ≡ false) → Found db n rows

due_found : (db : Trees) (n : ℕ) (rows : List Row)
    → IsAnswer due_query (overlay db []) (Int (pos n) ∷ []) rows → Found db n rows
due_found db n rows a = by_cases a.ordered a.same a.sorted a.shown
  where
    picks : List Row
    picks = filter (is_due n) (db 18)

    kept : a.kept ≡ map out picks
    kept =
        let staged : a.staged ≡ map (λ r. (Int (pos n) ∷ []) ∷ r ∷ []) picks =
        a.grouped ∙ picked (is_due n) (λ r. (Int (pos n) ∷ []) ∷ r ∷ []) (db 18) in
        a.distinct ∙ ap (map (output due_query)) staged ∙ map_twice (output due_query)
        (λ r. (Int (pos n) ∷ []) ∷ r ∷ []) picks

    by_cases : (ordered : List Output) → IsPermutation a.kept ordered
        → IsSorted (output_cmp due_query) ordered
        → rows ≡ take 1 (map (λ (o : Output). o.1) ordered) → Found db n rows
    by_cases [] same up shown =
        nothing shown (no_rows picks (subst (λ l. IsPermutation l []) kept same))
      where
        no_rows : (xs : List Row) → IsPermutation (map out xs) [] → xs ≡ []
        no_rows [] p = refl
        no_rows (x ∷ xs) p = absurd (has_permuted (map out (x ∷ xs)) [] (out x) p (inl refl))
    by_cases (o ∷ rest) same up shown =
        let p : IsPermutation (map out picks) (o ∷ rest) =
        subst (λ l. IsPermutation l (o ∷ rest)) kept same in
        let at : IsOutput db n o =
        all_has (IsOutput db n) (o ∷ rest) o (all-permutation (IsOutput db n) (map out picks)
        (o ∷ rest) p
        (outputs picks (IsOutput db n) (λ r h. let f = has_filtered (is_due n) (db 18) r h in
        (r, f.0, f.1, refl)))) (inl refl) in
        let sorted : IsSortedBy (λ (a b : Output). is_lt (value_cmp (column a.0 0) (column b.0 0)))
        (o ∷ rest) =
        λ k d low high. sym (by_deadline (slice_index_or (o ∷ rest) (k + 1) d)
        (slice_index_or (o ∷ rest) k d)) ∙ up k d low high in
        first at.0 at.1 at.2 (shown ∙ ap (λ (e : Output). e.1 ∷ []) at.3) (λ x h due.
        let there : Has (o ∷ rest) (out x) =
        has_permuted (map out picks) (o ∷ rest) (out x) p
        (has_output picks x (has_kept (is_due n) (db 18) x h due)) in
        ap (λ (e : Output). is_lt (value_cmp (column x 18) (column e.0 0))) (sym at.3)
        ∙ first_least _ weak o rest sorted (out x) there)

deadline_at : (r : Row) (e : ℕ × VersionRow) (d : ℕ) → version_entry r ≡ Some e
    → e.1.deadline ≡ Some d → column r 18 ≡ Int (pos d)
deadline_at r e d is given =
    minute_read (column r 18) d (some_read minute_in (column r 18) d
    ((reads (shown_of r) e is).deadline ∙ ap Some given))

module _ (db : Trees) (shaped : AreShaped db) (n : ℕ) where
  none_due : filter (is_due n) (db 18) ≡ [] → NoRowIsDue (bare_in db) n
  none_due none id row at d given = by_cases (nat_lt n d) refl
    where
      by_cases : (b : Bool) → nat_lt n d ≡ b → n < d
      by_cases true e = less_is n d e
      by_cases false e =
          let f = version_row_of db id row at in
          let low : d ≤ n = lt_no n d e in
          absurd (none_passes (is_due n) (db 18) f.row none f.has
          (number_due n d f.row (deadline_at f.row (id, row) d f.reads given) ∙ le_told d n low))

  least : (r : Row) (v : NumberedRow) → Has (db 18) r → is_due n r ≡ true
      → version_entry r ≡ Some (v.id, v.row) → ((x : Row) → Has (db 18) x → is_due n x ≡ true
      → is_lt (value_cmp (column x 18) (column r 18)) ≡ false)
      → IsLeastDue (bare_in db) n (Some v)
  least r v at due is low = by_cases v.row.deadline refl
    where
      by_cases : (o : Option ℕ) → v.row.deadline ≡ o → IsLeastDue (bare_in db) n (Some v)
      by_cases None e =
          absurd (true≢false (sym due
          ∙ null_not_due n r (none_read minute_in (column r 18)
          ((reads (shown_of r) (v.id, v.row) is).deadline ∙ ap Some e))))
      by_cases (Some d) e =
          let col : column r 18 ≡ Int (pos d) = deadline_at r (v.id, v.row) d is e in
          let come : d ≤ n = le_said d n (sym (number_due n d r col) ∙ due) in
          (version_stands db shaped r v.id v.row at is, d, e, come, each d col come)
        where
          each : (d : ℕ) → column r 18 ≡ Int (pos d) → d ≤ n → IsLeastDeadline (bare_in db) d
          each d col come id row got f given =
              let other = version_row_of db id row got in
              let at_f : column other.row 18 ≡ Int (pos f) =
              deadline_at other.row (id, row) f other.reads given in
              by (nat_lt n f) refl other.row other.has at_f
            where
              by : (b : Bool) → nat_lt n f ≡ b → (other : Row) → Has (db 18) other
                  → column other 18 ≡ Int (pos f) → d ≤ f
              by true e other has at_f = let up : n < f = less_is n f e in omega arith
              by false e other has at_f =
                  let due_f : is_due n other ≡ true =
                  number_due n f other at_f ∙ le_told f n (lt_no n f e) in
                  not_less d f (ap (λ w. is_lt (value_cmp (Int (pos f)) w)) (sym col)
                  ∙ ap (λ w. is_lt (value_cmp w (column r 18))) (sym at_f) ∙ low other has due_f)

  pub due_is_found : (o : Option NumberedRow)
      → IsSoleAnswer VersionDue version_in db (Int (pos n) ∷ [])
      (option_map (λ (v : NumberedRow). (v.id, v.row)) o) → IsLeastDue (bare_in db) n o
  due_is_found None h = by_cases (due_found db n h.0 h.1)
    where
      by_cases : Found db n h.0 → NoRowIsDue (bare_in db) n
      by_cases (nothing e none) = none_due none
      by_cases (first r at due e low) = absurd (let x = sym h.2 ∙ e in cc)
  due_is_found (Some v) h = by_cases (due_found db n h.0 h.1)
    where
      by_cases : Found db n h.0 → IsLeastDue (bare_in db) n (Some v)
      by_cases (nothing e none) = absurd (let x = sym h.2.1 ∙ e in cc)
      by_cases (first r at due e low) =
          let same : h.2.0 ≡ shown_of r = same_head _ _ (sym h.2.1 ∙ e) in
          least r v at due (ap version_in (sym same) ∙ h.2.2) low
