-- The rows that pass a test, and the map that their table reads as.
use Rattle.std.proofs.Common.{◌≡◌, List, [], ◌∷◌, map, filter, Bool, true, false, cond, Option, Some, None, refl, sym, ap, subst, ◌∙◌, length, arith, inl, inr}
use Rattle.std.specs.Prelude.{option_map}
use Rattle.std.specs.declared.cmp.Ordering.{Ordering}
use Rattle.std.specs.Ordering.{eq_by_cmp}
use Rattle.std.specs.Cmp.{IsTotalOrder, eq_by_cmp_equiv}
use Rattle.std.specs.List.{filter_map, cons_option}
use Rattle.std.specs.List.Sorted.{IsPermutation}
use Rattle.std.proofs.lemmas.List.Sorted.{length_permutation}
use Rattle.std.specs.FinMap.{get, find, get-from_entries}
use Rattle.sqlite.specs.Order.{Row}
use Rattle.sqlite_rules.specs.Lists.{Has}
use Rattle.sqlite_rules.proofs.ListLemmas.{has_filtered}
use Rattle.sqlite.proofs.Callers.{one_permutation}
use Rattle.sql_rows.specs.Content.{content_of}
use Rattle.sql_rows.specs.Found.{IsSole}
use Rattle.sql_rows.proofs.RowLemmas.{Tests, find_none, find_one}

nil_of : {X Y : Type 0} (f : X → Y) (xs : List X) → length (map f xs) ≡ 0 → xs ≡ []
nil_of f [] e = refl
nil_of f (x ∷ xs) e = absurd (omega arith)

one_back : (row : Row) (xs : List Row) → IsPermutation xs (row ∷ []) → xs ≡ row ∷ []
one_back row [] p = absurd (let e = length_permutation _ _ p in omega arith)
one_back row (x ∷ []) p = sym (one_permutation x (row ∷ []) p)
one_back row (x ∷ y ∷ xs) p = absurd (let e = length_permutation _ _ p in omega arith)

-- If the answer is empty, no row passes.
pub none_picked : (shown : Row → Row) (p : Row → Bool) (rows : List Row)
    → IsPermutation (map shown (filter p rows)) [] → filter p rows ≡ []
none_picked shown p rows h = nil_of shown _ (sym (length_permutation _ _ h))

pub none_passes : (p : Row → Bool) (rows : List Row) (r : Row) → filter p rows ≡ [] → Has rows r
    → p r ≡ true → ⊥
none_passes p [] r none at is = at
none_passes p (x ∷ rows) r none (inl same) is = let h : p x ≡ true = ap p (sym same) ∙ is in
    let e : cond true (x ∷ filter p rows) (filter p rows) ≡ [] =
    subst (λ b. cond b (x ∷ filter p rows) (filter p rows) ≡ []) h none in absurd cc
none_passes p (x ∷ rows) r none (inr at) is =
    by_cases (p x) none (λ e. none_passes p rows r e at is)
  where
    by_cases : (b : Bool) → cond b (x ∷ filter p rows) (filter p rows) ≡ []
        → (filter p rows ≡ [] → ⊥) → ⊥
    by_cases true e more = absurd cc
    by_cases false e more = more e

-- The only row that the query found, in its table.
pub record Only (shown : Row → Row) (p : Row → Bool) (rows : List Row) (found : Row) : Type 0 where
  pub row : Row
  pub has : Has rows row
  pub passes : p row ≡ true
  pub shows : shown row ≡ found
  pub alone : filter p rows ≡ row ∷ []

pub only : (shown : Row → Row) (p : Row → Bool) (rows : List Row) (found : Row)
    → IsPermutation (map shown (filter p rows)) (found ∷ []) → Only shown p rows found
only shown p rows found h = by_cases (filter p rows) refl (one_back found _ h)
  where
    by_cases : (picked : List Row) → filter p rows ≡ picked → map shown picked ≡ found ∷ []
        → Only shown p rows found
    by_cases [] is one = absurd cc
    by_cases (r ∷ x ∷ more) is one = absurd (let e = ap length one in omega arith)
    by_cases (r ∷ []) is one =
        let shows : shown r ≡ found = cc in
        let at = has_filtered p rows r (subst (λ l. Has l r) (sym is) (inl refl)) in
        record { row = r; has = at.0; passes = at.1; shows = shows; alone = is }

module _ {K V : Type 0} (R : K → K → Ordering) (o : IsTotalOrder R) (read : Row
    → Option (K × V)) (shown : Row → Row) where
  abbrev entry : Row → Option (K × V)
  entry r = read (shown r)

  -- The answer is the value at the key, or nothing if no row has the key.
  pub looked_up : (k : K) (p : Row → Bool) → Tests R entry k p
      → (rows found : List Row) (x : Option (K × V))
      → IsPermutation (map shown (filter p rows)) found → IsSole read found x
      → get (content_of R entry rows) k ≡ option_map (λ (e : K × V). e.1) x
  looked_up k p tests rows found None same is =
      get-from_entries o _ k ∙ find_none R entry k p (λ r e d tie. tests r e d ∙ tie) rows
      (none_picked shown p rows (subst (IsPermutation (map shown (filter p rows))) is same))
  looked_up k p tests rows found (Some e) same is =
      let one = only shown p rows is.0 (subst (IsPermutation (map shown (filter p rows))) is.1
      same) in
      let reads : entry one.row ≡ Some e = ap read one.shows ∙ is.2 in
      get-from_entries o _ k ∙ find_one R entry k p (λ r e d tie. tests r e d ∙ tie) rows one.row e
      reads (sym (tests one.row e reads) ∙ one.passes) one.alone

  -- ---- a row of the table is an entry of the map

  pub record From (k : K) (rows : List Row) (w : V) : Type 0 where
    pub row : Row
    pub has : Has rows row
    pub reads : entry row ≡ Some (k, w)

  module _ (same_key : (a b : K) → eq_by_cmp R a b ≡ true → a ≡ b) where
    find_from : (k : K) (rows : List Row) (w : V) → find R k (filter_map entry rows) ≡ Some w
        → From k rows w
    find_from k [] w h = absurd cc
    find_from k (x ∷ rows) w h = by_cases (entry x) refl h (find_from k rows w)
      where
        later : From k rows w → From k (x ∷ rows) w
        later f = record { row = f.row; has = inr f.has; reads = f.reads }

        here : (f : K × V) (b : Bool) → entry x ≡ Some f → eq_by_cmp R k f.0 ≡ b
            → cond b (Some f.1) (find R k (filter_map entry rows)) ≡ Some w
            → (find R k (filter_map entry rows) ≡ Some w → From k rows w) → From k (x ∷ rows) w
        here f true is tie h more =
            let value : f.1 ≡ w = cc in
            let key : f.0 ≡ k = sym (same_key k f.0 tie) in
            record {
              row = x;
              has = inl refl;
              reads = is ∙ ap (λ n. Some (n, f.1)) key ∙ ap (λ v. Some (k, v)) value;
            }
        here f false is tie h more = later (more h)

        by_cases : (o : Option (K × V)) → entry x ≡ o
            → find R k (cons_option o (filter_map entry rows))
            ≡ Some w → (find R k (filter_map entry rows) ≡ Some w → From k rows w)
            → From k (x ∷ rows) w
        by_cases None is h more = later (more h)
        by_cases (Some f) is h more = here f _ is refl h more

    -- Each entry has a row.
    pub entry_from : (rows : List Row) (k : K) (w : V) → get (content_of R entry rows) k ≡ Some w
        → From k rows w
    entry_from rows k w h =
        find_from k rows w (sym (get-from_entries o (filter_map entry rows) k) ∙ h)

    find_some : (k : K) (rows : List Row) (r : Row) (e : K × V) → Has rows r → entry r ≡ Some e
        → eq_by_cmp R k e.0 ≡ true → (w : V) × (find R k (filter_map entry rows) ≡ Some w)
    find_some k [] r e at is tie = absurd at
    find_some k (x ∷ rows) r e (inl same) is tie =
        let o : entry x ≡ Some e = ap entry (sym same) ∙ is in
        (e.1, ap (λ o. find R k (cons_option o (filter_map entry rows))) o ∙ rw tie refl)
    find_some k (x ∷ rows) r e (inr at) is tie = by_cases (entry x) (find_some k rows r e at is tie)
      where
        here : (f : K × V) (b : Bool) → eq_by_cmp R k f.0 ≡ b
            → ((w : V) × (find R k (filter_map entry rows) ≡ Some w))
            → (w : V) × (cond b (Some f.1) (find R k (filter_map entry rows)) ≡ Some w)
        here f true h more = (f.1, refl)
        here f false h more = more

        by_cases : (o : Option (K × V)) → ((w : V) × (find R k (filter_map entry rows) ≡ Some w))
            → (w : V) × (find R k (cons_option o (filter_map entry rows)) ≡ Some w)
        by_cases None more = more
        by_cases (Some f) more = here f _ refl more

    same_second : (k : K) (v w : V) → ◌≡◌ {A = Option (K × V)} (Some (k, v)) (Some (k, w)) → v ≡ w
    same_second k v w h = let pairs : ◌≡◌ {A = K × V} (k, v) (k, w) = cc in
        ap (λ (p : K × V). p.1) pairs

    -- Each key that a row has is a key of the map.
    pub some_of : (rows : List Row) (r : Row) (k : K) (v : V) → Has rows r → entry r ≡ Some (k, v)
        → (w : V) × (get (content_of R entry rows) k ≡ Some w)
    some_of rows r k v at is =
        let some = find_some k rows r (k, v) at is ((eq_by_cmp_equiv o).refl k) in
        (some.0, get-from_entries o (filter_map entry rows) k ∙ some.1)

    -- If rows with the same key are the same row, each row that reads is an entry.
    pub entry_of : (rows : List Row) → ((r s : Row) (k : K) (a b : V) → Has rows r → Has rows s
        → entry r ≡ Some (k, a) → entry s ≡ Some (k, b) → s ≡ r)
        → (r : Row) (k : K) (v : V) → Has rows r → entry r ≡ Some (k, v)
        → get (content_of R entry rows) k ≡ Some v
    entry_of rows once r k v at is =
        let some = find_some k rows r (k, v) at is ((eq_by_cmp_equiv o).refl k) in
        let f = find_from k rows some.0 some.1 in
        let same : f.row ≡ r = once r f.row k v some.0 at f.has is f.reads in
        let value : some.0 ≡ v = same_second k some.0 v (sym f.reads ∙ ap entry same ∙ is) in
        get-from_entries o (filter_map entry rows) k ∙ some.1 ∙ ap Some value
