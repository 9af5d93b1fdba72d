-- Deleting the rowids of the rows that pass a test leaves the rows that fail it.
use Rattle.std.proofs.Common.{◌≡◌, ℤ, List, [], ◌∷◌, filter, map, Bool, true, false, not, cond, ◌||◌, refl, sym, ap, subst, ◌∙◌, true≢false, IsTrue, inl, inr, Less, Equal, Greater}
use Rattle.std.specs.List.{list_any, AllByRecursion}
use Rattle.std.specs.List.Sorted.{IsPermutation}
use Rattle.std.specs.Ordering.{is_eq}
use Rattle.std.proofs.lemmas.List.Sorted.{list_any-IsPermutation, IsPermutation-map}
use Rattle.sqlite.specs.Order.{Row, column, value_cmp}
use Rattle.sqlite.specs.Tree.{IsTable, has_rowid, rowid, without_rowid}
use Rattle.sqlite.specs.View.{is_int, IsShaped}
use Rattle.sqlite_trees.specs.declared.store.Shape.TheVariants.{Table}
use Rattle.sqlite.specs.Edit.{without_all, id_in}
use Rattle.sqlite_rules.specs.Lists.{Has}
use Rattle.sqlite_rules.specs.Calls.{ids_of}
use Rattle.sqlite_rules.proofs.ListLemmas.{some_has}
use Rattle.sqlite_rules.proofs.PlaceLemmas.{tied_same}
use Rattle.sqlite_rules.proofs.TableLemmas.{int_is}
use Rattle.sqlite_value.proofs.OrderLemmas.{value_cmp_total}
use Rattle.std.specs.Cmp.{tied_itself}
use Rattle.numbers.proofs.Small.{or_true}

abbrev pub hit_by : List ℤ → Row → Bool
hit_by ids r = list_any (λ id. has_rowid id r) ids

all_kept : {X : Type 0} (xs : List X) → filter (λ _. true) xs ≡ xs
all_kept [] = refl
all_kept (x ∷ xs) = ap (λ l. x ∷ l) (all_kept xs)

twice : (f g : Row → Bool) (rows : List Row)
    → filter (λ r. not (f r)) (filter (λ r. not (g r)) rows) ≡ filter (λ r. not (g r || f r)) rows
twice f g [] = refl
twice f g (r ∷ rows) = by_cases (g r) (f r) refl refl (twice f g rows)
  where
    by_cases : (b c : Bool) → g r ≡ b → f r ≡ c
        → filter (λ r. not (f r)) (filter (λ r. not (g r)) rows)
        ≡ filter (λ r. not (g r || f r)) rows
        → filter (λ r. not (f r)) (cond (not b) (r ∷ filter (λ r. not (g r)) rows)
        (filter (λ r. not (g r)) rows)) ≡ cond (not (b || f r)) (r ∷ filter (λ r. not (g r || f r))
        rows) (filter (λ r. not (g r || f r)) rows)
    by_cases true c x y more = more
    by_cases false true x y more = rw y more
    by_cases false false x y more = rw y (ap (λ l. r ∷ l) more)

without_all_is : (ids : List ℤ) (rows : List Row)
    → without_all rows ids ≡ filter (λ r. not (hit_by ids r)) rows
without_all_is [] rows = sym (all_kept rows)
without_all_is (id ∷ ids) rows = without_all_is ids (without_rowid id rows)
    ∙ twice (hit_by ids) (has_rowid id) rows

filter_alike : {X : Type 0} (f g : X → Bool) (xs : List X) → ((x : X) → Has xs x → f x ≡ g x)
    → filter f xs ≡ filter g xs
filter_alike f g [] h = refl
filter_alike f g (x ∷ xs) h =
    rw (h x (inl refl)) (ap (λ l. cond (g x) (x ∷ l) l)
    (filter_alike f g xs (λ y at. h y (inr at))))

pub int_at : (rows : List Row) (r : Row) → AllByRecursion (λ r. IsTrue (is_int (rowid r))) rows
    → Has rows r → is_int (rowid r) ≡ true
int_at [] r ints at = absurd at
int_at (x ∷ rows) r ints (inl same) = ap (λ y. is_int (rowid y)) same ∙ search ints.0
int_at (x ∷ rows) r ints (inr at) = int_at rows r ints.1 at

any_has : {X : Type 0} (f : X → Bool) (xs : List X) (x : X) → Has xs x → f x ≡ true
    → list_any f xs ≡ true
any_has f [] x at is = absurd at
any_has f (y ∷ xs) x (inl same) is = rw (ap f (sym same) ∙ is) refl
any_has f (y ∷ xs) x (inr at) is = rw (any_has f xs x at is) (or_true (f y))

-- Whether the row has the rowid of the other.
abbrev meets : Row → Row → Bool
meets r x = has_rowid (id_in (rowid x)) r

meets_itself : (r : Row) → is_int (rowid r) ≡ true → meets r r ≡ true
meets_itself r int = ap (λ v. is_eq (value_cmp (rowid r) v)) (sym (int_is (rowid r) int))
    ∙ ap is_eq (tied_itself value_cmp_total (rowid r))

equal_from : (o : _) → is_eq o ≡ true → o ≡ Equal
equal_from Less h = absurd (true≢false (sym h))
equal_from Equal h = refl
equal_from Greater h = absurd (true≢false (sym h))

module _ (p : Row → Bool) where
  any_mapped : (r : Row) (xs : List Row) → hit_by (map (λ x. id_in (rowid x)) xs) r
      ≡ list_any (meets r) xs
  any_mapped r [] = refl
  any_mapped r (x ∷ xs) = ap (λ b. meets r x || b) (any_mapped r xs)

  hit : (r : Row) (xs : List Row) → Has xs r → p r ≡ true → is_int (rowid r) ≡ true
      → list_any (meets r) (filter p xs) ≡ true
  hit r [] at is int = absurd at
  hit r (x ∷ xs) (inl same) is int =
      subst (λ y. list_any (meets r) (cond (p y) (y ∷ filter p xs) (filter p xs)) ≡ true) same
      (rw is (rw (meets_itself r int) refl))
  hit r (x ∷ xs) (inr at) is int = by_cases (p x) (hit r xs at is int)
    where
      by_cases : (b : Bool) → list_any (meets r) (filter p xs) ≡ true
          → list_any (meets r) (cond b (x ∷ filter p xs) (filter p xs)) ≡ true
      by_cases true more = rw more (or_true (meets r x))
      by_cases false more = more

  missed : (r : Row) (xs : List Row) → p r ≡ false → ((x : Row) → Has xs x → p x ≡ true
      → meets r x ≡ false) → list_any (meets r) (filter p xs) ≡ false
  missed r [] is apart = refl
  missed r (x ∷ xs) is apart = by_cases (p x) refl (missed r xs is (λ y at. apart y (inr at)))
    where
      by_cases : (b : Bool) → p x ≡ b → list_any (meets r) (filter p xs) ≡ false
          → list_any (meets r) (cond b (x ∷ filter p xs) (filter p xs)) ≡ false
      by_cases true e more = rw (apart x (inl refl) e, more) refl
      by_cases false e more = more

  module _ (rows : List Row) (up : IsTable rows)
      (ints : AllByRecursion (λ r. IsTrue (is_int (rowid r))) rows) where
    decides : (r : Row) → Has rows r → list_any (meets r) (filter p rows) ≡ p r
    decides r at = by_cases (p r) refl
      where
        apart : p r ≡ false → (x : Row) → Has rows x → p x ≡ true → (b : Bool) → meets r x ≡ b
            → b ≡ false
        apart fails x there passes false e = refl
        apart fails x there passes true e =
            let tied : value_cmp (rowid r) (rowid x) ≡ Equal =
            ap (value_cmp (rowid r)) (int_is (rowid x) (int_at rows x ints there))
            ∙ equal_from _ e in
            let same : r ≡ x = tied_same rows r x up at there tied in
            absurd (true≢false (sym passes ∙ ap p (sym same) ∙ fails))

        by_cases : (b : Bool) → p r ≡ b → list_any (meets r) (filter p rows) ≡ b
        by_cases true e = hit r rows at e (int_at rows r ints at)
        by_cases false e = missed r rows e (λ x there passes. apart e x there passes _ refl)

    -- A DELETE leaves the rows that fail the test, in whichever order its query found the rowids.
    pub deleted : (found : List Row) → IsPermutation (map (λ r. column r 0 ∷ []) (filter p rows))
        found → without_all rows (ids_of found) ≡ filter (λ r. not (p r)) rows
    deleted found same =
        without_all_is (ids_of found) rows ∙ filter_alike _ _ rows (λ r at. ap not (
        sym (list_any-IsPermutation (λ id. has_rowid id r) _ _
        (IsPermutation-map (λ x. id_in (rowid x)) _ _ same))
        ∙ ap (λ ids. hit_by ids r) (map_map_rowid (filter p rows)) ∙ any_mapped r (filter p rows)
        ∙ decides r at))
      where
        map_map_rowid : (xs : List Row) → map (λ x. id_in (rowid x)) (map (λ r. column r 0 ∷ []) xs)
            ≡ map (λ x. id_in (rowid x)) xs
        map_map_rowid [] = refl
        map_map_rowid (x ∷ xs) = ap (λ l. id_in (rowid x) ∷ l) (map_map_rowid xs)

    hit_each : (found : List Row) → ((r : Row) → Has rows r → p r ≡ true
        → Has found (rowid r ∷ [])) → (r : Row) → Has rows r → p r ≡ true
        → list_any (meets r) found ≡ true
    hit_each found complete r at is =
        any_has (meets r) found (rowid r ∷ []) (complete r at is)
        (meets_itself r (int_at rows r ints at))

    -- Deleting these rowids leaves the rows that fail the test, if they are the rowids of the rows
    -- that pass it.
    pub deleted_each : (found : List Row) → ((x : Row) → Has found x → (r : Row) × Has rows r
        × (p r ≡ true) × (x ≡ rowid r ∷ [])) → ((r : Row) → Has rows r → p r ≡ true
        → Has found (rowid r ∷ [])) → without_all rows (ids_of found) ≡ filter (λ r. not (p r)) rows
    deleted_each found sound complete =
        without_all_is (ids_of found) rows ∙ filter_alike _ _ rows (λ r at. ap not (
        any_mapped r found ∙ by_cases r at (list_any (meets r) found) refl (p r) refl))
      where
        by_cases : (r : Row) → Has rows r → (b : Bool) → list_any (meets r) found ≡ b → (c : Bool)
            → p r ≡ c → list_any (meets r) found ≡ p r
        by_cases r at b e true f = hit_each found complete r at f ∙ sym f
        by_cases r at false e false f = e ∙ sym f
        by_cases r at true e false f =
            let x = some_has (meets r) found e in
            let s = sound x.0 x.1 in
            let met : meets r s.0 ≡ true = subst (λ y. meets r y ≡ true) s.3 x.2 in
            let tied : value_cmp (rowid r) (rowid s.0) ≡ Equal =
            ap (value_cmp (rowid r)) (int_is (rowid s.0) (int_at rows s.0 ints s.1))
            ∙ equal_from _ met in
            let same : r ≡ s.0 = tied_same rows r s.0 up at s.1 tied in
            absurd (true≢false (sym s.2 ∙ ap p (sym same) ∙ f))

kept_all : (P : Row → Type 0) (p : Row → Bool) (rows : List Row) → AllByRecursion P rows
    → AllByRecursion P (filter p rows)
kept_all P p [] all = tt
kept_all P p (r ∷ rows) all =
    elim (p r) as (λ b. AllByRecursion P (cond b (r ∷ filter p rows) (filter p rows)))
    [ true ↦ (all.0, kept_all P p rows all.1) | false ↦ kept_all P p rows all.1 ]

kept_up : (p : Row → Bool) (rows : List Row) → IsTable rows → IsTable (filter p rows)
kept_up p [] up = tt
kept_up p (r ∷ rows) up = elim (p r) as (λ b. IsTable (cond b (r ∷ filter p rows) (filter p rows)))
    [ true ↦ (kept_all _ p rows up.0, kept_up p rows up.1) | false ↦ kept_up p rows up.1 ]

pub filter_shaped : (p : Row → Bool) (rows : List Row) → IsShaped Table rows
    → IsShaped Table (filter p rows)
filter_shaped p rows shaped = (kept_up p rows shaped.0, kept_all _ p rows shaped.1)
