-- A look-up of a download finds it in its broadcast's row.
use Rattle.std.proofs.Common.{◌≡◌, ℕ, Bool, true, false, cond, List, [], ◌∷◌, ◌++◌, Some, None, refl, ap, sym, ◌∙◌, ◌&&◌, ◌||◌}
use Rattle.std.specs.Prelude.{◌==◌}
use Rattle.std.specs.List.{list_any}
use Rattle.std.specs.declared.cmp.Ordering.{Ordering}
use Rattle.std.specs.declared.cmp.Ordering.TheVariants.{Less, Equal, Greater}
use Rattle.std.specs.Ordering.{nat_cmp, ordering_then, is_eq, is_lt, eq_by_cmp}
use Rattle.std.specs.Cmp.{IsTotalOrder, nat_cmp_total, unsigned_tied, tied_then}
use Rattle.std.proofs.lemmas.Cmp.{then_total, on_total}
use Rattle.std.specs.FinMap.{FinMap, get, get-entries, get-from_entries, entries, entries_sorted, find, is_sorted, IsAntisymmetric, nat_cmp-IsAntisymmetric}
use Rattle.std.specs.FinMap.Entries.{below_all}
use Rattle.numbers.specs.Subjects.{Subject}
use Rattle.model.specs.Content.{WaitKey, wait_cmp}
use Rattle.store.specs.WaitRows.{Download, download_cmp, download_of, wait_for, Waiting, waits_of_row, waits_of_rows, waits_of, awaited}
use Rattle.model.proofs.KeyOrders.{both_equal, wait_total}
use Rattle.numbers.proofs.Small.{tied, and_second, and_first, truth}

pub download_total : IsTotalOrder download_cmp
download_total =
    then_total (on_total (λ (d : Download). d.minute) nat_cmp_total)
    (then_total (on_total (λ (d : Download). d.id) nat_cmp_total)
    (on_total (λ (d : Download). d.attempt) nat_cmp_total))

pub download_exact : IsAntisymmetric download_cmp
download_exact a b e =
    let p = both_equal (nat_cmp a.minute b.minute) (ordering_then (nat_cmp a.id b.id)
    (nat_cmp a.attempt b.attempt)) e in
    let q = both_equal (nat_cmp a.id b.id) (nat_cmp a.attempt b.attempt) p.1 in
    λ i. record {
      minute = nat_cmp-IsAntisymmetric a.minute b.minute p.0 i;
      id = nat_cmp-IsAntisymmetric a.id b.id q.0 i;
      attempt = nat_cmp-IsAntisymmetric a.attempt b.attempt q.1 i;
    }

-- A download's key ties if its carrier and its broadcast do.
pub wait-ties : (k : WaitKey) (d : Download) (c : ℕ)
    → eq_by_cmp wait_cmp k (wait_for d c) ≡ ((k.carrier == c) && eq_by_cmp download_cmp
    (download_of k) d)
wait-ties k d c = sym (tied_then (nat_cmp k.carrier c) (download_cmp (download_of k) d))
    ∙ ap (λ b. b && eq_by_cmp download_cmp (download_of k) d) (unsigned_tied k.carrier c)

-- The look-up in one row.
find-row : (k : WaitKey) (d : Download) (s : Subject) (cs : List ℕ)
    (rest : List (WaitKey × Subject)) →
    find wait_cmp k (waits_of_row d (s, cs) ++ rest) ≡ cond (eq_by_cmp download_cmp (download_of k)
    d && list_any (λ c. k.carrier == c) cs) (Some s) (find wait_cmp k rest)
find-row k d s [] rest = by_cases (eq_by_cmp download_cmp (download_of k) d)
  where
    by_cases : (b : Bool) → find wait_cmp k rest ≡ cond (b && false) (Some s) (find wait_cmp k rest)
    by_cases true = refl
    by_cases false = refl
find-row k d s (c ∷ cs) rest =
    (λ i. cond (wait-ties k d c i) (Some s) (find-row k d s cs rest i))
    ∙ by_cases (k.carrier == c) (eq_by_cmp download_cmp (download_of k) d)
    (list_any (λ c. k.carrier == c)
    cs)
  where
    by_cases : (x b y : Bool)
        → cond (x && b) (Some s) (cond (b && y) (Some s) (find wait_cmp k rest))
        ≡ cond (b && (x || y)) (Some s) (find wait_cmp k rest)
    by_cases true true y = refl
    by_cases true false y = refl
    by_cases false true y = refl
    by_cases false false y = refl

-- A key below all others ties with none of them.
below : (d : Download) (es : List (Download × Waiting)) → below_all download_cmp d es ≡ true
    → find download_cmp d es ≡ None
below d [] is = refl
below d (e ∷ es) is = by_cases (download_cmp d e.0) (below d es) is
  where
    by_cases : (r : Ordering) → (below_all download_cmp d es ≡ true → find download_cmp d es ≡ None)
        → (is_lt r && below_all download_cmp d es) ≡ true
        → cond (is_eq r) (Some e.1) (find download_cmp d es) ≡ None
    by_cases Less later more = later more
    by_cases Equal later more = let no : false ≡ true = more in cc
    by_cases Greater later more = let no : false ≡ true = more in cc

find-rows : (k : WaitKey) (es : List (Download × Waiting)) → is_sorted download_cmp es ≡ true
    → find wait_cmp k (waits_of_rows es) ≡ awaited (find download_cmp (download_of k) es) k.carrier
unfolding waits_of_rows
find-rows k [] is = refl
find-rows k (e ∷ es) is =
    find-row k e.0 e.1.0 e.1.1 (waits_of_rows es)
    ∙ by_cases (find-rows k es (and_second (below_all download_cmp e.0 es)
    (is_sorted download_cmp es)
    is)) (eq_by_cmp download_cmp (download_of k) e.0) refl
  where
    none : eq_by_cmp download_cmp (download_of k) e.0 ≡ true
        → find download_cmp (download_of k) es ≡ None
    none tie =
        ap (λ d. find download_cmp d es) (download_exact (download_of k) e.0
        (tied (download_cmp (download_of k) e.0) tie))
        ∙ below e.0 es (and_first (below_all download_cmp e.0 es) (is_sorted download_cmp es) is)

    here : find wait_cmp k (waits_of_rows es) ≡ awaited (find download_cmp (download_of k) es)
        k.carrier → find download_cmp (download_of k) es ≡ None →
        (y : Bool) → cond y (Some e.1.0) (find wait_cmp k (waits_of_rows es)) ≡ cond y (Some e.1.0)
        None
    here later not true = refl
    here later not false = later ∙ ap (λ o. awaited o k.carrier) not

    by_cases : find wait_cmp k (waits_of_rows es) ≡ awaited (find download_cmp (download_of k) es)
        k.carrier → (b : Bool) → eq_by_cmp download_cmp (download_of k) e.0 ≡ b →
        cond (b && list_any (λ c. k.carrier == c) e.1.1) (Some e.1.0)
        (find wait_cmp k (waits_of_rows es))
        ≡ awaited (cond b (Some e.1) (find download_cmp (download_of k) es)) k.carrier
    by_cases later true tie = here later (none tie) (list_any (λ c. k.carrier == c) e.1.1)
    by_cases later false tie = later

pub get-waits_of : (m : FinMap download_cmp Waiting) (k : WaitKey)
    → get (waits_of m) k ≡ awaited (get m (download_of k)) k.carrier
unfolding waits_of
get-waits_of m k =
    get-from_entries wait_total (waits_of_rows (entries m)) k
    ∙ find-rows k (entries m) (truth _ (entries_sorted m)) ∙ ap (λ o. awaited o k.carrier)
    (sym (get-entries m (download_of k)))
