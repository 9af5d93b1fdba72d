-- Ascending numbers without duplicates: adding one, and lists of the same numbers.
use Rattle.std.proofs.Common.{◌≡◌, ℕ, ◌≤◌, ◌<◌, Bool, true, false, cond, ◌&&◌, ◌||◌, List, [], ◌∷◌, map, Option, Some, None, refl, ap, sym, ◌∙◌, subst, arith}
use Rattle.std.specs.Prelude.{⊤, ◌==◌, nat_lt, filter, T, if◌then◌else◌}
use Rattle.std.specs.FinMap.Entries.{is_sorted, below_all}
use Rattle.std.specs.Ordering.{nat_cmp, is_lt}
use Rattle.std.specs.declared.cmp.Ordering.TheVariants.{Less, Equal, Greater}
use Rattle.std.proofs.lemmas.Bool.Decides.{nat_tests}
use Rattle.model.specs.Versions.{is_among, with_number}
use Rattle.model.specs.Changes.{is_empty}
use Rattle.model.specs.Content.{is_nonempty}
use Rattle.model.specs.History.{Entry, carriers, carrier_named, carrier_added, rising}
use Rattle.numbers.proofs.Small.{equal_number, same_number, greater_differs, or_swapped}

-- ---- one more number

pub among-with_number : (k c : ℕ) (cs : List ℕ)
    → is_among k (with_number c cs) ≡ ((c == k) || is_among k cs)
among-with_number k c [] = refl
among-with_number k c (d ∷ ds) = by_cases (among-with_number k c ds) (nat_lt c d) (c == d) refl
  where
    same : (c == d) ≡ true → (c == k) ≡ (d == k)
    same e = let f : c ≡ d = grind (arith, nat_tests) in ap (λ n. n == k) f

    twice : (x y : Bool) → x ≡ y → (y || is_among k ds) ≡ (x || (y || is_among k ds))
    twice true y e = ap (λ b. b || is_among k ds) (sym e)
    twice false y e = refl

    by_cases : is_among k (with_number c ds) ≡ ((c == k) || is_among k ds) → (a b : Bool)
        → (c == d) ≡ b →
        is_among k (if a then c ∷ d ∷ ds else (if b then d ∷ ds else d ∷ with_number c ds))
        ≡ ((c == k) || ((d == k) || is_among k ds))
    by_cases later true b e = refl
    by_cases later false true e = twice (c == k) (d == k) (same e)
    by_cases later false false e =
        ap (λ x. (d == k) || x) later ∙ or_swapped (d == k) (c == k) (is_among k ds)

pub with_number-nonempty : (c : ℕ) (xs : List ℕ) → is_nonempty (with_number c xs) ≡ true
with_number-nonempty c [] = refl
with_number-nonempty c (d ∷ ds) = by_cases (nat_lt c d) (c == d)
  where
    by_cases : (a b : Bool) → is_nonempty (if a then c ∷ d ∷ ds
        else (if b then d ∷ ds else d ∷ with_number c ds)) ≡ true
    by_cases true b = refl
    by_cases false true = refl
    by_cases false false = refl

-- If some numbers pass a test, some still do with one more.
pub joined-some : (test : ℕ → Bool) (c : ℕ) (xs : List ℕ) → is_empty (filter test xs) ≡ false
    → is_empty (filter test (with_number c xs)) ≡ false
joined-some test c [] some = cc
joined-some test c (d ∷ ds) some =
    by_cases (λ more. joined-some test c ds more) (nat_lt c d) (c == d)
  where
    either : (b : Bool) → is_empty (cond b (c ∷ filter test (d ∷ ds)) (filter test (d ∷ ds)))
        ≡ false
    either true = refl
    either false = some

    more : (is_empty (filter test ds) ≡ false → is_empty (filter test (with_number c ds)) ≡ false)
        → (b : Bool) → is_empty (cond b (d ∷ filter test ds) (filter test ds)) ≡ false →
        is_empty (cond b (d ∷ filter test (with_number c ds)) (filter test (with_number c ds)))
        ≡ false
    more later true is = refl
    more later false is = later is

    by_cases : (is_empty (filter test ds) ≡ false → is_empty (filter test (with_number c ds))
        ≡ false)
        → (a b : Bool) →
        is_empty (filter test (if a then c ∷ d ∷ ds
        else (if b then d ∷ ds else d ∷ with_number c ds))) ≡ false
    by_cases later true b = either (test c)
    by_cases later false true = some
    by_cases later false false = more later (test d) some

-- ---- ascending lists of the same numbers

abbrev pub AreAbove : ℕ → List ℕ → Type 0
AreAbove k [] = ⊤
AreAbove k (n ∷ ns) = (k < n) × AreAbove k ns

abbrev pub Rise : List ℕ → Type 0
Rise [] = ⊤
Rise (n ∷ ns) = AreAbove n ns × Rise ns

not_above : (k : ℕ) (ns : List ℕ) (m : ℕ) → m ≤ k → AreAbove k ns → is_among m ns ≡ false
not_above k [] m le above = refl
not_above k (n ∷ ns) m le above =
    let less : k < n = above.0 in
    let apart : (n == m) ≡ false = grind (arith, nat_tests) in
    ap (λ b. b || is_among m ns) apart ∙ not_above k ns m le above.1

pub same_numbers : (xs ys : List ℕ) → Rise xs → Rise ys → ((k : ℕ) → is_among k xs ≡ is_among k ys)
    → xs ≡ ys
same_numbers [] [] rise sises same = refl
same_numbers [] (y ∷ ys) rise sises same = let never : false ≡ true =
    same y ∙ ap (λ b. b || is_among y ys) (same_number y) in cc
same_numbers (x ∷ xs) [] rise sises same = let never : false ≡ true =
    sym (same x) ∙ ap (λ b. b || is_among x xs) (same_number x) in cc
same_numbers (x ∷ xs) (y ∷ ys) rise sises same =
    heads (same_numbers xs ys rise.1 sises.1) (nat_lt x y) (nat_lt y x) refl refl
  where
    lt_of : (a b : ℕ) → nat_lt a b ≡ true → a ≤ b
    lt_of a b e = grind (arith, nat_tests)

    meets : (a b : ℕ) → nat_lt a b ≡ false → nat_lt b a ≡ false → a ≡ b
    meets a b e f = grind (arith, nat_tests)

    tails : x ≡ y → (k : ℕ) → is_among k xs ≡ is_among k ys
    tails e k = by_cases (x == k) refl
      where
        by_cases : (b : Bool) → (x == k) ≡ b → is_among k xs ≡ is_among k ys
        by_cases true f =
            let at : x ≡ k = equal_number x k f in
            ap (λ n. is_among n xs) (sym at) ∙ not_above x xs x (omega arith) rise.0
            ∙ sym (ap (λ n. is_among n ys) (sym at ∙ e) ∙ not_above y ys y (omega arith) sises.0)
        by_cases false f = sym (ap (λ b. b || is_among k xs) f) ∙ same k
            ∙ ap (λ n. (n == k) || is_among k ys) (sym e) ∙ ap (λ b. b || is_among k ys) f

    heads : (((k : ℕ) → is_among k xs ≡ is_among k ys) → xs ≡ ys) → (p q : Bool) → nat_lt x y ≡ p
        → nat_lt y x ≡ q → x ∷ xs ≡ y ∷ ys
    heads later true q e f =
        let there : is_among x (y ∷ ys) ≡ true =
        sym (same x) ∙ ap (λ b. b || is_among x xs) (same_number x) in
        let gone : is_among x (y ∷ ys) ≡ false =
        ap (λ b. b || is_among x ys) (greater_differs x y e)
        ∙ not_above y ys x (lt_of x y e) sises.0 in
        let never : true ≡ false = sym there ∙ gone in cc
    heads later false true e f =
        let there : is_among y (x ∷ xs) ≡ true =
        same y ∙ ap (λ b. b || is_among y ys) (same_number y) in
        let gone : is_among y (x ∷ xs) ≡ false =
        ap (λ b. b || is_among y xs) (greater_differs y x f)
        ∙ not_above x xs y (lt_of y x f) rise.0 in
        let never : true ≡ false = sym there ∙ gone in cc
    heads later false false e f = let e2 : x ≡ y = meets x y e f in
        ap (λ n. n ∷ xs) e2 ∙ ap (λ ns. y ∷ ns) (later (tails e2))

more_above : (j k : ℕ) (ns : List ℕ) → j < k → AreAbove k ns → AreAbove j ns
more_above j k [] less above = tt
more_above j k (n ∷ ns) less above = (omega (arith, less, above.0), more_above j k ns less above.1)

with-above : (k c : ℕ) (ns : List ℕ) → k < c → AreAbove k ns → AreAbove k (with_number c ns)
with-above k c [] less above = (less, tt)
with-above k c (n ∷ ns) less above = by_cases (with-above k c ns less above.1) (nat_lt c n) (c == n)
  where
    by_cases : AreAbove k (with_number c ns) → (p q : Bool) → AreAbove k (if p then c ∷ n ∷ ns
        else (if q then n ∷ ns else n ∷ with_number c ns))
    by_cases later true q = (less, above)
    by_cases later false true = above
    by_cases later false false = (above.0, later)

with-rise : (c : ℕ) (ns : List ℕ) → Rise ns → Rise (with_number c ns)
with-rise c [] rise = (tt, tt)
with-rise c (n ∷ ns) rise = by_cases (with-rise c ns rise.1) (nat_lt c n) (c == n) refl refl
  where
    lt_of : nat_lt c n ≡ true → c < n
    lt_of e = grind (arith, nat_tests)

    gt_of : nat_lt c n ≡ false → (c == n) ≡ false → n < c
    gt_of e f = grind (arith, nat_tests)

    by_cases : Rise (with_number c ns) → (p q : Bool) → nat_lt c n ≡ p → (c == n) ≡ q
        → Rise (if p then c ∷ n ∷ ns else (if q then n ∷ ns else n ∷ with_number c ns))
    by_cases later true q e f = ((lt_of e, more_above c n ns (lt_of e) rise.0), rise)
    by_cases later false true e f = rise
    by_cases later false false e f = (with-above n c ns (gt_of e f) rise.0, later)

pub rising-rise : (ns : List ℕ) → Rise (rising ns)
rising-rise [] = tt
rising-rise (n ∷ ns) = with-rise n (rising ns) (rising-rise ns)

pub carriers-rise : (h : List Entry) → Rise (carriers h)
carriers-rise [] = tt
carriers-rise (e ∷ h) = by_cases (carriers-rise h) (carrier_named e.request)
  where
    by_cases : Rise (carriers h) → (o : Option ℕ) → Rise (carrier_added o (carriers h))
    by_cases rest None = rest
    by_cases rest (Some c) = with-rise c (carriers h) rest

pub both_of : (a b : Bool) → T (a && b) → (a ≡ true) × T b
both_of true b t = (refl, t)
both_of false b t = absurd t

pub keys-rise : {X : Type 0} (es : List (ℕ × X)) → T (is_sorted nat_cmp es)
    → Rise (map (λ e. e.0) es)
keys-rise [] sorted = tt
keys-rise {X = X} (e ∷ es) sorted =
    let parts = both_of (below_all nat_cmp e.0 es) (is_sorted nat_cmp es) sorted in
    (above es (subst T (sym parts.0) tt), keys-rise es parts.1)
  where
    less_of : (a b : ℕ) → is_lt (nat_cmp a b) ≡ true → a < b
    less_of a b f = by_cases (nat_lt a b) (a == b) refl f
      where
        lt_of : nat_lt a b ≡ true → a < b
        lt_of g = grind (arith, nat_tests)

        by_cases : (p q : Bool) → nat_lt a b ≡ p → is_lt (cond p Less (cond q Equal Greater)) ≡ true
            → a < b
        by_cases true q g h = lt_of g
        by_cases false true g h = cc
        by_cases false false g h = cc

    above : (fs : List (ℕ × X)) → T (below_all nat_cmp e.0 fs) → AreAbove e.0 (map (λ x. x.0) fs)
    above [] below = tt
    above (f ∷ fs) below = let parts =
        both_of (is_lt (nat_cmp e.0 f.0)) (below_all nat_cmp e.0 fs) below in
        (less_of e.0 f.0 parts.0, above fs parts.1)
