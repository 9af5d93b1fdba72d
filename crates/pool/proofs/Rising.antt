-- Ascending numbers without duplicates do not depend on the order of insertion.
use Rattle.std.proofs.Common.{◌≡◌, ℕ, ◌+◌, ◌*◌, ◌<◌, ◌≤◌, Bool, true, false, cond, List, [], ◌∷◌, ◌++◌, length, get_or, take, map, refl, ap, sym, ◌∙◌, arith}
use Rattle.std.specs.Prelude.{◌==◌, nat_lt, if◌then◌else◌}
use Rattle.std.specs.declared.cmp.Ordering.{Ordering}
use Rattle.std.specs.declared.cmp.Ordering.TheVariants.{Less, Equal, Greater}
use Rattle.std.specs.Ordering.{nat_cmp, match_ordering}
use Rattle.std.specs.BTreeSet.{insert_key}
use Rattle.std.proofs.lemmas.Bool.Decides.{nat_tests}
use Rattle.numbers.specs.Digits.{number_in}
use Rattle.model.specs.Versions.{with_number}
use Rattle.model.specs.History.{rising, used_numbers}
use Rattle.numbers.specs.Subjects.{Number}
use Rattle.numbers.specs.declared.line.Line.{Line}
use Rattle.numbers.specs.declared.tn.Tn.{Tn}
use Rattle.std.proofs.lemmas.List.{take_more, take_all, map-append}
use Rattle.pool.specs.Donations.{lines_of, tn_subject}
use Rattle.numbers.proofs.Small.{is_less, less_is, equal_number}

-- ---- one number into a list

not-less : (c d : ℕ) → d < c → nat_lt c d ≡ false
not-less c d more = grind (arith, nat_tests)

not-same : (c d : ℕ) → d < c → (c == d) ≡ false
not-same c d more = grind (arith, nat_tests)

before : (c d : ℕ) (ds : List ℕ) → c < d → with_number c (d ∷ ds) ≡ c ∷ d ∷ ds
before c d ds less =
    ap (λ b. if b then c ∷ d ∷ ds else (if c == d then d ∷ ds else d ∷ with_number c ds))
    (is_less c d less)

behind : (c d : ℕ) (ds : List ℕ) → d < c → with_number c (d ∷ ds) ≡ d ∷ with_number c ds
behind c d ds more =
    ap (λ b. if b then c ∷ d ∷ ds else (if c == d then d ∷ ds else d ∷ with_number c ds))
    (not-less c d more)
    ∙ ap (λ b. if b then d ∷ ds else d ∷ with_number c ds) (not-same c d more)

there : (c d : ℕ) (ds : List ℕ) → nat_lt c d ≡ false → (c == d) ≡ true
    → with_number c (d ∷ ds) ≡ d ∷ ds
there c d ds e f =
    ap (λ b. if b then c ∷ d ∷ ds else (if c == d then d ∷ ds else d ∷ with_number c ds)) e
    ∙ ap (λ b. if b then d ∷ ds else d ∷ with_number c ds) f

-- ---- two numbers

gt-of : (a b : ℕ) → nat_lt a b ≡ false → (a == b) ≡ false → b < a
gt-of a b e f = grind (arith, nat_tests)

less-swap : (a b : ℕ) (ds : List ℕ) → a < b
    → with_number a (with_number b ds) ≡ with_number b (with_number a ds)
less-swap a b [] less = before a b [] less ∙ sym (behind b a [] less)
less-swap a b (d ∷ ds) less = by_cases (less-swap a b ds less) (nat_lt b d) (b == d) refl refl
  where
    -- The case that b goes after d.
    far : with_number a (with_number b ds) ≡ with_number b (with_number a ds) → d < b → (p q : Bool)
        → nat_lt a d ≡ p → (a == d) ≡ q →
        with_number a (d ∷ with_number b ds) ≡ with_number b (with_number a (d ∷ ds))
    far later more true q e f =
        before a d (with_number b ds) (less_is a d e)
        ∙ sym (ap (with_number b) (before a d ds (less_is a d e)) ∙ behind b a (d ∷ ds) less
        ∙ ap (λ ns. a ∷ ns) (behind b d ds more))
    far later more false true e f =
        there a d (with_number b ds) e f ∙ sym (ap (with_number b) (there a d ds e f)
        ∙ behind b d ds more)
    far later more false false e f =
        behind a d (with_number b ds) (gt-of a d e f) ∙ ap (λ ns. d ∷ ns) later
        ∙ sym (ap (with_number b) (behind a d ds (gt-of a d e f)) ∙ behind b d (with_number a ds)
        more)

    by_cases : with_number a (with_number b ds) ≡ with_number b (with_number a ds) → (p q : Bool)
        → nat_lt b d ≡ p → (b == d) ≡ q →
        with_number a (with_number b (d ∷ ds)) ≡ with_number b (with_number a (d ∷ ds))
    by_cases later true q e f =
        let next : b < d = less_is b d e in
        let first : a < d = omega (arith, less, next) in
        ap (with_number a) (before b d ds next) ∙ before a b (d ∷ ds) less
        ∙ sym (ap (with_number b) (before a d ds first) ∙ behind b a (d ∷ ds) less
        ∙ ap (λ ns. a ∷ ns) (before b d ds next))
    by_cases later false true e f =
        let same : b ≡ d = equal_number b d f in
        let first : a < d = omega (arith, less, same) in
        ap (with_number a) (there b d ds e f) ∙ before a d ds first
        ∙ sym (ap (with_number b) (before a d ds first) ∙ behind b a (d ∷ ds) less
        ∙ ap (λ ns. a ∷ ns) (there b d ds e f))
    by_cases later false false e f = ap (with_number a) (behind b d ds (gt-of b d e f))
        ∙ far later (gt-of b d e f) (nat_lt a d) (a == d) refl refl

swap : (a b : ℕ) (ds : List ℕ) → with_number a (with_number b ds) ≡ with_number b (with_number a ds)
swap a b ds = by_cases (nat_lt a b) (a == b) refl refl
  where
    by_cases : (p q : Bool) → nat_lt a b ≡ p → (a == b) ≡ q
        → with_number a (with_number b ds) ≡ with_number b (with_number a ds)
    by_cases true q e f = less-swap a b ds (less_is a b e)
    by_cases false true e f = ap (λ n. with_number n (with_number b ds)) (equal_number a b f)
        ∙ ap (λ n. with_number b (with_number n ds)) (sym (equal_number a b f))
    by_cases false false e f = sym (less-swap b a ds (gt-of a b e f))

-- One more number at the end is inserted into the ascending list.
pub rising-more : (ns : List ℕ) (n : ℕ) → rising (ns ++ n ∷ []) ≡ with_number n (rising ns)
rising-more [] n = refl
rising-more (m ∷ ms) n = ap (with_number m) (rising-more ms n) ∙ swap m n (rising ms)

-- ---- the numbers of a block

pub of-block : (block n : ℕ) (ns : List ℕ)
    → with_number (number_in block n) (map (number_in block) ns) ≡ map (number_in block)
    (with_number n ns)
of-block block n [] = refl
of-block block n (m ∷ ms) = by_cases (of-block block n ms) (nat_lt n m) (n == m) refl refl
  where
    less-in : (a b : ℕ) → a < b → block * 1000 + a < block * 1000 + b
    less-in a b less = omega arith

    by_cases : with_number (number_in block n) (map (number_in block) ms) ≡ map (number_in block)
        (with_number n ms) → (p q : Bool) → nat_lt n m ≡ p → (n == m) ≡ q →
        with_number (number_in block n) (number_in block m ∷ map (number_in block) ms)
        ≡ map (number_in block) (if p then n ∷ m ∷ ms
        else (if q then m ∷ ms else m ∷ with_number n ms))
    by_cases later true q e f =
        before (number_in block n) (number_in block m) (map (number_in block) ms)
        (less-in n m (less_is n m e))
    by_cases later false true e f =
        let same : number_in block n ≡ number_in block m =
        ap (number_in block) (equal_number n m f) in
        there (number_in block n) (number_in block m) (map (number_in block) ms)
        (grind (arith, nat_tests, same)) (grind (arith, nat_tests, same))
    by_cases later false false e f =
        behind (number_in block n) (number_in block m) (map (number_in block) ms)
        (less-in m n (gt-of n m e f)) ∙ ap (λ ns. number_in block m ∷ ns) later

-- ---- a set of values that are ordered by their numbers

abbrev order : (is_less is_same : Bool) → Ordering
order is_less is_same = cond is_less Less (cond is_same Equal Greater)

pub inserted : {K : Type 0} (key : K → ℕ) (cmp : K → K → Ordering)
    → ((a b : K) → cmp a b ≡ nat_cmp (key a) (key b)) → (ks : List K) (k : K) →
    map key (insert_key cmp ks k) ≡ with_number (key k) (map key ks)
inserted key cmp is [] k = refl
inserted {K} key cmp is (x ∷ xs) k =
    ap (λ o. map key (match_ordering o (k ∷ x ∷ xs) (x ∷ xs) (x ∷ insert_key cmp xs k))) (is k x)
    ∙ by_cases (inserted key cmp is xs k) (nat_lt (key k) (key x)) (key k == key x)
  where
    by_cases : map key (insert_key cmp xs k) ≡ with_number (key k) (map key xs) → (p q : Bool) →
        map key (match_ordering (order p q) (k ∷ x ∷ xs) (x ∷ xs) (x ∷ insert_key cmp xs k))
        ≡ (if p then key k ∷ key x ∷ map key xs else (if q then key x ∷ map key xs
        else key x ∷ with_number (key k) (map key xs)))
    by_cases later true q = refl
    by_cases later false true = refl
    by_cases later false false = ap (λ ns. key x ∷ ns) later

-- ---- the lines of a donation, as they are put into a set

abbrev number : Tn → ℕ
number t = t.number

taken : (xs : List Line) (i : ℕ) (x : Line) → i < length xs → x ≡ get_or xs i x
    → lines_of (take (i + 1) xs) ≡ lines_of (take i xs) ++ x.number ∷ []
taken xs i x within is =
    ap lines_of (take_more xs i x within) ∙ map-append (λ (l : Line). l.number) (take i xs)
    (get_or xs i x ∷ []) ∙ ap (λ (l : Line). lines_of (take i xs) ++ l.number ∷ []) (sym is)

pub named-more : (cmp : Tn → Tn → Ordering) → ((a b : Tn) → cmp a b ≡ nat_cmp a.number b.number)
    → (block : ℕ) (old new : List Tn) (t : Tn) (xs : List Line) (i : ℕ) (x : Line) →
    new ≡ insert_key cmp old t → t.number ≡ number_in block x.number → i < length xs
    → x ≡ get_or xs i x → map number old ≡ map (number_in block) (rising (lines_of (take i xs))) →
    map number new ≡ map (number_in block) (rising (lines_of (take (i + 1) xs)))
named-more cmp by_number block old new t xs i x is at within item before =
    ap (map number) is ∙ inserted number cmp by_number old t
    ∙ ap (λ n. with_number n (map number old)) at ∙ ap (with_number (number_in block x.number))
    before
    ∙ of-block block x.number (rising (lines_of (take i xs))) ∙ ap (map (number_in block))
    (sym (rising-more (lines_of (take i xs)) x.number))
    ∙ ap (λ ns. map (number_in block) (rising ns)) (sym (taken xs i x within item))

seen : (ks : List Tn) → map tn_subject ks ≡ map (λ n. Number n) (map number ks)
seen [] = refl
seen (k ∷ ks) = ap (λ ss. Number k.number ∷ ss) (seen ks)

numbered : (block : ℕ) (ns : List ℕ) → map (λ n. Number n) (map (number_in block) ns)
    ≡ map (λ line. Number (number_in block line)) ns
numbered block [] = refl
numbered block (n ∷ ns) = ap (λ ss. Number (number_in block n) ∷ ss) (numbered block ns)

pub all-named : (block : ℕ) (ks : List Tn) (xs : List Line) (i : ℕ) → length xs ≤ i
    → map number ks ≡ map (number_in block) (rising (lines_of (take i xs))) →
    map tn_subject ks ≡ used_numbers block (lines_of xs)
all-named block ks xs i whole is =
    seen ks ∙ ap (map (λ n. Number n)) (is ∙ ap (λ ys. map (number_in block) (rising (lines_of ys)))
    (take_all i xs whole)) ∙ numbered block (rising (lines_of xs))
