-- Searches in an ascending list of carriers, and carriers that are added to it or removed from it.
use Rattle.std.proofs.Common.{◌≡◌, ◌≢◌, ◌<◌, ◌≤◌, ◌+◌, ◌-◌, ◌*◌, ◌/◌, ℕ, zero, suc, Bool, true, false, cond, ◌||◌, List, [], ◌∷◌, map, drop, Option, Some, None, refl, ap, sym, ◌∙◌, subst, arith, length, drop_of_length-le}
use Rattle.std.specs.Prelude.{◌==◌, filter, not, is_some, slice_index_or, Result, Ok, Err, OnOk, OnErr, IfErr, T, if◌then◌else◌}
use Rattle.std.specs.declared.cmp.Ordering.TheVariants.{Less, Equal, Greater}
use Rattle.std.specs.Cmp.{nat_cmp_total}
use Rattle.std.specs.FinMap.{FinMap, get, keys, entries, from_sorted, same_map, get-from_entries, get-from_sorted, entries-from_sorted, get-insert, is_sorted, find, put, nat_cmp-IsAntisymmetric}
use Rattle.std.specs.FinMap.Entries.{below_all, by_order, where_key, find-put, find-where_key, is_sorted-put, is_sorted-where_key}
use Rattle.std.specs.List.{insert, HoldsAt}
use Rattle.std.specs.List.Sorted.{IsBinarySearchResult, IsSearchInRange}
use Rattle.std.specs.Ordering.{nat_cmp, eq_by_cmp, is_lt, ordering_index}
use Rattle.std.proofs.lemmas.Bool.{eqb-true, eqb-false, leb-true, leb-false}
use Rattle.std.proofs.lemmas.Bool.Decides.{nat_tests}
use Rattle.std.proofs.lemmas.List.{get_or_default}
use Rattle.std.proofs.Math.Dec.{eqb, leb}
use Rattle.std.proofs.Math.Nat.{lt_of_not-le}
use mir.Val.{bool_byte}
use Rattle.std.proofs.lemmas.Cmp.{ranked}
use Rattle.numbers.proofs.Small.{and_first, and_second}
use Rattle.numbers.specs.declared.spid.Spid.{Spid}
use Rattle.settle.specs.Abstraction.{spid_of}
use Rattle.model.proofs.Lists.{filter-map}
use Rattle.store.specs.Carriers.{carrier_entries, registered_in, AreAscending, IsPlaceFor}
use Rattle.store.specs.Maps.{set}
use Rattle.store.proofs.Changed.{set_number}
use Rattle.store.proofs.Maps.{set-back, set-same}

-- ---- comparisons of numbers

below-is : (a b : ℕ) → is_lt (nat_cmp a b) ≡ true → a < b
below-is a b e = grind (arith, nat_tests)

less : (a b : ℕ) → a < b → nat_cmp a b ≡ Less
less a b lt = grind (arith, nat_tests)

greater : (a b : ℕ) → b < a → nat_cmp a b ≡ Greater
greater a b lt = grind (arith, nat_tests)

rises : (a b n : ℕ) → a ≤ b → ordering_index (nat_cmp a n) ≤ ordering_index (nat_cmp b n)
rises a b n le = grind (arith, nat_tests)

-- ---- the order of the list

below-at : (n : ℕ) (cs : List Spid) (k : ℕ) (d : Spid)
    → below_all nat_cmp n (carrier_entries cs) ≡ true → k < length cs
    → n < (slice_index_or cs k d).number
below-at n [] k d all inside = absurd (omega (arith, inside))
below-at n (c ∷ cs) zero d all inside = below-is n c.number (and_first _ _ all)
below-at n (c ∷ cs) (suc k) d all inside =
    below-at n cs k d (and_second _ _ all) (omega (arith, inside))

numbers-rise : (cs : List Spid) → AreAscending cs → (i j : ℕ) (d : Spid) → i ≤ j → j < length cs
    → (slice_index_or cs i d).number ≤ (slice_index_or cs j d).number
numbers-rise [] is i j d le inside = absurd (omega (arith, inside))
numbers-rise (c ∷ cs) is zero zero d le inside = omega arith
numbers-rise (c ∷ cs) is zero (suc j) d le inside =
    let lt = below-at c.number cs j d (and_first _ _ is) (omega (arith, inside)) in
    omega (arith, lt)
numbers-rise (c ∷ cs) is (suc i) zero d le inside = absurd (omega (arith, le))
numbers-rise (c ∷ cs) is (suc i) (suc j) d le inside =
    numbers-rise cs (and_second _ _ is) i j d (omega (arith, le)) (omega (arith, inside))

numbers-climb : (cs : List Spid) → AreAscending cs → (i j : ℕ) (d : Spid) → i < j → j < length cs
    → (slice_index_or cs i d).number < (slice_index_or cs j d).number
numbers-climb [] is i j d lt inside = absurd (omega (arith, inside))
numbers-climb (c ∷ cs) is i zero d lt inside = absurd (omega (arith, lt))
numbers-climb (c ∷ cs) is zero (suc j) d lt inside =
    below-at c.number cs j d (and_first _ _ is) (omega (arith, inside))
numbers-climb (c ∷ cs) is (suc i) (suc j) d lt inside =
    numbers-climb cs (and_second _ _ is) i j d (omega (arith, lt)) (omega (arith, inside))

-- ---- the search

get-registered : (cs : List Spid) (q : ℕ)
    → get (registered_in cs) q ≡ find nat_cmp q (carrier_entries cs)
get-registered cs q = get-from_entries nat_cmp_total (carrier_entries cs) q

either : (b : Bool) → ◌≡◌ {A = Option (Unit {0})} (cond b (Some tt) (Some tt)) (Some tt)
either true = refl
either false = refl

same-eq : (n : ℕ) → eq_by_cmp nat_cmp n n ≡ true
same-eq n = grind (arith, nat_tests)

find-at : (cs : List Spid) (place : ℕ) (d : Spid) → place < length cs
    → find nat_cmp (slice_index_or cs place d).number (carrier_entries cs) ≡ Some tt
find-at [] place d inside = absurd (omega (arith, inside))
find-at (c ∷ cs) zero d inside =
    ap (λ b. cond b (Some tt) (find nat_cmp c.number (carrier_entries cs))) (same-eq c.number)
find-at (c ∷ cs) (suc place) d inside =
    ap (cond (eq_by_cmp nat_cmp (slice_index_or cs place d).number c.number) (Some tt))
    (find-at cs place d (omega (arith, inside)))
    ∙ either (eq_by_cmp nat_cmp (slice_index_or cs place d).number c.number)

found-at : (cs : List Spid) (number place : ℕ) → place < length cs
    → HoldsAt (λ (c : Spid). nat_cmp c.number number ≡ Equal) cs place
    → find nat_cmp number (carrier_entries cs) ≡ Some tt
found-at [] number place inside is = absurd (omega (arith, inside))
found-at (c ∷ cs) number place inside is =
    subst (λ n. find nat_cmp n (carrier_entries (c ∷ cs)) ≡ Some tt)
    (nat_cmp-IsAntisymmetric (slice_index_or (c ∷ cs) place c).number number (is c))
    (find-at (c ∷ cs) place c inside)

missing : (cs : List Spid) (number : ℕ)
    → ((k : ℕ) (d : Spid) → k < length cs
    → eq_by_cmp nat_cmp number (slice_index_or cs k d).number ≡ false)
    → find nat_cmp number (carrier_entries cs) ≡ None
missing [] number none = refl
missing (c ∷ cs) number none =
    ap (λ b. cond b (Some tt) (find nat_cmp number (carrier_entries cs)))
    (none zero c (omega arith))
    ∙ missing cs number (λ k d inside. none (suc k) d (omega (arith, inside)))

differs : (number place k c : ℕ) → (k < place → c < number) → (place ≤ k → number < c)
    → eq_by_cmp nat_cmp number c ≡ false
differs number place k c before after = grind (arith, nat_tests, before, after)

-- No carrier of the list has the number.
absent-at : (cs : List Spid) (number place : ℕ) → IsPlaceFor cs number place
    → find nat_cmp number (carrier_entries cs) ≡ None
absent-at cs number place is =
    missing cs number (λ k d inside. differs number place k (slice_index_or cs k d).number
    (λ lt. is.before k d (omega arith) lt) (λ le. is.after k d le inside))

-- What a search returns.
pub searched : (cs : List Spid) (number : ℕ) (r : Result ℕ ℕ) → AreAscending cs
    → IsSearchInRange r (length cs)
    → IsBinarySearchResult (λ (c : Spid). nat_cmp c.number number) cs r
    → record {
      found : OnOk r (get (registered_in cs) number ≡ Some tt);
      absent : OnErr r (get (registered_in cs) number ≡ None);
      place : IfErr r (IsPlaceFor cs number);
    }
searched cs number (Ok place) is inside found =
    record {
      found = get-registered cs number ∙ found-at cs number place inside found;
      absent = tt;
      place = tt;
    }
searched cs number (Err place) is inside parted =
    let parts = parted (λ i j d le lt. rises (slice_index_or cs i d).number
    (slice_index_or cs j d).number number (numbers-rise cs is i j d le lt)) in
    let at : IsPlaceFor cs number place = record {
      within = inside;
      before = λ k d low high. ranked (slice_index_or cs k d).number number Less
          (sym (parts.0 k d low high));
      after = λ k d low high. ranked (slice_index_or cs k d).number number Greater
          (sym (parts.1 k d low high));
    } in
    record {
      found = tt;
      absent = get-registered cs number ∙ absent-at cs number place at;
      place = at;
    }

-- ---- the look at each carrier

-- Whether one of the carriers has the number.
abbrev pub lists : List Spid → (number : ℕ) → Bool
lists cs number = is_some (find nat_cmp number (carrier_entries cs))

is-own : (n k : ℕ) → eq_by_cmp nat_cmp n k ≡ eqb k n
is-own n k = grind (arith, nat_tests)

first-or : (b : Bool) (o : Option (Unit {0})) → is_some (cond b (Some tt) o) ≡ (b || is_some o)
first-or true o = refl
first-or false o = refl

lists-from : (cs : List Spid) (k number : ℕ) (c : Spid) → k < length cs
    → c ≡ slice_index_or cs k c
    → lists (drop k cs) number ≡ (eqb c.number number || lists (drop (suc k) cs) number)
lists-from [] k number c inside is = absurd (omega (arith, inside))
lists-from (x ∷ cs) zero number c inside is =
    first-or (eq_by_cmp nat_cmp number x.number) (find nat_cmp number (carrier_entries cs))
    ∙ ap (λ b. b || lists cs number)
    (is-own number x.number ∙ ap (λ (y : Spid). eqb y.number number) (sym is))
lists-from (x ∷ cs) (suc k) number c inside is =
    lists-from cs k number c (omega (arith, inside)) is

or-assoc : (a b c : Bool) → (a || (b || c)) ≡ ((a || b) || c)
or-assoc true b c = refl
or-assoc false b c = refl

or-false : (a : Bool) → (a || false) ≡ a
or-false true = refl
or-false false = refl

-- Whether a carrier is listed: one of those looked at has the number, or one of the rest.
abbrev pub AreLookedAt : List Spid → (number looked : ℕ) → (is_listed : Bool) → Type 0
AreLookedAt cs number looked is_listed =
    is_some (get (registered_in cs) number) ≡ (is_listed || lists (drop looked cs) number)

pub none-looked-at : (cs : List Spid) (number : ℕ) → AreLookedAt cs number 0 false
none-looked-at cs number = ap is_some (get-registered cs number)

pub one-looked-at : (cs : List Spid) (number k : ℕ) (is_listed : Bool) (c : Spid) → k < length cs
    → c ≡ slice_index_or cs k c → AreLookedAt cs number k is_listed
    → AreLookedAt cs number (k + 1) (is_listed || eqb c.number number)
one-looked-at cs number k is_listed c inside is looked =
    let next : suc k ≡ k + 1 = omega arith in
    looked ∙ ap (λ b. is_listed || b) (lists-from cs k number c inside is)
    ∙ or-assoc is_listed (eqb c.number number) (lists (drop (suc k) cs) number)
    ∙ ap (λ n. (is_listed || eqb c.number number) || lists (drop n cs) number) next

pub all-looked-at : (cs : List Spid) (number k : ℕ) (is_listed : Bool) → length cs ≤ k
    → AreLookedAt cs number k is_listed → is_listed ≡ is_some (get (registered_in cs) number)
all-looked-at cs number k is_listed all looked = sym (looked
    ∙ ap (λ rest. is_listed || lists rest number) (drop_of_length-le cs all)
    ∙ or-false is_listed)

-- ---- a carrier added

put-at : (cs : List Spid) (place : ℕ) (x : Spid) → IsPlaceFor cs x.number place
    → carrier_entries (insert cs place x) ≡ put nat_cmp x.number tt (carrier_entries cs)
put-at [] zero x is = refl
put-at [] (suc place) x is = refl
put-at (c ∷ cs) zero x is =
    sym (ap (λ o. by_order o ((x.number, tt) ∷ carrier_entries (c ∷ cs))
    ((c.number, tt) ∷ carrier_entries cs)
    ((c.number, tt) ∷ put nat_cmp x.number tt (carrier_entries cs)))
    (less x.number c.number (is.after zero c (omega arith) (omega arith))))
put-at (c ∷ cs) (suc place) x is =
    ap (λ es. (c.number, tt) ∷ es) (put-at cs place x later)
    ∙ sym (ap (λ o. by_order o ((x.number, tt) ∷ carrier_entries (c ∷ cs))
    ((c.number, tt) ∷ carrier_entries cs)
    ((c.number, tt) ∷ put nat_cmp x.number tt (carrier_entries cs)))
    (greater x.number c.number (is.before zero c (omega arith) (omega arith))))
  where
    later : IsPlaceFor cs x.number place
    later = record {
      within = omega (arith, is.within);
      before = λ k d low high. is.before (suc k) d (omega arith) (omega (arith, high));
      after = λ k d low high.
          is.after (suc k) d (omega (arith, low)) (omega (arith, high));
    }

-- A truth as a type, and back.
from-truth : (b : Bool) → T b → b ≡ true
from-truth true is = refl
from-truth false is = absurd is

pub ascending-added : (cs : List Spid) (place : ℕ) (x : Spid) → AreAscending cs
    → IsPlaceFor cs x.number place → AreAscending (insert cs place x)
ascending-added cs place x is at =
    ap (is_sorted nat_cmp) (put-at cs place x at)
    ∙ from-truth _ (is_sorted-put nat_cmp nat_cmp_total x.number tt (carrier_entries cs)
    (subst T (sym is) tt))

pub registered-added : (cs : List Spid) (place : ℕ) (x : Spid) → IsPlaceFor cs x.number place
    → registered_in (insert cs place x) ≡ set (registered_in cs) x.number (Some tt)
registered-added cs place x at =
    same_map nat_cmp_total nat_cmp-IsAntisymmetric (registered_in (insert cs place x))
    (set (registered_in cs) x.number (Some tt))
    (λ q. get-registered (insert cs place x) q
    ∙ ap (find nat_cmp q) (put-at cs place x at)
    ∙ find-put nat_cmp nat_cmp_total q x.number tt (carrier_entries cs)
    ∙ ap (cond (eq_by_cmp nat_cmp q x.number) (Some tt)) (sym (get-registered cs q))
    ∙ sym (get-insert nat_cmp_total (registered_in cs) x.number tt q))

-- ---- a carrier removed

abbrev others : ℕ → List Spid → List Spid
others number cs = filter (λ (c : Spid). not (number == c.number)) cs

entries-left : (cs : List Spid) (number : ℕ) → carrier_entries (others number cs)
    ≡ where_key nat_cmp (λ k. not (number == k)) (carrier_entries cs)
entries-left cs number =
    filter-map (λ (c : Spid). (spid_of c, tt)) (λ (c : Spid). not (number == c.number))
    (λ (e : ℕ × Unit {0}). not (number == e.0)) (λ c. refl) cs

pub ascending-left : (cs : List Spid) (number : ℕ) → AreAscending cs
    → AreAscending (others number cs)
ascending-left cs number is =
    ap (is_sorted nat_cmp) (entries-left cs number)
    ∙ from-truth _ (is_sorted-where_key nat_cmp (λ k. not (number == k)) (carrier_entries cs)
    (subst T (sym is) tt))

pub registered-left : (cs : List Spid) (number : ℕ)
    → registered_in (others number cs) ≡ set (registered_in cs) number None
registered-left cs number =
    same_map nat_cmp_total nat_cmp-IsAntisymmetric (registered_in (others number cs))
    (set (registered_in cs) number None)
    (λ q. get-registered (others number cs) q
    ∙ ap (find nat_cmp q) (entries-left cs number)
    ∙ find-where_key nat_cmp (λ k. not (number == k)) q
    (λ x same. ap (λ k. not (number == k)) (sym (nat_cmp-IsAntisymmetric q x same)))
    (carrier_entries cs)
    ∙ turned (number == q) (find nat_cmp q (carrier_entries cs))
    ∙ ap (λ o. if number == q then None else o) (sym (get-registered cs q))
    ∙ sym (set_number (registered_in cs) number None q))
  where
    turned : {A : Type 0} (b : Bool) (o : Option A) → cond (not b) o None ≡ cond b None o
    turned true o = refl
    turned false o = refl

-- ---- a carrier added and taken back

pub added-back : (old mid new : FinMap nat_cmp (Unit {0})) (number : ℕ)
    → true ≡ not (is_some (get old number)) → mid ≡ set old number (Some tt)
    → new ≡ set mid number None → new ≡ old
added-back old mid new number absent added removed =
    removed ∙ ap (λ m. set m number None) added
    ∙ ap (set (set old number (Some tt)) number) (sym (none (get old number) absent))
    ∙ set-back nat_cmp_total nat_cmp-IsAntisymmetric old number (Some tt)
  where
    none : (o : Option (Unit {0})) → true ≡ not (is_some o) → o ≡ None
    none None e = refl
    none (Some u) e = let no : true ≡ false = e in cc

pub added-same : (old new : FinMap nat_cmp (Unit {0})) (number : ℕ)
    → false ≡ not (is_some (get old number)) → new ≡ set old number (Some tt) → new ≡ old
added-same old new number there added =
    added ∙ set-same nat_cmp_total nat_cmp-IsAntisymmetric old number (Some tt)
    (some (get old number) there)
  where
    some : (o : Option (Unit {0})) → false ≡ not (is_some o) → o ≡ Some tt
    some None e = let no : false ≡ true = e in cc
    some (Some u) e = refl

-- ---- the list

pub keys-are : (cs : List Spid) → AreAscending cs → map spid_of cs ≡ keys (registered_in cs)
keys-are cs is =
    numbers cs
    ∙ ap (map (λ (e : ℕ × Unit {0}). e.0))
    (sym (entries-from_sorted nat_cmp (carrier_entries cs) sorted)
    ∙ ap entries (sym (same_map nat_cmp_total nat_cmp-IsAntisymmetric (registered_in cs)
    (from_sorted (carrier_entries cs))
    (λ q. get-registered cs q
    ∙ sym (get-from_sorted nat_cmp (carrier_entries cs) q sorted)))))
  where
    sorted : T (is_sorted nat_cmp (carrier_entries cs))
    sorted = subst T (sym is) tt

    numbers : (ds : List Spid)
        → map spid_of ds ≡ map (λ (e : ℕ × Unit {0}). e.0) (carrier_entries ds)
    numbers [] = refl
    numbers (d ∷ ds) = ap (λ ns. d.number ∷ ns) (numbers ds)
