-- Whether a broadcast is pending for another registered carrier: only those of its row matter.
use Rattle.std.proofs.Common.{◌≡◌, ℕ, Bool, true, false, List, [], ◌∷◌, map, refl, ap, sym, ◌∙◌, ◌&&◌, ◌||◌}
use Rattle.std.specs.Prelude.{filter, not, is_some, ◌==◌}
use Rattle.std.specs.FinMap.{FinMap, get, keys}
use Rattle.std.specs.List.{list_all, list_any}
use Rattle.std.specs.Ordering.{nat_cmp}
use Rattle.numbers.specs.declared.spid.Spid.{Spid}
use Rattle.numbers.specs.Subjects.{Subject}
use Rattle.model.specs.Content.{wait_cmp}
use Rattle.model.specs.Versions.{is_among}
use Rattle.settle.specs.Reads.{is_last_wait}
use Rattle.settle.specs.Abstraction.{spid_of}
use Rattle.settle.proofs.Among.{among-filtered, among_keys}
use Rattle.store.specs.Sharing.{waits_content}
use Rattle.store.specs.WaitRows.{Download, wait_for, is_another}
use Rattle.numbers.proofs.Small.{or_right, same_number, numbers_turned, equal_number, and_both, true_both, same_truth}

-- ---- lists of numbers

-- If any number passes, one that is in the list does.
passing : (p : ℕ → Bool) (xs : List ℕ) → list_any p xs ≡ true → (x : ℕ) × (is_among x xs ≡ true)
    × (p x ≡ true)
passing p [] e = let no : false ≡ true = e in cc
passing p (x ∷ xs) e = by_cases (passing p xs) (p x) refl e
  where
    by_cases : (list_any p xs ≡ true → (k : ℕ) × (is_among k xs ≡ true) × (p k ≡ true)) → (b : Bool)
        → p x ≡ b → (b || list_any p xs) ≡ true → (k : ℕ) × (is_among k (x ∷ xs) ≡ true)
        × (p k ≡ true)
    by_cases later true is f = (x, ap (λ b. b || is_among x xs) (same_number x), is)
    by_cases later false is f = let more = later f in
        (more.0, or_right (x == more.0) (is_among more.0 xs) more.1, more.2)

-- A number that is in the list and passes is found.
passes : (p : ℕ → Bool) (xs : List ℕ) (k : ℕ) → is_among k xs ≡ true → p k ≡ true
    → list_any p xs ≡ true
passes p [] k e is = e
passes p (x ∷ xs) k e is = by_cases (λ f. passes p xs k f is) (x == k) refl e
  where
    by_cases : (is_among k xs ≡ true → list_any p xs ≡ true) → (b : Bool) → (x == k) ≡ b
        → (b || is_among k xs) ≡ true → list_any p (x ∷ xs) ≡ true
    by_cases later true at f = ap (λ b. b || list_any p xs) (ap p (equal_number x k at) ∙ is)
    by_cases later false at f = or_right (p x) (list_any p xs) (later f)

all-not : (p : ℕ → Bool) (xs : List ℕ) → list_all p xs ≡ not (list_any (λ x. not (p x)) xs)
all-not p [] = refl
all-not p (x ∷ xs) =
    ap (λ b. p x && b) (all-not p xs) ∙ by_cases (p x) (list_any (λ y. not (p y)) xs)
  where
    by_cases : (a b : Bool) → (a && not b) ≡ not (not a || b)
    by_cases true b = refl
    by_cases false b = refl

any-seen : (p : ℕ → Bool) (q : Spid → Bool) → ((c : Spid) → p c.number ≡ q c) → (cs : List Spid)
    → list_any p (map spid_of cs) ≡ list_any q cs
any-seen p q same [] = refl
any-seen p q same (c ∷ cs) = ap (λ b. b || list_any p (map spid_of cs)) (same c)
    ∙ ap (λ b. q c || b) (any-seen p q same cs)

among-seen : (k : ℕ) (cs : List Spid) → list_any (λ (c : Spid). k == c.number) cs
    ≡ is_among k (map spid_of cs)
among-seen k cs =
    sym (any-seen (λ d. d == k) (λ c. k == c.number) (λ c. numbers_turned c.number k) cs)

-- ---- a broadcast's row

-- Only `own` is pending among `ks`, unless another registered carrier of `cs` is pending.
alone : (own : ℕ) (waits registered : ℕ → Bool) (ks cs : List ℕ)
    → ((k : ℕ) → is_among k ks ≡ registered k) → ((k : ℕ) → waits k ≡ is_among k cs) →
    list_all (λ k. k == own) (filter waits ks) ≡ not (list_any (λ k. not (k == own) && registered k)
    cs)
alone own waits registered ks cs are wait =
    all-not (λ k. k == own) (filter waits ks)
    ∙ ap not (same_truth (list_any (λ k. not (k == own)) (filter waits ks))
    (list_any (λ k. not (k == own) && registered k) cs) there back)
  where
    there : list_any (λ k. not (k == own)) (filter waits ks) ≡ true
        → list_any (λ k. not (k == own) && registered k) cs ≡ true
    there e =
        let found = passing (λ k. not (k == own)) (filter waits ks) e in
        let is = and_both (is_among found.0 ks) (waits found.0)
        (sym (among-filtered waits found.0 ks) ∙ found.1) in
        passes (λ k. not (k == own) && registered k) cs found.0 (sym (wait found.0) ∙ is.1)
        (true_both (not (found.0 == own)) (registered found.0) found.2 (sym (are found.0) ∙ is.0))

    back : list_any (λ k. not (k == own) && registered k) cs ≡ true
        → list_any (λ k. not (k == own)) (filter waits ks) ≡ true
    back e =
        let found = passing (λ k. not (k == own) && registered k) cs e in
        let is = and_both (not (found.0 == own)) (registered found.0) found.2 in
        passes (λ k. not (k == own)) (filter waits ks) found.0
        (among-filtered waits found.0 ks ∙ true_both (is_among found.0 ks) (waits found.0)
        (are found.0
        ∙ is.1) (wait found.0 ∙ found.1))
        is.0

pub last-is : (registered : FinMap nat_cmp (Unit {0})) (waits : FinMap wait_cmp Subject)
    (own : Spid) (d : Download) (cs : List Spid) →
    ((k : ℕ) → is_some (get waits (wait_for d k)) ≡ list_any (λ (c : Spid). k == c.number) cs) →
    not (list_any (is_another registered own) cs)
    ≡ is_last_wait (waits_content registered waits) (wait_for d own.number)
last-is registered waits own d cs wait =
    ap not (sym
    (any-seen (λ k. not (k == own.number) && is_some (get registered k))
    (is_another registered own) (λ c. refl) cs))
    ∙ sym (alone own.number (λ k. is_some (get waits (wait_for d k)))
    (λ k. is_some (get registered k)) (keys registered) (map spid_of cs) (among_keys registered)
    (λ k. wait k ∙ among-seen k cs))
