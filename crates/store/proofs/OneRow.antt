-- The row of a broadcast with one carrier more or less.
use Rattle.std.proofs.Common.{◌≡◌, ℕ, Bool, true, false, cond, List, [], ◌∷◌, ◌++◌, map, Some, None, refl, ap, sym, ◌∙◌, ◌||◌, arith}
use Rattle.std.specs.Prelude.{◌==◌, not, filter}
use Rattle.std.specs.List.{list_any}
use Rattle.std.proofs.lemmas.Bool.Decides.{nat_tests}
use Rattle.numbers.specs.Subjects.{Subject}
use Rattle.numbers.specs.declared.spid.Spid.{Spid}
use Rattle.settle.specs.Abstraction.{spid_of}
use Rattle.store.specs.WaitRows.{IsAdded, IsWithout}
use Rattle.numbers.proofs.Small.{or_swapped}

pub any-seen : (c : ℕ) (ks : List Spid) → list_any (λ k. c == k) (map spid_of ks)
    ≡ list_any (λ (k : Spid). c == k.number) ks
any-seen c [] = refl
any-seen c (k ∷ ks) = ap (λ b. (c == k.number) || b) (any-seen c ks)

-- One carrier more at the end.
any-more : (c d : ℕ) (ks : List Spid) (k : Spid) → k.number ≡ d
    → list_any (λ x. c == x) (map spid_of (ks ++ k ∷ []))
    ≡ ((c == d) || list_any (λ x. c == x) (map spid_of ks))
any-more c d [] k e = ap (λ n. (c == n) || false) e
any-more c d (x ∷ ks) k e = ap (λ b. (c == x.number) || b) (any-more c d ks k e)
    ∙ or_swapped (c == x.number) (c == d) (list_any (λ y. c == y) (map spid_of ks))

pub added : (s : Subject) (d : ℕ) (ks : List Spid) (k : Spid) (old : Subject) → k.number ≡ d
    → old ≡ s → IsAdded d s (old, map spid_of ks) (old, map spid_of (ks ++ k ∷ []))
added s d ks k old e same = record {
  subject = same;
  same = same;
  each = λ c. ap (λ b. cond b (Some old) None) (any-more c d ks k e)
      ∙ by_cases (c == d) (list_any (λ x. c == x) (map spid_of ks));
}
  where
    by_cases : (a b : Bool)
        → cond (a || b) (Some old) None ≡ cond a (Some s) (cond b (Some old) None)
    by_cases true b = ap (λ x. Some x) same
    by_cases false b = refl

differs : (c d n : ℕ) → (c == d) ≡ true → (d == n) ≡ true → (c == n) ≡ true
differs c d n p q = grind (arith, nat_tests)

equals : (c d n : ℕ) → (c == d) ≡ true → (d == n) ≡ false → (c == n) ≡ false
equals c d n p q = grind (arith, nat_tests)

other : (c d n : ℕ) → (c == d) ≡ false → (d == n) ≡ true → (c == n) ≡ false
other c d n p q = grind (arith, nat_tests)

-- All carriers with one number removed.
any-less : (c d : ℕ) (ks : List Spid)
    → list_any (λ x. c == x) (map spid_of (filter (λ (k : Spid). not (d == k.number)) ks))
    ≡ cond (c == d) false (list_any (λ x. c == x) (map spid_of ks))
any-less c d [] = by_cases (c == d)
  where
    by_cases : (b : Bool) → false ≡ cond b false false
    by_cases true = refl
    by_cases false = refl
any-less c d (k ∷ ks) = by_cases (d == k.number) refl (c == d) refl (any-less c d ks)
  where
    rest : List ℕ
    rest = map spid_of (filter (λ (x : Spid). not (d == x.number)) ks)

    by_cases : (a : Bool) → (d == k.number) ≡ a → (b : Bool) → (c == d) ≡ b
        → list_any (λ x. c == x) rest ≡ cond b false (list_any (λ x. c == x) (map spid_of ks)) →
        list_any (λ x. c == x)
        (map spid_of (cond (not a) (k ∷ filter (λ (x : Spid). not (d == x.number)) ks)
        (filter (λ (x : Spid). not (d == x.number)) ks))) ≡ cond b false
        ((c == k.number) || list_any (λ x. c == x) (map spid_of ks))
    by_cases true p true q later = later
    by_cases true p false q later =
        later ∙ ap (λ b. b || list_any (λ x. c == x) (map spid_of ks))
        (sym (other c d k.number q p))
    by_cases false p true q later =
        ap (λ b. b || list_any (λ x. c == x) rest) (equals c d k.number q p)
        ∙ later
    by_cases false p false q later = ap (λ b. (c == k.number) || b) later

pub without : (d : ℕ) (ks rest : List Spid) (s : Subject)
    → rest ≡ filter (λ (k : Spid). not (d == k.number)) ks
    → IsWithout d (s, map spid_of ks) (s, map spid_of rest)
without d ks rest s e = record {
  same = refl;
  each = λ c. ap (λ xs. cond (list_any (λ x. c == x) (map spid_of xs)) (Some s) None) e
      ∙ ap (λ b. cond b (Some s) None) (any-less c d ks)
      ∙ by_cases (c == d) (list_any (λ x. c == x) (map spid_of ks));
}
  where
    by_cases : (a b : Bool)
        → cond (cond a false b) (Some s) None ≡ cond a None (cond b (Some s) None)
    by_cases true b = refl
    by_cases false b = refl
