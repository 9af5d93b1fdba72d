-- Cutting a text at a mark.
use Rattle.std.proofs.Common.{◌≡◌, ℕ, suc, ◌<◌, Bool, true, false, cond, ◌==◌, List, [], ◌∷◌, ◌++◌, length, get_or, Option, Some, None, option_map, Bor, refl, sym, arith}
use Rattle.std.specs.Option.{MatchOption}
use Rattle.std.proofs.lemmas.Bool.Decides.{nat_tests}
use Rattle.std.specs.List.{onto_first}
use Rattle.telnp.specs.Grammar.{cut}
use Rattle.telnp.specs.Faults.{parts}
use Rattle.numbers.proofs.Small.{same_number}

-- Holds if none of the bytes is the mark.
abbrev Lacks : ℕ → List ℕ → Type 0
Lacks mark bs = (i : ℕ) → i < length bs → get_or bs i 0 ≡ mark → ⊥

lacks_head : (mark b : ℕ) (bs : List ℕ) → Lacks mark (b ∷ bs) → (b == mark) ≡ false
lacks_head mark b bs h = let ne : b ≡ mark → ⊥ = h 0 (omega arith) in grind (arith, nat_tests)

lacks_tail : (mark b : ℕ) (bs : List ℕ) → Lacks mark (b ∷ bs) → Lacks mark bs
lacks_tail mark b bs h = λ i lt. h (suc i) (omega arith)

pub cut-none : (mark : ℕ) (bs : List ℕ) → Lacks mark bs → cut mark bs ≡ None
cut-none mark [] h = refl
cut-none mark (b ∷ bs) h = rw (lacks_head mark b bs h, cut-none mark bs (lacks_tail mark b bs h))

pub cut-found : (mark : ℕ) (front bs : List ℕ) → Lacks mark front
    → cut mark (front ++ mark ∷ bs) ≡ Some (front, bs)
cut-found mark [] bs h = rw (same_number mark)
cut-found mark (b ∷ front) bs h = rw (
  lacks_head mark b front h,
  cut-found mark front bs (lacks_tail mark b front h),
)

pub cut_once : (mark : ℕ) (bs : List ℕ) (r : Option (Bor (List ℕ) × Bor (List ℕ)))
    → MatchOption r (Lacks mark bs) (λ x. (bs ≡ x.0.now ++ (mark ∷ x.1.now)) × Lacks mark x.0.now)
    → option_map (λ p. (p.0.now, p.1.now)) r ≡ cut mark bs
cut_once mark bs None h = sym (cut-none mark bs h)
cut_once mark bs (Some x) h = rw h.0 (sym (cut-found mark x.0.now x.1.now h.1))

-- The texts before and after a mark.
abbrev pub Cut : Type 0
Cut = List ℕ × List ℕ

abbrev pub HasParts : List ℕ → List (List ℕ) → ℕ → Option Cut → Type 0
HasParts bs ps mark None = ps ≡ bs ∷ []
HasParts bs ps mark (Some p) = (ps ≡ p.0 ∷ parts mark p.1) × (length p.1 < length bs)

at_head : (mark b : ℕ) (bs : List ℕ) (test : Bool) (found : Option Cut)
    → HasParts bs (parts mark bs) mark found
    → HasParts (b ∷ bs) (cond test ([] ∷ parts mark bs) (onto_first b (parts mark bs))) mark
    (cond test (Some ([], bs)) (option_map (λ (p : Cut). (b ∷ p.0, p.1)) found))
at_head mark b bs true found h = (refl, omega arith)
at_head mark b bs false None h = rw h
at_head mark b bs false (Some p) h = (rw h.0, omega (arith, h.1))

pub parts-cut : (mark : ℕ) (bs : List ℕ) → HasParts bs (parts mark bs) mark (cut mark bs)
parts-cut mark [] = refl
parts-cut mark (b ∷ bs) = at_head mark b bs (b == mark) (cut mark bs) (parts-cut mark bs)
