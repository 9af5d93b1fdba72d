-- Empty lines: the code's test, and the grammar.
use Rattle.std.proofs.Common.{◌≡◌, ℕ, List, [], ◌∷◌, Bool, true, false, not, ◌&&◌, cond, refl, ap, ◌∙◌}
use Rattle.std.proofs.lemmas.Bool.{eqb-true}
use Rattle.std.specs.Prelude.{◌==◌}
use Rattle.httparse.specs.Grammar.{LineEnd, lf, crlf, print_blank}
use Rattle.http_messages.specs.Blank.{blank_after, is_blank}
use Rattle.http_messages.specs.Head.{IsBlank, IsEmptyLines}

lines_are_blank : (ends : List LineEnd) → blank_after false (print_blank ends) ≡ true
lines_are_blank [] = refl
lines_are_blank (lf ∷ ends) = lines_are_blank ends
lines_are_blank (crlf ∷ ends) = lines_are_blank ends

-- Holds if the bytes are empty lines, after a CR if the flag is true.
abbrev AreLines : Bool → List ℕ → Type 0
AreLines true s = IsEmptyLines (13 ∷ s)
AreLines false s = IsEmptyLines s

after_lf : (cr : Bool) (b : ℕ) (s : List ℕ) → b ≡ 10 → IsEmptyLines s → AreLines cr (b ∷ s)
after_lf true b s e h = (
  crlf ∷ h.0,
  ap (λ (t : List ℕ). 13 ∷ t) (ap (λ x. x ∷ s) e ∙ ap (λ (t : List ℕ). 10 ∷ t) h.1),
)
after_lf false b s e h = (lf ∷ h.0, ap (λ x. x ∷ s) e ∙ ap (λ (t : List ℕ). 10 ∷ t) h.1)

after_cr : (cr : Bool) (b : ℕ) (s : List ℕ) → b ≡ 13 → (blank_after true s ≡ true → AreLines true s)
    → (not cr && blank_after true s) ≡ true → AreLines cr (b ∷ s)
after_cr true b s e ih h = cc
after_cr false b s e ih h = let lines = ih h in (lines.0, ap (λ x. x ∷ s) e ∙ lines.1)

lines_by : (cr : Bool) (b : ℕ) (s : List ℕ) (is_lf is_cr : Bool) → (b == 10) ≡ is_lf
    → (b == 13) ≡ is_cr
    → (blank_after false s ≡ true → AreLines false s)
    → (blank_after true s ≡ true → AreLines true s)
    → cond is_lf (blank_after false s) (cond is_cr (not cr && blank_after true s) false) ≡ true
    → AreLines cr (b ∷ s)
lines_by cr b s true is_cr e f ih jh h = after_lf cr b s (eqb-true b 10 e) (ih h)
lines_by cr b s false true e f ih jh h = after_cr cr b s (eqb-true b 13 f) jh h
lines_by cr b s false false e f ih jh h = cc

pub lines : (cr : Bool) (s : List ℕ) → blank_after cr s ≡ true → AreLines cr s
lines true [] h = cc
lines false [] h = ([], refl)
lines cr (b ∷ s) h = lines_by cr b s (b == 10) (b == 13) refl refl (lines false s) (lines true s) h

pub not_lines : (bytes : List ℕ) → is_blank bytes ≡ false → ¬ (IsBlank bytes)
not_lines bytes e blank = let is = lines_are_blank blank.0.0 in let h : is_blank bytes ≡ true =
    ap (blank_after false) blank.0.1 ∙ is in cc
