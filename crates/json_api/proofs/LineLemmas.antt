-- The texts of lines, one after another.
use Rattle.std.proofs.Common.{◌≡◌, ℕ, zero, suc, ◌<◌, ◌+◌, List, [], ◌∷◌, ◌++◌, length, take, get_or, ap, sym, subst, ◌∙◌, arith}
use Rattle.std.proofs.lemmas.List.{take_more}
use Rattle.numbers.specs.declared.line.Line.{Line}
use Rattle.serde_json.specs.declared.value.Value.{Value}
use Rattle.serde_json.specs.View.{view, items_view}
use Rattle.pool.specs.Donations.{lines_of}
use Rattle.json_api.specs.Forms.{IsLineText, AreLineTexts}

one_more : (xs : List Value) (ls : List Line) (x : Value) (l : Line)
    → AreLineTexts (items_view xs) (lines_of ls) → IsLineText (view x) l.number
    → AreLineTexts (items_view (xs ++ x ∷ [])) (lines_of (ls ++ l ∷ []))
one_more [] [] x l are is = (is, tt)
one_more [] (m ∷ ms) x l are is = absurd are
one_more (y ∷ ys) [] x l are is = absurd are
one_more (y ∷ ys) (m ∷ ms) x l are is = (are.0, one_more ys ms x l are.1 is)

-- The next value is the text of the next line.
pub next_line : (xs : List Value) (i : ℕ) (x : Value) (old new : List Line) (l : Line)
    → i < length xs → x ≡ get_or xs i x → new ≡ old ++ l ∷ []
    → AreLineTexts (items_view (take i xs)) (lines_of old) → IsLineText (view x) l.number
    → AreLineTexts (items_view (take (i + 1) xs)) (lines_of new)
next_line xs i x old new l within item is are here =
    let listed : take i xs ++ x ∷ [] ≡ take (i + 1) xs =
    ap (λ (y : Value). take i xs ++ y ∷ []) item ∙ sym (take_more xs i x within) in
    subst (λ (ls : List Line). AreLineTexts (items_view (take (i + 1) xs)) (lines_of ls)) (sym is)
    (subst (λ (ys : List Value). AreLineTexts (items_view ys) (lines_of (old ++ l ∷ []))) listed
    (one_more (take i xs) old x l are here))

-- A value is not the text of a line.
pub no_line : (xs : List Value) (i : ℕ) (x : Value) → i < length xs → x ≡ get_or xs i x
    → ((n : ℕ) → ¬ (IsLineText (view x) n)) → (lines : List ℕ)
    → ¬ (AreLineTexts (items_view xs) lines)
no_line [] i x within item none lines are = let no : ⊥ = omega (arith, within) in no
no_line (y ∷ ys) i x within item none [] are = are
no_line (y ∷ ys) zero x within item none (l ∷ ls) are =
    none l (subst (λ (v : Value). IsLineText (view v) l) (sym item) are.0)
no_line (y ∷ ys) (suc i) x within item none (l ∷ ls) are =
    no_line ys i x (omega (arith, within)) item none ls are.1
