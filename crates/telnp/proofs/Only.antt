-- A tel URI of the grammar is read, with its parts.
use Rattle.std.proofs.Common.{◌≡◌, ℕ, zero, suc, ◌<◌, Bool, true, false, not, cond, ◌==◌, ◌&&◌, ◌||◌, List, [], ◌∷◌, ◌++◌, length, get_or, Option, Some, None, refl, ap, sym, ◌∙◌, arith, codes, append-nil, subst}
use Rattle.std.specs.Prelude.{nat_lt}
use Rattle.std.specs.List.{list_all}
use Rattle.std.specs.Char.{to_ascii_lowercase}
use Rattle.std.specs.Option.{option_map_or}
use Rattle.std.proofs.lemmas.Bool.{and_parts, false≢true}
use Rattle.std.proofs.lemmas.Bool.Decides.{nat_tests}
use Rattle.telnp.specs.Bytes.{is_digit, is_separator, is_name_byte}
use Rattle.telnp.specs.Grammar.{cut, is_global, is_parameter, is_name, is_value, is_value_rest, wanted_after, is_valued, parameter_from, same_name, lower}
use Rattle.telnp.specs.Faults.{parts, rest_of, number_of, parameter_parts}
use Rattle.telnp.specs.Uri.{written}
use Rattle.telnp.specs.Laws.{TelUrisAreRead}
use Rattle.telnp.proofs.Cuts.{Cut, cut-none, cut-found}
use Rattle.telnp.proofs.Wholes.{IsCut, cut-whole}
use Rattle.numbers.proofs.Small.{true_both}

-- Whether the byte differs from the mark.
abbrev pub Other : ℕ → ℕ → Bool
Other mark b = not (b == mark)

abbrev pub Lacks : ℕ → List ℕ → Type 0
Lacks mark bs = list_all (Other mark) bs ≡ true

lacks_places : (mark : ℕ) (bs : List ℕ) → Lacks mark bs → (i : ℕ) → i < length bs
    → get_or bs i 0 ≡ mark → ⊥
lacks_places mark [] h i lt e = absurd (omega arith)
lacks_places mark (b ∷ bs) h zero lt e = let (here, more) =
    and_parts (Other mark b) (list_all (Other mark) bs) h in grind (arith, nat_tests)
lacks_places mark (b ∷ bs) h (suc i) lt e = let (here, more) =
    and_parts (Other mark b) (list_all (Other mark) bs) h in
    lacks_places mark bs more i (omega arith) e

-- A test that the mark fails excludes the mark.
other : (P : ℕ → Bool) (mark b : ℕ) → P mark ≡ false → P b ≡ true → Other mark b ≡ true
other P mark b skips passes = at_test (b == mark) refl
  where
    at_test : (t : Bool) → (b == mark) ≡ t → not t ≡ true
    at_test true e = let same : b ≡ mark = grind (arith, nat_tests) in
        absurd (false≢true (sym skips ∙ ap P (sym same) ∙ passes))
    at_test false e = refl

lacks_all : (P : ℕ → Bool) (mark : ℕ) → P mark ≡ false → (bs : List ℕ) → list_all P bs ≡ true
    → Lacks mark bs
lacks_all P mark skips [] h = refl
lacks_all P mark skips (b ∷ bs) h =
    let (here, more) = and_parts (P b) (list_all P bs) h in
    true_both _ _ (other P mark b skips here) (lacks_all P mark skips bs more)

lacks_append : (mark : ℕ) (xs ys : List ℕ) → Lacks mark xs → Lacks mark ys → Lacks mark (xs ++ ys)
lacks_append mark [] ys a b = b
lacks_append mark (x ∷ xs) ys a b =
    let (here, more) = and_parts (Other mark x) (list_all (Other mark) xs) a in
    true_both _ _ here (lacks_append mark xs ys more b)

-- A global number has no `;`.
pub lacks_global : (number : List ℕ) → is_global number ≡ true → Lacks 59 number
lacks_global [] h = refl
lacks_global (b ∷ bs) h =
    let (front, digits) = and_parts ((b == 43) && list_all (λ d. is_digit d || is_separator d) bs) _
    h in
    let (plus, all) = and_parts (b == 43) _ front in
    true_both _ _ (other (λ c. c == 43) 59 b refl plus)
    (lacks_all (λ d. is_digit d || is_separator d) 59 refl bs all)

-- A text without `;` is its only part.
parts_of_one : (bs : List ℕ) → Lacks 59 bs → parts 59 bs ≡ bs ∷ []
parts_of_one [] h = refl
parts_of_one (b ∷ bs) h =
    let (here, more) = and_parts (Other 59 b) (list_all (Other 59) bs) h in
    let other_byte : (b == 59) ≡ false = grind (arith, nat_tests) in
    rw (other_byte, parts_of_one bs more)

parts_of_more : (bs rest : List ℕ) → Lacks 59 bs → parts 59 (bs ++ 59 ∷ rest) ≡ bs ∷ parts 59 rest
parts_of_more [] rest h = refl
parts_of_more (b ∷ bs) rest h =
    let (here, more) = and_parts (Other 59 b) (list_all (Other 59) bs) h in
    let other_byte : (b == 59) ≡ false = grind (arith, nat_tests) in
    rw (other_byte, parts_of_more bs rest more)

abbrev pub EachLacks : List (List ℕ) → Bool
EachLacks ps = list_all (list_all (Other 59)) ps

parts_of_written : (p : List ℕ) (ps : List (List ℕ)) → EachLacks (p ∷ ps) ≡ true
    → parts 59 (p ++ written ps) ≡ p ∷ ps
parts_of_written p [] h = let (here, more) = and_parts (list_all (Other 59) p) (EachLacks []) h in
    rw (append-nil p) (parts_of_one p here)
parts_of_written p (q ∷ ps) h =
    let (here, more) = and_parts (list_all (Other 59) p) (EachLacks (q ∷ ps)) h in
    parts_of_more p (q ++ written ps) here ∙ ap (λ (t : List (List ℕ)). p ∷ t)
    (parts_of_written q ps more)

-- If both branches are `None`, so is the choice.
either_none : (b : Bool) (o : Option ℕ) → o ≡ None → cond b o o ≡ None
either_none true o e = e
either_none false o e = e

none_at_mark : (wanted : ℕ) → wanted_after wanted 59 ≡ None
none_at_mark wanted = either_none (nat_lt 0 wanted) None refl

some_at : (wanted b next : ℕ) → wanted_after wanted b ≡ Some next → Other 59 b ≡ true
some_at wanted b next e = at_test (b == 59) refl
  where
    at_test : (t : Bool) → (b == 59) ≡ t → not t ≡ true
    at_test true is = let same : b ≡ 59 = grind (arith, nat_tests) in let h =
        sym (none_at_mark wanted) ∙ ap (wanted_after wanted) (sym same) ∙ e in cc h
    at_test false is = refl

lacks_value : (wanted : ℕ) (bs : List ℕ) → is_value_rest wanted bs ≡ true → Lacks 59 bs
lacks_value wanted [] h = refl
lacks_value wanted (b ∷ bs) h =
    at_next (wanted_after wanted b) refl h (λ next k. lacks_value next bs k)
  where
    at_next : (o : Option ℕ) → wanted_after wanted b ≡ o
        → option_map_or (λ next. is_value_rest next bs) o false ≡ true
        → ((next : ℕ) → is_value_rest next bs ≡ true → Lacks 59 bs) → Lacks 59 (b ∷ bs)
    at_next None e k by_cases = absurd (false≢true k)
    at_next (Some next) e k by_cases = true_both _ _ (some_at wanted b next e) (by_cases next k)

-- Holds if the name and the value of a part have the form of a parameter.
abbrev Formed : List ℕ → Option Cut → Type 0
Formed part found =
    (is_name (parameter_from part found).name && is_valued (parameter_from part found).name
    (parameter_from part found).value) ≡ true

lacks_part : (part : List ℕ) (found : Option Cut) → cut 61 part ≡ found → is_parameter part ≡ true
    → Lacks 59 part
lacks_part part None e h =
    let k = subst (Formed part) e h in
    let (name, valued) = and_parts (is_name part) (is_valued part None) k in
    let (some, all) = and_parts (not (length part == 0)) (list_all is_name_byte part) name in
    lacks_all is_name_byte 59 refl part all
lacks_part part (Some p) e h =
    let k = subst (Formed part) e h in
    let (name, valued) = and_parts (is_name p.0) (is_valued p.0 (Some p.1)) k in
    let (some, all) = and_parts (not (length p.0 == 0)) (list_all is_name_byte p.0) name in
    let (value, other_name) =
    and_parts (is_value p.1) (not (same_name p.0 (codes "npdi"))) valued in
    let (long, rest) = and_parts (not (length p.1 == 0)) (is_value_rest 0 p.1) value in
    let whole : IsCut 61 part (Some p) = subst (IsCut 61 part) e (cut-whole 61 part) in
    let lacks : Lacks 59 (p.0 ++ 61 ∷ p.1) =
    lacks_append 59 p.0 (61 ∷ p.1) (lacks_all is_name_byte 59 refl p.0 all)
    (lacks_value 0 p.1 rest) in
    subst (Lacks 59) (sym whole) lacks

each_lacks : (ps : List (List ℕ)) → list_all is_parameter ps ≡ true → EachLacks ps ≡ true
each_lacks [] h = refl
each_lacks (p ∷ ps) h =
    let (here, more) = and_parts (is_parameter p) (list_all is_parameter ps) h in
    true_both _ _ (lacks_part p (cut 61 p) refl here) (each_lacks ps more)

-- A text whose lower case has no `:` has none itself.
lacks_lower : (bs : List ℕ) → Lacks 58 (lower bs) → Lacks 58 bs
lacks_lower [] h = refl
lacks_lower (b ∷ bs) h =
    let (here, more) = and_parts (Other 58 (to_ascii_lowercase b)) (list_all (Other 58) (lower bs))
    h in
    true_both _ _ (other (λ c. Other 58 (to_ascii_lowercase c)) 58 b refl here)
    (lacks_lower bs more)

pub scheme_cut : (scheme rest : List ℕ) → lower scheme ≡ codes "tel"
    → rest_of (scheme ++ 58 ∷ rest) ≡ Some rest
scheme_cut scheme rest tel =
    let lacks : Lacks 58 (lower scheme) = rw tel refl in
    let found = cut-found 58 scheme rest (lacks_places 58 scheme (lacks_lower scheme lacks)) in
    rw (found, tel) refl

-- The number part and the parameters of a written rest are those written.
pub rest_cut : (number : List ℕ) (ps : List (List ℕ)) → Lacks 59 number → EachLacks ps ≡ true
    → (number_of (number ++ written ps) ≡ number) × (parameter_parts (number ++ written ps) ≡ ps)
rest_cut number [] h each =
    let found : cut 59 (number ++ []) ≡ None =
    rw (append-nil number) (cut-none 59 number (lacks_places 59 number h)) in
    (rw (found, append-nil number) refl, rw found refl)
rest_cut number (p ∷ ps) h each =
    let found : cut 59 (number ++ 59 ∷ (p ++ written ps)) ≡ Some (number, p ++ written ps) =
    cut-found 59 number (p ++ written ps) (lacks_places 59 number h) in
    (rw found refl, rw found (parts_of_written p ps each))

pub read_from_uri : TelUrisAreRead
read_from_uri text number ps u =
    let rest : rest_of text ≡ Some (number ++ written ps) =
    rw u.whole (scheme_cut u.scheme (number ++ written ps) u.scheme_is) in
    let both = rest_cut number ps (lacks_global number u.number_is)
    (each_lacks ps u.parameters_are) in
    let small : nat_lt 2048 (length text) ≡ false = let h = u.short in grind (arith, nat_tests) in
    record {
      none_holds = rw (small, rest, both.0, both.1, u.number_is, u.parameters_are, u.once) refl;
      number_is = rw (rest, both.0) refl;
      parameters_are = rw (rest, both.1) refl;
    }
