-- A text that is read is a tel URI.
use Rattle.std.proofs.Common.{◌≡◌, ℕ, ◌≤◌, Bool, true, false, cond, ◌==◌, List, [], ◌∷◌, ◌++◌, length, Option, Some, None, option_map, refl, ap, sym, ◌∙◌, arith, codes, append-nil, subst}
use Rattle.std.specs.Prelude.{nat_lt}
use Rattle.std.specs.List.{onto_first, list_all}
use Rattle.std.proofs.lemmas.Bool.Decides.{nat_tests}
use Rattle.std.proofs.lemmas.Slice.Eq.{bytes_eq-Decides}
use Rattle.telnp.specs.Grammar.{cut, is_global, is_local, is_parameter, has_repetition, same_name, lower}
use Rattle.telnp.specs.Faults.{parts, fault_in_rest, fault_in_number, fault_in_parts, first_fault, after_tel, rest_of, number_of, parameter_parts, IsRead}
use Rattle.telnp.specs.declared.fault.TelFault.{TelFault}
use Rattle.telnp.specs.declared.fault.TelFault.TheVariants.{TooLong, LocalNumber, BadNumber, BadParameter, ParameterTwice}
use Rattle.telnp.specs.Uri.{IsTelUri, written}
use Rattle.telnp.proofs.Cuts.{Cut}

abbrev pub IsCut : ℕ → List ℕ → Option Cut → Type 0
IsCut mark bs None = Unit {0}
IsCut mark bs (Some p) = bs ≡ p.0 ++ mark ∷ p.1

at_head : (mark b : ℕ) (bs : List ℕ) (test : Bool) (found : Option Cut) → (b == mark) ≡ test
    → IsCut mark bs found
    → IsCut mark (b ∷ bs) (cond test (Some ([], bs)) (option_map (λ (p : Cut). (b ∷ p.0, p.1))
    found))
at_head mark b bs true found e h = let same : b ≡ mark = grind (arith, nat_tests) in
    ap (λ x. x ∷ bs) same
at_head mark b bs false None e h = tt
at_head mark b bs false (Some p) e h = ap (λ (t : List ℕ). b ∷ t) h

pub cut-whole : (mark : ℕ) (bs : List ℕ) → IsCut mark bs (cut mark bs)
cut-whole mark [] = tt
cut-whole mark (b ∷ bs) = at_head mark b bs (b == mark) (cut mark bs) refl (cut-whole mark bs)

onto : (b : ℕ) (bs : List ℕ) (ps : List (List ℕ)) → written ps ≡ 59 ∷ bs
    → written (onto_first b ps) ≡ 59 ∷ b ∷ bs
onto b bs [] h = cc
onto b bs (q ∷ qs) h = let same : q ++ written qs ≡ bs = cc in ap (λ (t : List ℕ). 59 ∷ b ∷ t) same

at_byte : (b : ℕ) (bs : List ℕ) (test : Bool) → (b == 59) ≡ test → written (parts 59 bs) ≡ 59 ∷ bs
    → written (cond test ([] ∷ parts 59 bs) (onto_first b (parts 59 bs))) ≡ 59 ∷ b ∷ bs
at_byte b bs true e h = let same : 59 ≡ b = grind (arith, nat_tests) in
    ap (λ (t : List ℕ). 59 ∷ t) (h ∙ ap (λ x. x ∷ bs) same)
at_byte b bs false e h = onto b bs (parts 59 bs) h

pub written-parts : (bs : List ℕ) → written (parts 59 bs) ≡ 59 ∷ bs
written-parts [] = refl
written-parts (b ∷ bs) = at_byte b bs (b == 59) refl (written-parts bs)

-- The rest after `tel:` is its number part and its parameters.
pub rest_whole : (rest : List ℕ) (found : Option Cut) → cut 59 rest ≡ found
    → rest ≡ number_of rest ++ written (parameter_parts rest)
rest_whole rest None e = rw (e) (sym (append-nil rest))
rest_whole rest (Some p) e =
    let whole : IsCut 59 rest (Some p) = subst (IsCut 59 rest) e (cut-whole 59 rest) in
    rw (e, written-parts p.1) whole

unchosen : {A : Type 0} (b : Bool) (f : A) (o : Option A) → cond b (Some f) o ≡ None → (b ≡ false)
    × (o ≡ None)
unchosen true f o e = cc
unchosen false f o e = (refl, e)

chosen_none : {A : Type 0} (b : Bool) (o : Option A) (f : A) → cond b o (Some f) ≡ None
    → (b ≡ true) × (o ≡ None)
chosen_none true o f e = (refl, e)
chosen_none false o f e = cc

one_of_none : (b : Bool) (f g : TelFault) → cond b (Some f) (Some g) ≡ None → Some f ≡ None
one_of_none true f g e = e
one_of_none false f g e = cc

both_none : (a b : Option TelFault) → first_fault a b ≡ None → (a ≡ None) × (b ≡ None)
both_none None b e = (refl, e)
both_none (Some f) b e = cc

global_from : (number : List ℕ) → fault_in_number number ≡ None → is_global number ≡ true
global_from number e = (chosen_global (is_global number) (is_local number) e)
  where
    chosen_global : (b c : Bool) → cond b None (cond c (Some LocalNumber) (Some BadNumber)) ≡ None
        → b ≡ true
    chosen_global true c e = refl
    chosen_global false c e = let h = one_of_none c LocalNumber BadNumber e in cc

parts_from : (ps : List (List ℕ)) → fault_in_parts ps ≡ None → (list_all is_parameter ps ≡ true)
    × (has_repetition ps ≡ false)
parts_from ps e =
    let h = chosen_none (list_all is_parameter ps) (cond (has_repetition ps) (Some ParameterTwice)
    None)
    BadParameter e in
    (h.0, (unchosen (has_repetition ps) ParameterTwice None h.1).0)

pub tel_scheme : (text rest : List ℕ) (found : Option Cut) → cut 58 text ≡ found
    → after_tel found ≡ Some rest
    → (scheme : List ℕ) × (text ≡ scheme ++ 58 ∷ rest) × (lower scheme ≡ codes "tel")
tel_scheme text rest None e h = cc
tel_scheme text rest (Some p) e h =
    let whole : IsCut 58 text (Some p) = subst (IsCut 58 text) e (cut-whole 58 text) in
    at_test (same_name p.0 (codes "tel")) refl h whole
  where
    at_test : (b : Bool) → same_name p.0 (codes "tel") ≡ b → cond b (Some p.1) None ≡ Some rest
        → text ≡ p.0 ++ 58 ∷ p.1
        → (scheme : List ℕ) × (text ≡ scheme ++ 58 ∷ rest) × (lower scheme ≡ codes "tel")
    at_test true same h whole = let r : p.1 ≡ rest = cc in (
      p.0,
      rw (← r) whole,
      (bytes_eq-Decides (lower p.0) (lower (codes "tel"))).0 same,
    )
    at_test false same h whole = cc

from_rest : (text : List ℕ) (o : Option (List ℕ)) → rest_of text ≡ o → fault_in_rest o ≡ None
    → length text ≤ 2048
    → (number : List ℕ) (ps : List (List ℕ)) → option_map number_of o ≡ Some number
    → option_map parameter_parts o ≡ Some ps → IsTelUri text number ps
from_rest text None e none short number ps n p = cc
from_rest text (Some rest) e none short number ps n p =
    let (scheme, whole, tel) = tel_scheme text rest (cut 58 text) refl e in
    let h = both_none (fault_in_number (number_of rest)) (fault_in_parts (parameter_parts rest))
    none in
    let same_number : number_of rest ≡ number = cc in
    let same_parts : parameter_parts rest ≡ ps = cc in
    let q = parts_from (parameter_parts rest) h.1 in
    record {
      scheme = scheme;
      whole = rw (← same_number, ← same_parts) (whole ∙ ap (λ (t : List ℕ). scheme ++ 58 ∷ t)
          (rest_whole rest (cut 59 rest) refl));
      scheme_is = tel;
      short = short;
      number_is = rw (← same_number) (global_from (number_of rest) h.0);
      parameters_are = rw (← same_parts) q.0;
      once = rw (← same_parts) q.1;
    }

pub uri_from_read : (text number : List ℕ) (ps : List (List ℕ)) → IsRead text number ps
    → IsTelUri text number ps
uri_from_read text number ps r =
    let h = unchosen (nat_lt 2048 (length text)) TooLong (fault_in_rest (rest_of text))
    r.none_holds in
    let short : length text ≤ 2048 = grind (arith, nat_tests, h.0) in
    from_rest text (rest_of text) refl h.1 short number ps r.number_is r.parameters_are
