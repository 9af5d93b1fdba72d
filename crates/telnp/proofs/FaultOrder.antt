-- Each fault is reported in the order of tests.
use Rattle.std.proofs.Common.{◌≡◌, ◌∙◌, sym, ap, refl, subst, ℕ, ◌<◌, ◌≤◌, Bool, true, false, not, cond, ◌==◌, List, [], ◌∷◌, ◌++◌, length, Option, Some, None, option_map, codes, arith}
use Rattle.std.specs.Prelude.{nat_lt}
use Rattle.std.specs.List.{list_all, onto_first}
use Rattle.std.proofs.lemmas.Bool.{and_parts}
use Rattle.std.proofs.lemmas.Bool.Decides.{nat_tests}
use Rattle.telnp.specs.declared.fault.TelFault.{TelFault}
use Rattle.telnp.specs.declared.fault.TelFault.TheVariants.{NotTel, BadNumber, BadParameter, ParameterTwice, LocalNumber, TooLong}
use Rattle.telnp.specs.Grammar.{cut, is_global, is_local, is_parameter, lower, has_repetition}
use Rattle.telnp.specs.Uri.{written}
use Rattle.telnp.specs.Faults.{parts, fault_of, fault_in_rest, first_fault, rest_of, number_of, parameter_parts}
use Rattle.telnp.specs.Laws.{HasFault, IsCutUp, FaultsAreInOrder}
use Rattle.telnp.proofs.Cuts.{Cut}
use Rattle.telnp.proofs.Wholes.{rest_whole, tel_scheme}
use Rattle.telnp.proofs.Only.{Other, Lacks, EachLacks, scheme_cut, rest_cut}
use Rattle.numbers.proofs.Small.{true_both}

-- Holds if the part before the mark, or the uncut text, does not have the mark.
abbrev CutLacks : ℕ → List ℕ → Option Cut → Type 0
CutLacks mark bs None = Lacks mark bs
CutLacks mark bs (Some p) = Lacks mark p.0

at_head : (mark b : ℕ) (bs : List ℕ) (test : Bool) (found : Option Cut) → (b == mark) ≡ test
    → CutLacks mark bs found
    → CutLacks mark (b ∷ bs) (cond test (Some ([], bs)) (option_map (λ (p : Cut). (b ∷ p.0, p.1))
    found))
at_head mark b bs true found e h = refl
at_head mark b bs false None e h = true_both _ _ (ap not e) h
at_head mark b bs false (Some p) e h = true_both _ _ (ap not e) h

cut_lacks : (mark : ℕ) (bs : List ℕ) → CutLacks mark bs (cut mark bs)
cut_lacks mark [] = refl
cut_lacks mark (b ∷ bs) = at_head mark b bs (b == mark) (cut mark bs) refl (cut_lacks mark bs)

onto_lacks : (b : ℕ) (ps : List (List ℕ)) → Other 59 b ≡ true → EachLacks ps ≡ true
    → EachLacks (onto_first b ps) ≡ true
onto_lacks b [] e h = true_both _ _ (true_both _ _ e refl) refl
onto_lacks b (p ∷ ps) e h =
    let (here, more) = and_parts (list_all (Other 59) p) (EachLacks ps) h in
    true_both _ _ (true_both _ _ e here) more

parts_lack : (bs : List ℕ) → EachLacks (parts 59 bs) ≡ true
parts_lack [] = refl
parts_lack (b ∷ bs) = at_test (b == 59) refl (parts_lack bs)
  where
    at_test : (t : Bool) → (b == 59) ≡ t → EachLacks (parts 59 bs) ≡ true
        → EachLacks (cond t ([] ∷ parts 59 bs) (onto_first b (parts 59 bs))) ≡ true
    at_test true e h = h
    at_test false e h = onto_lacks b (parts 59 bs) (ap not e) h

rest_lacks : (rest : List ℕ) (found : Option Cut) → cut 59 rest ≡ found → Lacks 59 (number_of rest)
    × (EachLacks (parameter_parts rest) ≡ true)
rest_lacks rest None e = let h = subst (CutLacks 59 rest) e (cut_lacks 59 rest) in
    (rw e h, rw e refl)
rest_lacks rest (Some p) e = let h = subst (CutLacks 59 rest) e (cut_lacks 59 rest) in
    (rw e h, rw e (parts_lack p.1))

cut_up : (text rest : List ℕ) → rest_of text ≡ Some rest → length text ≤ 2048
    → IsCutUp text (number_of rest) (parameter_parts rest)
cut_up text rest e short =
    let (scheme, whole, tel) = tel_scheme text rest (cut 58 text) refl e in
    let h = rest_lacks rest (cut 59 rest) refl in
    record {
      scheme = scheme;
      whole = whole ∙ ap (λ (t : List ℕ). scheme ++ 58 ∷ t) (rest_whole rest (cut 59 rest) refl);
      scheme_is = tel;
      short = short;
      number_uncut = h.0;
      parameters_uncut = h.1;
    }

-- Holds if the tests of the rest after `tel:` lead to this fault.
abbrev RestFault : List ℕ → List (List ℕ) → TelFault → Type 0
RestFault number parameters TooLong = ⊥
RestFault number parameters NotTel = ⊥
RestFault number parameters LocalNumber = (is_global number ≡ false) × (is_local number ≡ true)
RestFault number parameters BadNumber = (is_global number ≡ false) × (is_local number ≡ false)
RestFault number parameters BadParameter =
    (is_global number ≡ true) × (list_all is_parameter parameters ≡ false)
RestFault number parameters ParameterTwice =
    (is_global number ≡ true) × (list_all is_parameter parameters ≡ true)
    × (has_repetition parameters ≡ true)

abbrev Tested : Bool → Bool → Bool → Bool → Option TelFault
Tested global local formed again =
    first_fault (cond global None (cond local (Some LocalNumber) (Some BadNumber)))
    (cond formed (cond again (Some ParameterTwice) None) (Some BadParameter))

same : (f g : TelFault) → Some f ≡ Some g → f ≡ g
same f g e = cc

tested : (number : List ℕ) (ps : List (List ℕ)) (global local formed again : Bool) (f : TelFault)
    → is_global number ≡ global → is_local number ≡ local → list_all is_parameter ps ≡ formed
    → has_repetition ps ≡ again
    → Tested global local formed again ≡ Some f → RestFault number ps f
tested number ps false true formed again f g l p r e =
    subst (RestFault number ps) (same LocalNumber f e) (g, l)
tested number ps false false formed again f g l p r e =
    subst (RestFault number ps) (same BadNumber f e) (g, l)
tested number ps true local false again f g l p r e =
    subst (RestFault number ps) (same BadParameter f e) (g, p)
tested number ps true local true true f g l p r e =
    subst (RestFault number ps) (same ParameterTwice f e) (g, p, r)
tested number ps true local true false f g l p r e = cc

placed_fault : (text number : List ℕ) (ps : List (List ℕ)) (f : TelFault) → IsCutUp text number ps
    → RestFault number ps f → HasFault f text
placed_fault text number ps TooLong cuts h = absurd h
placed_fault text number ps NotTel cuts h = absurd h
placed_fault text number ps LocalNumber cuts h = (number, ps, cuts, h)
placed_fault text number ps BadNumber cuts h = (number, ps, cuts, h)
placed_fault text number ps BadParameter cuts h = (number, ps, cuts, h)
placed_fault text number ps ParameterTwice cuts h = (number, ps, cuts, h)

from_rest : (text : List ℕ) (o : Option (List ℕ)) (f : TelFault) → rest_of text ≡ o
    → length text ≤ 2048 → fault_in_rest o ≡ Some f → HasFault f text
from_rest text None f e short h =
    let none_begins : (scheme rest : List ℕ) → text ≡ scheme ++ 58 ∷ rest
    → lower scheme ≡ codes "tel" → ⊥ =
    λ scheme rest whole tel. let found = scheme_cut scheme rest tel in
    let clash : Some rest ≡ None = sym found ∙ ap rest_of (sym whole) ∙ e in cc in
    subst (λ g. HasFault g text) (same NotTel f h) (short, none_begins)
from_rest text (Some rest) f e short h =
    placed_fault text (number_of rest) (parameter_parts rest) f (cut_up text rest e short)
    (tested (number_of rest) (parameter_parts rest) _ _ _ _ f refl refl refl refl h)

from_fault : (text : List ℕ) (f : TelFault) (long : Bool) → nat_lt 2048 (length text) ≡ long
    → cond long (Some TooLong) (fault_in_rest (rest_of text)) ≡ Some f → HasFault f text
from_fault text f true e h = let long : 2048 < length text = grind (arith, nat_tests) in
    subst (λ g. HasFault g text) (same TooLong f h) long
from_fault text f false e h = let short : length text ≤ 2048 = grind (arith, nat_tests) in
    from_rest text (rest_of text) f refl short h

-- A cut text has the fault that its parts lead to.
rest_is : (text number : List ℕ) (ps : List (List ℕ)) → IsCutUp text number ps
    → fault_of text ≡ Tested (is_global number) (is_local number) (list_all is_parameter ps)
    (has_repetition ps)
rest_is text number ps u =
    let rest : rest_of text ≡ Some (number ++ written ps) =
    rw u.whole (scheme_cut u.scheme (number ++ written ps) u.scheme_is) in
    let both = rest_cut number ps u.number_uncut u.parameters_uncut in
    let small : nat_lt 2048 (length text) ≡ false = let h = u.short in grind (arith, nat_tests) in
    rw (small, rest, both.0, both.1) refl

no_rest : (text : List ℕ) (o : Option (List ℕ)) → rest_of text ≡ o
    → ((scheme rest : List ℕ) → text ≡ scheme ++ 58 ∷ rest → lower scheme ≡ codes "tel" → ⊥)
    → fault_in_rest o ≡ Some NotTel
no_rest text None e h = refl
no_rest text (Some rest) e h = let (scheme, whole, tel) =
    tel_scheme text rest (cut 58 text) refl e in absurd (h scheme rest whole tel)

to_fault : (text : List ℕ) (f : TelFault) → HasFault f text → fault_of text ≡ Some f
to_fault text TooLong h = let long : nat_lt 2048 (length text) ≡ true = grind (arith, nat_tests) in
    rw long refl
to_fault text NotTel h =
    let short = h.0 in
    let small : nat_lt 2048 (length text) ≡ false = grind (arith, nat_tests) in
    rw small (no_rest text (rest_of text) refl h.1)
to_fault text LocalNumber h = let (number, ps, cuts, t) = h in
    rest_is text number ps cuts ∙ rw (t.0, t.1) refl
to_fault text BadNumber h = let (number, ps, cuts, t) = h in
    rest_is text number ps cuts ∙ rw (t.0, t.1) refl
to_fault text BadParameter h = let (number, ps, cuts, t) = h in
    rest_is text number ps cuts ∙ rw (t.0, t.1) refl
to_fault text ParameterTwice h = let (number, ps, cuts, t) = h in
    rest_is text number ps cuts ∙ rw (t.0, t.1, t.2) refl

pub faults_in_order : FaultsAreInOrder
faults_in_order text f = (from_fault text f (nat_lt 2048 (length text)) refl, to_fault text f)
