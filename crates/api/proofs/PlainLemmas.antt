-- No byte of a `tel` URI has to be escaped in JSON.
use Rattle.std.proofs.Common.{◌≡◌, ℕ, zero, suc, ◌+◌, ◌-◌, ◌/◌, ◌%◌, Bool, true, false, not, cond, ◌==◌, ◌&&◌, ◌||◌, List, [], ◌∷◌, ◌++◌, length, codes, Option, Some, None, refl, sym, subst, arith}
use Rattle.std.specs.Prelude.{nat_lt}
use Rattle.std.specs.List.{list_all}
use Rattle.std.specs.Char.{to_ascii_lowercase}
use Rattle.std.specs.Option.{option_map_or}
use Rattle.std.proofs.lemmas.Bool.{and_parts, false≢true}
use Rattle.std.proofs.lemmas.Bool.Decides.{nat_tests}
use Rattle.numbers.specs.Texts.{digits_of, lrn_text, cic_text}
use Rattle.numbers.specs.Routings.{Routing}
use Rattle.model.specs.Machine.{Closed, Opened}
use Rattle.telnp.specs.Bytes.{is_digit, is_hex, is_separator, is_name_byte, is_value_byte}
use Rattle.telnp.specs.Grammar.{cut, has_name, is_global, is_name, is_parameter, is_value, is_value_rest, is_valued, lower, parameter_from, same_name, wanted_after}
use Rattle.telnp.specs.Answer.{Uri, added, added_carrier, added_routing, all_placed, answer_parameters, answer_text, goes_before, is_kept, kept, placed}
use Rattle.telnp.specs.Uri.{IsTelUri, written}
use Rattle.telnp.proofs.Cuts.{Cut}
use Rattle.numbers.proofs.Small.{true_both}
use Rattle.telnp.proofs.Wholes.{IsCut, cut-whole}
use Rattle.api.specs.Plain.{is_plain, IsPlain, AnswersArePlain}
use Rattle.api.specs.Step.{IsUri}

-- ---- bytes

plain_name : (b : ℕ) → is_name_byte b ≡ true → is_plain b ≡ true
plain_name b h = grind (arith, nat_tests)

plain_phone : (b : ℕ) → (is_digit b || is_separator b) ≡ true → is_plain b ≡ true
plain_phone b h = grind (arith, nat_tests)

plain_hex : (b : ℕ) → is_hex b ≡ true → is_plain b ≡ true
plain_hex b h = grind (arith, nat_tests)

plain_value : (b : ℕ) → is_value_byte b ≡ true → is_plain b ≡ true
plain_value b h = grind (arith, nat_tests)

plain_equal : (b c : ℕ) → (b == c) ≡ true → is_plain c ≡ true → is_plain b ≡ true
plain_equal b c e h = let same : b ≡ c = grind (arith, nat_tests) in rw same h

plain_digit : (n : ℕ) → is_plain (48 + n % 10) ≡ true
plain_digit n = grind (arith, nat_tests)

plain_lower_byte : (b : ℕ) → is_plain (to_ascii_lowercase b) ≡ true → is_plain b ≡ true
plain_lower_byte b h = at_tests (nat_lt b 65) (nat_lt b 91) refl refl h
  where
    at_tests : (low high : Bool) → nat_lt b 65 ≡ low → nat_lt b 91 ≡ high
        → is_plain (cond low b (cond high (b + 32) b)) ≡ true → is_plain b ≡ true
    at_tests true high d e k = k
    at_tests false true d e k = grind (arith, nat_tests)
    at_tests false false d e k = k

-- ---- texts

plain_all : (P : ℕ → Bool) → ((b : ℕ) → P b ≡ true → is_plain b ≡ true) → (bs : List ℕ)
    → list_all P bs ≡ true → IsPlain bs
plain_all P each [] h = refl
plain_all P each (b ∷ bs) h =
    let (here, more) = and_parts (P b) (list_all P bs) h in
    true_both _ _ (each b here) (plain_all P each bs more)

plain_append : (xs ys : List ℕ) → IsPlain xs → IsPlain ys → IsPlain (xs ++ ys)
plain_append [] ys h k = k
plain_append (x ∷ xs) ys h k =
    let (here, more) = and_parts (is_plain x) (list_all is_plain xs) h in
    true_both _ _ here (plain_append xs ys more k)

plain_digits : (width n : ℕ) → IsPlain (digits_of width n)
unfolding digits_of
plain_digits zero n = refl
plain_digits (suc width) n =
    plain_append (digits_of width (n / 10)) ((48 + n % 10) ∷ []) (plain_digits width (n / 10))
    (true_both _ _ (plain_digit n) refl)

plain_lower : (bs : List ℕ) → IsPlain (lower bs) → IsPlain bs
plain_lower [] h = refl
plain_lower (b ∷ bs) h =
    let (here, more) = and_parts (is_plain (to_ascii_lowercase b)) (list_all is_plain (lower bs))
    h in
    true_both _ _ (plain_lower_byte b here) (plain_lower bs more)

plain_scheme : (scheme : List ℕ) → lower scheme ≡ codes "tel" → IsPlain scheme
plain_scheme scheme e = plain_lower scheme (rw e refl)

plain_global : (number : List ℕ) → is_global number ≡ true → IsPlain number
plain_global [] h = refl
plain_global (b ∷ bs) h =
    let (front, digits) = and_parts ((b == 43) && list_all (λ d. is_digit d || is_separator d) bs) _
    h in
    let (plus, all) = and_parts (b == 43) _ front in
    true_both _ _ (plain_equal b 43 plus refl) (plain_all (λ d. is_digit d || is_separator d)
    plain_phone bs all)

-- ---- values

chosen : (t : Bool) (n next : ℕ) → cond t (Some n) None ≡ Some next → t ≡ true
chosen true n next e = refl
chosen false n next e = cc

at_percent : (b next : ℕ) (t : Bool) → (b == 37) ≡ t
    → cond t (Some 2) (cond (is_value_byte b) (Some 0) None) ≡ Some next → is_plain b ≡ true
at_percent b next true e k = plain_equal b 37 e refl
at_percent b next false e k = plain_value b (chosen (is_value_byte b) 0 next k)

plain_wanted : (wanted b next : ℕ) → wanted_after wanted b ≡ Some next → is_plain b ≡ true
plain_wanted wanted b next e = at_wanted (nat_lt 0 wanted) e
  where
    at_wanted : (t : Bool)
        → cond t (cond (is_hex b) (Some (wanted - 1)) None)
        (cond (b == 37) (Some 2) (cond (is_value_byte b) (Some 0) None)) ≡ Some next
        → is_plain b ≡ true
    at_wanted true k = plain_hex b (chosen (is_hex b) (wanted - 1) next k)
    at_wanted false k = at_percent b next (b == 37) refl k

plain_rest : (wanted : ℕ) (bs : List ℕ) → is_value_rest wanted bs ≡ true → IsPlain bs
plain_rest wanted [] h = refl
plain_rest wanted (b ∷ bs) h =
    at_next (wanted_after wanted b) refl h (λ next k. plain_rest next bs k)
  where
    at_next : (o : Option ℕ) → wanted_after wanted b ≡ o
        → option_map_or (λ next. is_value_rest next bs) o false ≡ true
        → ((next : ℕ) → is_value_rest next bs ≡ true → IsPlain bs) → IsPlain (b ∷ bs)
    at_next None e k by_cases = absurd (false≢true k)
    at_next (Some next) e k by_cases =
        true_both _ _ (plain_wanted wanted b next e) (by_cases next k)

-- ---- parameters

abbrev AllPlain : List (List ℕ) → Type 0
AllPlain parts = list_all (list_all is_plain) parts ≡ true

abbrev Formed : List ℕ → Option Cut → Type 0
Formed part found =
    (is_name (parameter_from part found).name && is_valued (parameter_from part found).name
    (parameter_from part found).value) ≡ true

plain_part : (part : List ℕ) (found : Option Cut) → cut 61 part ≡ found → is_parameter part ≡ true
    → IsPlain part
plain_part part None e h =
    let k = subst (Formed part) e h in
    let (name, valued) = and_parts (is_name part) (is_valued part None) k in
    let (some, all) = and_parts (not (length part == 0)) (list_all is_name_byte part) name in
    plain_all is_name_byte plain_name part all
plain_part part (Some p) e h =
    let k = subst (Formed part) e h in
    let (name, valued) = and_parts (is_name p.0) (is_valued p.0 (Some p.1)) k in
    let (some, all) = and_parts (not (length p.0 == 0)) (list_all is_name_byte p.0) name in
    let (value, other_name) =
    and_parts (is_value p.1) (not (same_name p.0 (codes "npdi"))) valued in
    let (long, rest) = and_parts (not (length p.1 == 0)) (is_value_rest 0 p.1) value in
    let whole : IsCut 61 part (Some p) = subst (IsCut 61 part) e (cut-whole 61 part) in
    let plain : IsPlain (p.0 ++ 61 ∷ p.1) =
    plain_append p.0 (61 ∷ p.1) (plain_all is_name_byte plain_name p.0 all)
    (plain_rest 0 p.1 rest) in
    subst IsPlain (sym whole) plain

plain_parts : (parts : List (List ℕ)) → list_all is_parameter parts ≡ true → AllPlain parts
plain_parts [] h = refl
plain_parts (p ∷ parts) h =
    let (here, more) = and_parts (is_parameter p) (list_all is_parameter parts) h in
    true_both _ _ (plain_part p (cut 61 p) refl here) (plain_parts parts more)

plain_written : (parts : List (List ℕ)) → AllPlain parts → IsPlain (written parts)
plain_written [] h = refl
plain_written (p ∷ parts) h =
    let (here, more) = and_parts (list_all is_plain p) (list_all (list_all is_plain) parts) h in
    plain_append p (written parts) here (plain_written parts more)

-- ---- the answer's parameters

plain_kept : (parts : List (List ℕ)) → AllPlain parts → AllPlain (kept parts)
plain_kept [] h = refl
plain_kept (p ∷ parts) h = at_test (is_kept p) (plain_kept parts)
  where
    at_test : (t : Bool) → (AllPlain parts → AllPlain (kept parts))
        → AllPlain (cond t (p ∷ kept parts) (kept parts))
    at_test true by_cases = let (here, more) =
        and_parts (list_all is_plain p) (list_all (list_all is_plain) parts) h in
        true_both _ _ here (by_cases more)
    at_test false by_cases = let (here, more) =
        and_parts (list_all is_plain p) (list_all (list_all is_plain) parts) h in by_cases more

plain_lists : (xs ys : List (List ℕ)) → AllPlain xs → AllPlain ys → AllPlain (xs ++ ys)
plain_lists [] ys h k = k
plain_lists (x ∷ xs) ys h k =
    let (here, more) = and_parts (list_all is_plain x) (list_all (list_all is_plain) xs) h in
    true_both _ _ here (plain_lists xs ys more k)

plain_carrier : (parts : List (List ℕ)) (cic : Option ℕ) → AllPlain (added_carrier parts cic)
plain_carrier parts None = refl
plain_carrier parts (Some cic) = at_test (has_name (codes "cic") parts)
  where
    at_test : (t : Bool) → AllPlain (cond t [] ((codes "cic=+1" ++ cic_text cic) ∷ []))
    at_test true = refl
    at_test false =
        true_both _ _ (plain_append (codes "cic=+1") (cic_text cic) refl (plain_digits 4 cic)) refl

plain_routing : (parts : List (List ℕ)) (routing : Option Routing)
    → AllPlain (added_routing parts routing)
plain_routing parts None = refl
plain_routing parts (Some r) =
    true_both _ _ (plain_append (codes "rn=+1") (lrn_text r.lrn) refl (plain_digits 10 r.lrn))
    (plain_carrier parts r.cic)

plain_added : (parts : List (List ℕ)) (routing : Option Routing) → AllPlain (added parts routing)
plain_added parts routing = true_both _ _ refl (plain_routing parts routing)

plain_placed : (p : List ℕ) (xs : List (List ℕ)) → IsPlain p → AllPlain xs → AllPlain (placed p xs)
plain_placed p [] h k = true_both _ _ h refl
plain_placed p (q ∷ more) h k = at_test (goes_before p q) (plain_placed p more h)
  where
    at_test : (t : Bool) → (AllPlain more → AllPlain (placed p more))
        → AllPlain (cond t (p ∷ q ∷ more) (q ∷ placed p more))
    at_test true by_cases = true_both _ _ h k
    at_test false by_cases = let (here, rest) =
        and_parts (list_all is_plain q) (list_all (list_all is_plain) more) k in
        true_both _ _ here (by_cases rest)

plain_all_placed : (done parts : List (List ℕ)) → AllPlain done → AllPlain parts
    → AllPlain (all_placed done parts)
plain_all_placed done [] h k = h
plain_all_placed done (p ∷ parts) h k =
    let (here, more) = and_parts (list_all is_plain p) (list_all (list_all is_plain) parts) k in
    plain_all_placed (placed p done) parts (plain_placed p done here h) more

plain_answer : (parts : List (List ℕ)) (routing : Option Routing) → AllPlain parts
    → AllPlain (answer_parameters parts routing)
plain_answer parts routing h =
    plain_all_placed [] (kept parts ++ added parts routing) refl
    (plain_lists (kept parts) (added parts routing) (plain_kept parts h)
    (plain_added parts routing))

-- ---- whole texts

plain_text : (text number : List ℕ) (parts : List (List ℕ)) → IsTelUri text number parts
    → IsPlain text
plain_text text number parts u =
    let tail : IsPlain (number ++ written parts) =
    plain_append number (written parts) (plain_global number u.number_is)
    (plain_written parts (plain_parts parts u.parameters_are)) in
    let plain : IsPlain (u.scheme ++ 58 ∷ (number ++ written parts)) =
    plain_append u.scheme (58 ∷ (number ++ written parts)) (plain_scheme u.scheme u.scheme_is)
    tail in
    subst IsPlain (sym u.whole) plain

plain_found : (text : List ℕ) (uri : Uri) (routing : Option Routing) → IsUri text uri
    → IsPlain (answer_text uri routing)
plain_found text uri routing h = at_test (has_name (codes "npdi") uri.parameters)
  where
    at_test : (t : Bool)
        → IsPlain (cond t uri.text
        (codes "tel:" ++ (uri.number ++ written (answer_parameters uri.parameters routing))))
    at_test true = rw h.same (plain_text text uri.number uri.parameters h.parts)
    at_test false =
        plain_append (codes "tel:")
        (uri.number ++ written (answer_parameters uri.parameters routing)) refl
        (plain_append uri.number (written (answer_parameters uri.parameters routing))
        (plain_global uri.number h.parts.number_is)
        (plain_written (answer_parameters uri.parameters routing)
        (plain_answer uri.parameters routing (plain_parts uri.parameters h.parts.parameters_are))))

pub answers_are_plain : AnswersArePlain
answers_are_plain text uri Closed h = rw h.same (plain_text text uri.number uri.parameters h.parts)
answers_are_plain text uri (Opened routing) h = plain_found text uri routing h
