-- Tel URIs that are written plainly.
use Rattle.std.proofs.Common.{◌≡◌, ℕ, Bool, true, false, ◌||◌, nat_lt, List, [], ◌∷◌, ◌++◌, length, take, drop, codes, Option, Some, None, refl, sym, ap, ◌∙◌, subst, arith}
use Rattle.std.proofs.lemmas.List.{take-append-drop}
use Rattle.std.proofs.lemmas.List.Elements.{All-head, All-tail}
use Rattle.std.specs.Prelude.{IfSome}
use Rattle.std.specs.Char.{IsAsciiDigit}
use Rattle.std.specs.List.{All, list_all}
use Rattle.numbers.proofs.DigitLemmas.{digits_of-digits}
use Rattle.numbers.specs.Texts.{tn_text}
use Rattle.numbers.specs.declared.tn.Tn.{Tn}
use Rattle.telnp.specs.Answer.{Uri}
use Rattle.telnp.specs.Bytes.{is_digit, is_separator}
use Rattle.telnp.specs.Faults.{IsRead}
use Rattle.telnp.specs.Numbers.{HasTn, digits_in}
use Rattle.telnp.specs.Plain.{IsPlain}
use Rattle.telnp.specs.Grammar.{cut}

-- No digit is a semicolon.
no_mark : (d : List ℕ) → list_all is_digit d ≡ true → cut 59 d ≡ None
no_mark [] all = refl
no_mark (b ∷ bs) all = grind (arith, no_mark bs)

or_separators : (d : List ℕ) → list_all is_digit d ≡ true
    → list_all (λ b. is_digit b || is_separator b) d ≡ true
or_separators [] all = refl
or_separators (b ∷ bs) all = grind (arith, or_separators bs)

short_enough : (d : List ℕ) → length d ≡ 10 → nat_lt 2048 (length (codes "tel:+1" ++ d)) ≡ false
short_enough d ten = rw ten refl

plain_read : (d : List ℕ) → length d ≡ 10 → list_all is_digit d ≡ true
    → IsRead (codes "tel:+1" ++ d) (codes "+1" ++ d) []
plain_read d ten all =
    let uncut = no_mark d all in
    record {
      none_holds = rw (short_enough d ten, uncut, or_separators d all) refl;
      number_is = rw uncut refl;
      parameters_are = rw uncut refl;
    }

pub read_of_plain : (text : List ℕ) (u : Uri) → IsPlain text u → IsRead text u.number u.parameters
read_of_plain text u plain =
    subst (λ (v : Uri). IsRead text v.number v.parameters) (sym plain.uri_is)
    (subst (λ (t : List ℕ). IsRead t (codes "+1" ++ plain.digits) []) (sym plain.text_is)
    (plain_read plain.digits plain.ten plain.digits_are))

pub text_of_plain : (text : List ℕ) (u : Uri) → IsPlain text u → u.text ≡ text
text_of_plain text u plain = ap (λ (v : Uri). v.text) plain.uri_is

-- Digits are all of themselves.
pub digits_of_digits : (d : List ℕ) → list_all is_digit d ≡ true → digits_in d ≡ d
digits_of_digits [] all = refl
digits_of_digits (b ∷ bs) all = grind (arith, digits_of_digits bs)

pub digits_after : (number prefix digits : List ℕ) → prefix ≡ take 2 number
    → digits ≡ drop 2 number → prefix ≡ codes "+1" → list_all is_digit digits ≡ true
    → digits_in number ≡ 49 ∷ digits
digits_after number prefix digits front back plus all =
    ap digits_in
    (sym (take-append-drop 2 number)
    ∙ ap (λ (t : List ℕ). t ++ drop 2 number) (sym front ∙ plus)
    ∙ ap (λ (t : List ℕ). codes "+1" ++ t) (sym back))
    ∙ ap (λ (t : List ℕ). 49 ∷ t) (digits_of_digits digits all)

-- A byte of an ASCII digit is one of a digit.
digit_is : (b : ℕ) → IsAsciiDigit b → is_digit b ≡ true
digit_is b (least, most) = grind (arith, least, most)

are_digits : (d : List ℕ) → All IsAsciiDigit d → list_all is_digit d ≡ true
are_digits [] all = refl
are_digits (b ∷ bs) all =
    rw (
      digit_is b (All-head IsAsciiDigit b bs all),
      are_digits bs (All-tail IsAsciiDigit b bs all),
    ) refl

-- The digits after `+1` are those of the telephone number that they write.
pub has_tn_after : (number prefix digits : List ℕ) (read : Option Tn) → prefix ≡ take 2 number
    → digits ≡ drop 2 number → prefix ≡ codes "+1"
    → IfSome read (λ tn. digits ≡ tn_text tn.number) → IfSome read (λ tn. HasTn number tn.number)
has_tn_after number prefix digits None front back plus written = tt
has_tn_after number prefix digits (Some tn) front back plus written =
    digits_after number prefix digits front back plus
    (ap (list_all is_digit) written
    ∙ are_digits (tn_text tn.number) (digits_of-digits 10 tn.number))
    ∙ ap (λ (t : List ℕ). 49 ∷ t) written
