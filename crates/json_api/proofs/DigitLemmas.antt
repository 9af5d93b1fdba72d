-- A text of digits is the JSON number that it denotes.
use Rattle.std.proofs.Common.{◌≡◌, ℕ, ◌<◌, ◌≤◌, ◌^◌, List, [], ◌∷◌, ◌++◌, length, get_or, Bool, true, false, Some, None, refl, ap, sym, ◌∙◌, arith, append-nil, lt-ltb, ne_eqb}
use Rattle.std.specs.Prelude.{◌&&◌, nat_lt, nat_le, if◌then◌else◌}
use Rattle.std.specs.Char.{digit_value}
use Rattle.std.specs.Str.{all_ascii_digits}
use Rattle.std.specs.Str.Parse.{AllDigits, digits_value}
use Rattle.std.specs.Float.Numeral.{Parts, scan_numeral, IsWellFormed}
use Rattle.std.proofs.lemmas.Bool.Decides.{nat_tests}
use Rattle.std.proofs.lemmas.Str.Parse.{tells_all_ascii_digits, numerals_by_value, digits_value_short}
use Rattle.std.proofs.lemmas.Float.Parse.{scan_numeral-text_of}
use Rattle.serde_json.specs.Data.{unsigned}
use Rattle.serde_json.specs.Read.{number_of, number_from}
use Rattle.http_messages.specs.Fields.{number_of as said}

abbrev digits : List ℕ → Parts
digits ds = record {
  whole = ds;
  point = false;
  fraction = [];
  exponent_negative = false;
  exponent = [];
  len = length (ds ++ []);
}

no_minus : (ds : List ℕ) → AllDigits 10 ds → 0 < length ds → get_or ds 0 0 ≡ 45 → ⊥
no_minus [] h some e = omega arith
no_minus (d ∷ ds) h some e = let digit : digit_value d < 10 = h.0 in let is : d ≡ 45 = e in
    grind arith

scanned : (ds : List ℕ) → AllDigits 10 ds → 0 < length ds
    → number_of ds ≡ number_from false (digits ds)
unfolding number_of
scanned ds h some =
    let formed : IsWellFormed (digits ds) = record {
      whole_digits = h;
      fraction_digits = tt;
      exponent_digits = tt;
      no_point = λ _. refl;
      no_exponent = λ _. refl;
      len_is = refl;
    } in
    rw (ne_eqb (get_or ds 0 0) 45 (no_minus ds h some))
    (ap (λ s. number_from false (scan_numeral s)) (sym (append-nil ds))
    ∙ ap (number_from false) (scan_numeral-text_of (digits ds) formed))

pub plain_number : (s : List ℕ) (n : ℕ) → Some n ≡ said s → number_of s ≡ Some (unsigned n)
plain_number s n is =
    by_cases (nat_lt 0 (length s)) refl (nat_le (length s) 19) refl (all_ascii_digits s)
    refl is
  where
    by_cases : (x : Bool) → nat_lt 0 (length s) ≡ x → (y : Bool) → nat_le (length s) 19 ≡ y
        → (z : Bool)
        → all_ascii_digits s ≡ z
        → Some n ≡ (if x && (y && z) then Some (digits_value 10 s) else None)
        → number_of s ≡ Some (unsigned n)
    by_cases true e true f true g k =
        let model = numerals_by_value (λ ds. all_ascii_digits ds ≡ true) tells_all_ascii_digits in
        let ds : AllDigits 10 s = model.to s g in
        let some : 0 < length s = grind (arith, nat_tests) in
        let short : length s ≤ 19 = grind (arith, nat_tests) in
        let small : digits_value 10 s < 2 ^ 64 =
        omega (arith, digits_value_short model s 19 g short) in
        let same : digits_value 10 s ≡ n = cc in
        scanned s ds some ∙ rw (lt-ltb 0 (length s) some, append-nil s, lt-ltb _ _ small)
        (ap (λ k. Some (unsigned k)) same)
    by_cases false e y f z g k = cc
    by_cases true e false f z g k = cc
    by_cases true e true f false g k = cc
