-- The four characters of a provider.
use Rattle.std.proofs.Common.{◌≡◌, ℕ, ◌+◌, ◌*◌, ◌/◌, ◌%◌, ◌<◌, Bool, true, false, cond, List, [], ◌∷◌, Some, None, refl, sym, arith}
use Rattle.std.specs.Prelude.{◌&&◌}
use Rattle.numbers.specs.Texts.{spid_text}
use Rattle.sql_rows.specs.Values.{spid_from}
use Rattle.numbers.specs.Spids.{is_spid_character}
use Rattle.numbers.proofs.SpidLemmas.{small_character}

digits : (n a b c d : ℕ) → n ≡ a * 16777216 + b * 65536 + c * 256 + d → b < 128 → c < 128 → d < 128
    → spid_text n ≡ a ∷ b ∷ c ∷ d ∷ []
digits n a b c d e low_b low_c low_d =
    let first : n / 16777216 ≡ a = omega arith in
    let second : n / 65536 % 256 ≡ b = omega arith in
    let third : n / 256 % 256 ≡ c = omega arith in
    let fourth : n % 256 ≡ d = omega arith in
    rw (first, second, third, fourth) refl

-- A text that reads as a provider is that provider's text.
pub spelt : (t : List ℕ) (n : ℕ) → spid_from t ≡ Some n → t ≡ spid_text n
spelt (a ∷ b ∷ c ∷ d ∷ []) n h =
    by_cases (is_spid_character a) (is_spid_character b) (is_spid_character c) (is_spid_character d)
    refl
    refl refl h
  where
    by_cases : (w x y z : Bool) → is_spid_character b ≡ x → is_spid_character c ≡ y
        → is_spid_character d ≡ z
        → cond (w && (x && (y && z))) (Some (a * 16777216 + b * 65536 + c * 256 + d)) None ≡ Some n
        → a ∷ b ∷ c ∷ d ∷ [] ≡ spid_text n
    by_cases true true true true q r s h =
        let sum : a * 16777216 + b * 65536 + c * 256 + d ≡ n = cc in
        sym (digits n a b c d (sym sum) (small_character b q) (small_character c r)
        (small_character d s))
    by_cases true true true false q r s h = absurd cc
    by_cases true true false z q r s h = absurd cc
    by_cases true false y z q r s h = absurd cc
    by_cases false x y z q r s h = absurd cc
spelt [] n h = absurd cc
spelt (a ∷ []) n h = absurd cc
spelt (a ∷ b ∷ []) n h = absurd cc
spelt (a ∷ b ∷ c ∷ []) n h = absurd cc
spelt (a ∷ b ∷ c ∷ d ∷ e ∷ more) n h = absurd cc
