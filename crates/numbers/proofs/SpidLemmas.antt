-- The four characters of a provider.
use Rattle.std.proofs.Common.{◌≡◌, ℕ, ◌+◌, ◌*◌, ◌/◌, ◌%◌, ◌<◌, true, arith}
use Rattle.std.specs.Prelude.{IsUtf8}
use Rattle.std.proofs.lemmas.Bool.Decides.{nat_tests}
use Rattle.std.proofs.lemmas.List.Sums.{AllPass-from_list_all}
use Rattle.numbers.specs.Spids.{is_spid_character, IsSpid}
use Rattle.numbers.specs.Texts.{spid_text}
use Rattle.numbers.proofs.DigitLemmas.{utf8_small}

-- A character of a provider is a byte below 128.
pub small_character : (c : ℕ) → is_spid_character c ≡ true → c < 128
small_character c h = grind (arith, nat_tests)

-- The four characters of a provider are valid UTF-8.
pub utf8_spid : (n : ℕ) → IsSpid n → IsUtf8 (spid_text n)
utf8_spid n h =
    let each = AllPass-from_list_all is_spid_character (spid_text n) h in
    utf8_small (spid_text n) (λ k d inside. small_character _ (each k d inside))

-- Four bytes that are characters of providers make a provider.
pub spid_made : (n a b c d : ℕ) → n ≡ a * 16777216 + b * 65536 + c * 256 + d
    → is_spid_character a ≡ true → is_spid_character b ≡ true → is_spid_character c ≡ true
    → is_spid_character d ≡ true → IsSpid n
spid_made n a b c d e p q r s =
    let low_b = small_character b q in
    let low_c = small_character c r in
    let low_d = small_character d s in
    let first : n / 16777216 ≡ a = omega arith in
    let second : n / 65536 % 256 ≡ b = omega arith in
    let third : n / 256 % 256 ≡ c = omega arith in
    let fourth : n % 256 ≡ d = omega arith in
    rw (first, second, third, fourth, p, q, r, s)
