-- The valid numbers of service providers, each the four bytes of its text.
use Rattle.std.specs.Prelude.{ℕ, ◌||◌, ◌&&◌, Bool, IsTrue, nat_le}
use Rattle.std.specs.List.{list_all}
use Rattle.numbers.specs.Texts.{spid_text}

-- Whether the character is a capital letter, A to Z, or a digit, 0 to 9.
abbrev pub is_spid_character : ℕ → Bool
is_spid_character c = (nat_le 65 c && nat_le c 90) || (nat_le 48 c && nat_le c 57)

-- Holds if each of the four characters is a capital letter or a digit.
abbrev pub IsSpid : ℕ → Type 0
IsSpid n = IsTrue (list_all is_spid_character (spid_text n))
