-- Classes of bytes in a tel URI, by the grammar of RFC 3966, section 3. A byte is the code of an
-- ASCII character.
use Rattle.std.specs.Prelude.{ℕ, Bool, ◌==◌, ◌||◌, ◌&&◌, nat_le}

-- Whether the byte is in a range, both ends included.
abbrev pub is_within : ℕ → ℕ → ℕ → Bool
is_within low high b = nat_le low b && nat_le b high

-- Whether the byte is `0` to `9`: DIGIT.
abbrev pub is_digit : ℕ → Bool
is_digit = is_within 48 57

-- Whether the byte is `A` to `Z` or `a` to `z`: ALPHA.
abbrev pub is_letter : ℕ → Bool
is_letter b = is_within 65 90 b || is_within 97 122 b

-- Whether the byte is a digit, `A` to `F`, or `a` to `f`: HEXDIG.
abbrev pub is_hex : ℕ → Bool
is_hex b = is_digit b || is_within 65 70 b || is_within 97 102 b

-- Whether the byte is `-`, `.`, `(` or `)`: visual-separator.
abbrev pub is_separator : ℕ → Bool
is_separator b = (b == 45) || (b == 46) || (b == 40) || (b == 41)

-- Whether the byte is `*` or `#`, which phonedigit-hex has besides hexadecimal digits and
-- separators.
abbrev pub is_local_mark : ℕ → Bool
is_local_mark b = (b == 42) || (b == 35)

-- Whether the byte is a letter, a digit or `-`: a character of pname.
abbrev pub is_name_byte : ℕ → Bool
is_name_byte b = is_letter b || is_digit b || (b == 45)

-- Whether the byte is a paramchar other than pct-encoded: unreserved (letters, digits, `-` `_` `.`
-- `!` `~` `*` `'` `(` `)`) or param-unreserved (`[` `]` `/` `:` `&` `+` `$`).
abbrev pub is_value_byte : ℕ → Bool
is_value_byte b = is_letter b || is_digit b || (b == 45) || (b == 95) || (b == 46) || (b == 33)
    || (b == 126) || (b == 42)
    || (b == 39) || (b == 40) || (b == 41) || (b == 91) || (b == 93) || (b == 47) || (b == 58)
    || (b == 38) || (b == 43) || (b == 36)
