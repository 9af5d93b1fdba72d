-- A body of plain values as bytes, with spaces and line feeds between its parts.
use Rattle.std.specs.Prelude.{◌≡◌, ℕ, ◌&&◌, ◌==◌, nat_le, nat_lt, Bool, true, not, List, ◌++◌}
use Rattle.std.specs.Str.{IsUtf8}
use Rattle.json.specs.Token.{Token, key}
use Rattle.json.specs.Print.{token_text, ends, IsPrintable}
use Rattle.json.specs.Spaced.{IsGap}
use Rattle.json_api.specs.Flat.{IsScalar}
use Rattle.json_api.specs.declared.flat.Scalar.{Scalar}
use Rattle.json_api.specs.declared.flat.Member.{Member}

-- Whether a byte represents itself in a text: a printable ASCII character other than a quote and a
-- backslash.
abbrev pub is_plain : ℕ → Bool
is_plain x = nat_le 32 x && (nat_lt x 127 && (not (x == 34) && not (x == 92)))

-- Holds if the token represents a plain value, and can be written.
pub record IsTokenOf (token : Token) (s : Scalar) : Type 0 where
  pub printable : IsPrintable token
  pub ended : ends token ≡ true
  pub utf8 : IsUtf8 (token_text token)
  pub is : IsScalar token s

-- Holds if `rest` follows leading spaces and line feeds.
abbrev pub IsAfterGap : List ℕ → List ℕ → Type 0
IsAfterGap bytes rest = (gap : List ℕ) × IsGap gap × (bytes ≡ gap ++ rest)

-- Holds if the bytes are a plain value, then `rest`.
abbrev pub IsScalarThen : List ℕ → Scalar → List ℕ → Type 0
IsScalarThen bytes s rest = (token : Token) × IsTokenOf token s × (bytes ≡ token_text token ++ rest)

-- Holds if the bytes are a key and its value, each after a gap, then `rest`.
pub record IsMemberThen (bytes : List ℕ) (m : Member) (rest : List ℕ) : Type 0 where
  pub before : List ℕ
  pub between : List ℕ
  pub token : Token
  pub gaps : IsGap before × IsGap between
  pub named : IsUtf8 m.key.now
  pub valued : IsTokenOf token m.value
  pub bytes_are : bytes
      ≡ before ++ (token_text (key m.key.now) ++ (between ++ (token_text token ++ rest)))
