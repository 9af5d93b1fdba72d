-- Number parts and parameters, by the grammar of RFC 3966, section 3, and RFC 4694, section 4.
use Rattle.std.specs.Prelude.{ℕ, Bool, false, not, ◌==◌, ◌||◌, ◌&&◌, nat_lt, if◌then◌else◌, List, [], ◌∷◌, map, length, codes, Option, Some, None, option_map, ◌-◌}
use Rattle.std.specs.List.{list_all, list_any, filter}
use Rattle.std.specs.Option.{option_map_or}
use Rattle.std.specs.Char.{to_ascii_lowercase}
use Rattle.std.specs.Str.{bytes_eq}
use Rattle.telnp.specs.Bytes.{is_digit, is_hex, is_separator, is_local_mark, is_name_byte, is_value_byte}

-- The bytes before and after the first of these marks, if there is one.
abbrev pub cut : ℕ → List ℕ → Option (List ℕ × List ℕ)
cut mark [] = None
cut mark (b ∷ bs) = if b == mark then Some ([], bs)
    else option_map (λ p. (b ∷ p.0, p.1)) (cut mark bs)

-- The text in lower case.
abbrev pub lower : List ℕ → List ℕ
lower = map to_ascii_lowercase

-- Whether the names are equal, ignoring case.
abbrev pub same_name : List ℕ → List ℕ → Bool
same_name a b = bytes_eq (lower a) (lower b)

-- Whether the bytes are global-number-digits: `+`, then digits and separators with at least one
-- digit.
abbrev pub is_global : List ℕ → Bool
is_global [] = false
is_global (b ∷ bs) = (b == 43) && list_all (λ d. is_digit d || is_separator d) bs && list_any
    is_digit bs

-- Whether the bytes are local-number-digits: hexadecimal digits in either case, `*`, `#` and
-- separators, at least one of them not a separator.
abbrev pub is_local : List ℕ → Bool
is_local bs = list_all (λ d. is_hex d || is_local_mark d || is_separator d) bs && list_any
    (λ d. not (is_separator d)) bs

-- Whether the bytes are a pname: one or more letters, digits and `-`.
abbrev pub is_name : List ℕ → Bool
is_name bs = not (length bs == 0) && list_all is_name_byte bs

-- How many hexadecimal digits must follow byte `b`, if it is allowed after a byte that `wanted` of
-- them must follow. Two must follow `%` (pct-encoded).
abbrev pub wanted_after : ℕ → ℕ → Option ℕ
wanted_after wanted b =
    if nat_lt 0 wanted then (if is_hex b then Some (wanted - 1) else None)
    else if b == 37 then Some 2
    else if is_value_byte b then Some 0 else None

-- Whether the bytes are paramchars, after `wanted` hexadecimal digits.
abbrev pub is_value_rest : ℕ → List ℕ → Bool
is_value_rest wanted [] = wanted == 0
is_value_rest wanted (b ∷ bs) =
    option_map_or (λ next. is_value_rest next bs) (wanted_after wanted b) false

-- Whether the bytes are a pvalue: one or more paramchars, that is value bytes and `%` with two
-- hexadecimal digits.
abbrev pub is_value : List ℕ → Bool
is_value bs = not (length bs == 0) && is_value_rest 0 bs

-- A parameter: its name, and its value if it has one.
pub record Parameter : Type 0 where
  pub name : List ℕ
  pub value : Option (List ℕ)

abbrev pub parameter_from : List ℕ → Option (List ℕ × List ℕ) → Parameter
parameter_from part None = record { name = part; value = None }
parameter_from part (Some p) = record { name = p.0; value = Some p.1 }

-- The parameter in a text without the leading `;`: the name, and the value after the first `=`.
abbrev pub parameter_of : List ℕ → Parameter
parameter_of part = parameter_from part (cut 61 part)

abbrev pub name_of : List ℕ → List ℕ
name_of part = (parameter_of part).name

-- Whether the name must have a value: `rn`, `cic`, `rn-context` and `cic-context` of RFC 4694.
abbrev pub requires_value : List ℕ → Bool
requires_value name = same_name name (codes "rn") || same_name name (codes "cic") || same_name name
    (codes "rn-context") || same_name name (codes "cic-context")

-- Whether a parameter may have this value or none: some names must have one, and `npdi` of RFC 4694
-- must not.
abbrev pub is_valued : List ℕ → Option (List ℕ) → Bool
is_valued name None = not (requires_value name)
is_valued name (Some v) = is_value v && not (same_name name (codes "npdi"))

-- Whether the part is a parameter: a name, or a name, `=` and a value.
abbrev pub is_parameter : List ℕ → Bool
is_parameter part = is_name (parameter_of part).name && is_valued (parameter_of part).name
    (parameter_of part).value

-- Whether one of the parameters has this name.
abbrev pub has_name : List ℕ → List (List ℕ) → Bool
has_name name = list_any (λ part. same_name (name_of part) name)

-- The number of parameters with this name.
abbrev pub times : List ℕ → List (List ℕ) → ℕ
times name parameters = length (filter (λ part. same_name (name_of part) name) parameters)

-- Whether two of the parameters have the same name.
abbrev pub has_repetition : List (List ℕ) → Bool
has_repetition parameters = list_any (λ part. nat_lt 1 (times (name_of part) parameters)) parameters
