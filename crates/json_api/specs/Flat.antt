-- The members of an object without arrays and objects in it.
use Rattle.std.specs.Prelude.{◌≡◌, ℕ, Bool, length, List, [], ◌∷◌, Option, Some}
use Rattle.std.specs.Borrow.{Bor}
use Rattle.std.specs.List.{list_any}
use Rattle.std.specs.Str.{bytes_eq}
use Rattle.json.specs.Token.{Token}
use Rattle.json.specs.Json.{value, members}
use Rattle.serde_json.specs.Data.{Data, Members, no_members, null, boolean, number, string, object, unsigned, put}
use Rattle.serde_json.specs.Read.{of_json, of_members, converted}
use Rattle.json_api.specs.declared.flat.Scalar.{Scalar}
use Rattle.json_api.specs.declared.flat.Scalar.TheVariants.{Null, Flag, Whole, Text}
use Rattle.json_api.specs.declared.flat.Member.{Member}

abbrev pub scalar_data : Scalar → Data
scalar_data Null = null
scalar_data (Flag b) = boolean b
scalar_data (Whole n) = number (unsigned n)
scalar_data (Text s) = string s.now

-- The members in order; of equal keys the last counts.
abbrev pub members_upon : Members → List Member → Members
members_upon found [] = found
members_upon found (m ∷ ms) = members_upon (put m.key.now (scalar_data m.value) found) ms

abbrev pub flat_data : List Member → Data
flat_data ms = object (members_upon no_members ms)

-- Holds if the token by itself represents the scalar, whatever follows.
abbrev pub IsScalar : Token → Scalar → Type 0
IsScalar token s = (depth : ℕ) (rest : List Token) → converted of_json (value depth (token ∷ rest))
    ≡ Some (scalar_data s, rest)

-- The members of a body's object, from the tokens after its brace.
abbrev pub read_object : List Token → Option (Members × List Token)
read_object ts = converted (λ ms. of_members ms no_members) (members (value 126) (length ts) ts)

-- Whether the key is one of `keys`.
abbrev pub is_among : List (Bor (List ℕ)) → List ℕ → Bool
is_among keys k = list_any (λ (s : Bor (List ℕ)). bytes_eq k s.now) keys
