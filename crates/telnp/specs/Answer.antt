-- The text that answers a query.
use Rattle.std.specs.Prelude.{◌≡◌, ℕ, Bool, not, ◌||◌, if◌then◌else◌, List, [], ◌∷◌, ◌++◌, fold, codes, Option, Some, None}
use Rattle.std.specs.List.{filter}
use Rattle.std.specs.Ordering.{nat_cmp, is_lt}
use Rattle.std.specs.Cmp.Lexicographic.{slice_cmp}
use Rattle.numbers.specs.Texts.{lrn_text, cic_text}
use Rattle.numbers.specs.Routings.{Routing}
use Rattle.telnp.specs.Grammar.{lower, same_name, name_of, has_name}
use Rattle.telnp.specs.Uri.{written}

-- A tel URI: its text, its number part, and its parameters.
pub record Uri : Type 0 where
  pub text : List ℕ
  pub number : List ℕ
  pub parameters : List (List ℕ)

-- The rank of a name: `ext`, `isub` and `phone-context` first, in this order, then all others (RFC
-- 3966, section 3).
abbrev pub rank : List ℕ → ℕ
rank name =
    if same_name name (codes "ext") then 0
    else if same_name name (codes "isub") then 1
    else if same_name name (codes "phone-context") then 2
    else 3

-- The sort key of a parameter: the rank of its name, then the name in lower case, byte by byte.
abbrev pub order_key : List ℕ → List ℕ
order_key part = rank (name_of part) ∷ lower (name_of part)

-- Whether the first parameter comes before the second.
abbrev pub goes_before : List ℕ → List ℕ → Bool
goes_before a b = is_lt (slice_cmp nat_cmp (order_key a) (order_key b))

-- The parameters with one more, inserted before the first that it goes before.
abbrev pub placed : List ℕ → List (List ℕ) → List (List ℕ)
placed part [] = part ∷ []
placed part (q ∷ more) = if goes_before part q then part ∷ q ∷ more else q ∷ placed part more

-- These parameters, each inserted among those already in order.
abbrev pub all_placed : List (List ℕ) → List (List ℕ) → List (List ℕ)
all_placed = fold (λ sorted part. placed part sorted)

-- The parameters in order.
abbrev pub in_order : List (List ℕ) → List (List ℕ)
in_order parts = all_placed [] parts

-- Whether the answer leaves out this parameter of the query: `rn` or `rn-context`.
abbrev pub is_replaced : List ℕ → Bool
is_replaced name = same_name name (codes "rn") || same_name name (codes "rn-context")

abbrev pub is_kept : List ℕ → Bool
is_kept part = not (is_replaced (name_of part))

-- The parameters that the answer keeps, byte for byte.
abbrev pub kept : List (List ℕ) → List (List ℕ)
kept = filter is_kept

-- The carrier's identification code as a parameter, unless the text has `cic`.
abbrev pub added_carrier : List (List ℕ) → Option ℕ → List (List ℕ)
added_carrier parameters None = []
added_carrier parameters (Some cic) = if has_name (codes "cic") parameters then []
    else (codes "cic=+1" ++ cic_text cic) ∷ []

abbrev pub added_routing : List (List ℕ) → Option Routing → List (List ℕ)
added_routing parameters None = []
added_routing parameters (Some r) =
    (codes "rn=+1" ++ lrn_text r.lrn) ∷ added_carrier parameters r.cic

-- The parameters that the answer adds: `npdi`, and with a routing its `rn` and `cic` (RFC 4694,
-- section 5).
abbrev pub added : List (List ℕ) → Option Routing → List (List ℕ)
added parameters routing = codes "npdi" ∷ added_routing parameters routing

-- The parameters of the answer.
abbrev pub answer_parameters : List (List ℕ) → Option Routing → List (List ℕ)
answer_parameters parameters routing = in_order (kept parameters ++ added parameters routing)

-- The text itself if it has `npdi`; otherwise `tel:`, the number part as written, and the
-- parameters.
abbrev pub answer_text : Uri → Option Routing → List ℕ
answer_text uri routing =
    if has_name (codes "npdi") uri.parameters then uri.text
    else codes "tel:" ++ (uri.number ++ written (answer_parameters uri.parameters routing))

-- Holds if the first text is a prefix of the second.
abbrev pub Extends : List ℕ → List ℕ → Type 0
Extends before after = (rest : List ℕ) × (after ≡ before ++ rest)
