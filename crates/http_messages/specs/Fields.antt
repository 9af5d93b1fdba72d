-- The fields of a head that the engine reads.
use Rattle.std.specs.Prelude.{◌≡◌, ℕ, ◌≤◌, List, [], ◌∷◌, length, map, codes, Bool, true, false, ◌&&◌, ◌||◌, ◌==◌, nat_lt, nat_le, if◌then◌else◌, Option, Some, None, ⊤}
use Rattle.std.specs.List.{list_any}
use Rattle.std.specs.Char.{to_ascii_lowercase}
use Rattle.std.specs.Str.{bytes_eq, all_ascii_digits}
use Rattle.std.specs.Str.Parse.{digits_value}
use Rattle.httparse.specs.Grammar.{RequestHead}
use Rattle.httparse.specs.Spans.{name_and_value, span_bytes, IsWithin}
use Rattle.http_messages.specs.declared.head.Occurrence.{Occurrence}
use Rattle.http_messages.specs.declared.head.Occurrence.TheVariants.{Absent, Once, Twice}

-- The text in lower case.
abbrev pub lower : List ℕ → List ℕ
lower = map to_ascii_lowercase

-- The values of the fields with a name, which is in lower case.
abbrev pub values_in : List ℕ → List (List ℕ × List ℕ) → List (List ℕ)
values_in name [] = []
values_in name (p ∷ ps) = if bytes_eq (lower p.0) name then p.1 ∷ values_in name ps
    else values_in name ps

abbrev pub values_of : List ℕ → RequestHead → List (List ℕ)
values_of name h = values_in name (map name_and_value h.fields)

-- Holds if the outcome says whether there is no value, one or several.
abbrev pub IsFound : List ℕ → Occurrence → List (List ℕ) → Type 0
IsFound buf Absent values = values ≡ []
IsFound buf (Once span) values = (values ≡ span_bytes buf span ∷ []) × IsWithin (length buf) span
IsFound buf Twice values = 2 ≤ length values

-- The number that 1 to 19 digits write.
abbrev pub number_of : List ℕ → Option ℕ
number_of v = if nat_lt 0 (length v) && (nat_le (length v) 19 && all_ascii_digits v)
    then Some (digits_value 10 v) else None

-- The length that the values of `content-length` give: 0 without a value, none with several.
abbrev pub content_length : List (List ℕ) → Option ℕ
content_length [] = Some 0
content_length (v ∷ []) = number_of v
content_length (v ∷ w ∷ vs) = None

abbrev pub is_empty : List (List ℕ) → Bool
is_empty [] = true
is_empty (v ∷ vs) = false

-- The length of the body, or `None` if the head is refused.
abbrev pub body_length : RequestHead → Option ℕ
body_length h = if is_empty (values_of (codes "transfer-encoding") h)
    then content_length (values_of (codes "content-length") h) else None

-- Whether the answer to this head is the last of the connection.
abbrev pub closes : RequestHead → Bool
closes h = h.minor == 0 || list_any (λ v. bytes_eq (lower v) (codes "close"))
    (values_of (codes "connection") h)

-- Holds if the value of a field that occurs once lies in the first n bytes.
abbrev pub IsFoundWithin : ℕ → Occurrence → Type 0
IsFoundWithin n Absent = ⊤
IsFoundWithin n (Once span) = IsWithin n span
IsFoundWithin n Twice = ⊤
