-- The head and the body of a response, byte for byte.
use Rattle.std.specs.Prelude.{◌≡◌, ◌⊎◌, ℕ, ◌+◌, ◌≤◌, List, [], ◌++◌, length, codes, decimal, unwrap_or}
use Rattle.http.specs.StatusCode.{code_digits, reason_phrase}

-- The reason phrase of a status in `http`.
unfoldable pub phrase : ℕ → List ℕ
phrase code = unwrap_or (reason_phrase code) []

-- The status line and the two header fields, up to the length of the body.
abbrev pub head_start : ℕ → List ℕ
head_start code =
    codes "HTTP/1.1 " ++ code_digits code ++ codes " " ++ phrase code
    ++ codes "\r\ncontent-type: application/json\r\ncontent-length: "

-- The status line, the two header fields and the empty line.
abbrev pub head : ℕ → ℕ → List ℕ
head code len = head_start code ++ decimal len ++ codes "\r\n\r\n"

-- The whole response.
abbrev pub response : ℕ → List ℕ → List ℕ
response code body = head code (length body) ++ body

-- The body of a refusal.
abbrev pub refusal_body : List ℕ → ℕ → List ℕ
refusal_body name number = codes "{\"error\":\"" ++ name ++ codes "\",\"number\":" ++ decimal number
    ++ codes "}"

-- Holds for the statuses that responses have.
abbrev pub IsAnswered : ℕ → Type 0
IsAnswered code = (code ≡ 200) ⊎ (code ≡ 400) ⊎ (code ≡ 403) ⊎ (code ≡ 404) ⊎ (code ≡ 405)
    ⊎ (code ≡ 409) ⊎ (code ≡ 413) ⊎ (code ≡ 503)

-- Holds if at most `most` bytes are appended, and the capacity does not shrink.
pub record Grows (most old_len new_len old_capacity new_capacity : ℕ) : Type 0 where
  pub len : new_len ≤ old_len + most
  pub capacity : old_capacity ≤ new_capacity
