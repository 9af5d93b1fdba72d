-- The memory reserved for a response.
use Rattle.std.specs.Prelude.{◌≡◌, ℕ, ◌+◌, ◌≤◌, string_len, string_capacity}
use Rattle.json_api.specs.declared.response.ResponseBuffer.{ResponseBuffer}

-- The most bytes of a response's head.
abbrev pub head_capacity : ℕ
head_capacity = 160

-- Holds if a body of `n` bytes and its whole response fit.
pub record HasCapacity (n : ℕ) (r : ResponseBuffer) : Type 0 where
  pub body : n ≤ string_capacity r.body
  pub text : n + head_capacity ≤ string_capacity r.text

-- Holds if nothing is written yet.
pub record IsEmpty (r : ResponseBuffer) : Type 0 where
  pub body : string_len r.body ≡ 0
  pub text : string_len r.text ≡ 0

-- Holds if the body is written, and the whole response fits.
pub record IsWritten (r : ResponseBuffer) : Type 0 where
  pub text : string_len r.text ≡ 0
  pub fits : string_len r.body + head_capacity ≤ string_capacity r.text
