-- The bytes that were read and not yet consumed.
use Rattle.std.specs.Prelude.{◌≡◌, ℕ, ◌+◌, ◌-◌, ◌≤◌, List, ◌++◌, length, take, drop, Option}
use Rattle.std.specs.Io.KnownBytes.{Consumes, IsAtEnd, prepend_known}
use Rattle.http_messages.specs.declared.read_buffer.ReadBuffer.{ReadBuffer}

-- The buffered bytes.
abbrev pub buffered_bytes : ReadBuffer → List ℕ
buffered_bytes h = take (h.filled - h.start) (drop h.start h.bytes.items)

-- The rest of the input, if the reader's bytes are known: the buffered bytes, then the reader's.
abbrev pub remaining_input : ReadBuffer → Option (List ℕ) → Option (List ℕ)
remaining_input h remaining = prepend_known (buffered_bytes h) remaining

-- Holds if a read put n bytes into the buffer, between start and stop. It gives none only at the
-- end of the input.
pub record ReadsAt (old new : List ℕ) (start stop n : ℕ) (had has : Option (List ℕ)) : Type 0 where
  pub fits : start + n ≤ stop
  pub within : stop ≤ length old
  pub more : List ℕ
  pub count : length more ≡ n
  pub kept : take (start + n) new ≡ take start old ++ more
  pub read : Consumes had has more
  pub end : n ≡ 0 → IsAtEnd has
