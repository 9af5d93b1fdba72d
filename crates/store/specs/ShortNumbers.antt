-- The numbers of the code's short forms, and the truths in a number.
use Rattle.std.specs.Prelude.{ℕ, Bool, ◌+◌, ◌*◌, ◌%◌, ◌==◌}
use Rattle.store.specs.declared.short.Short.{Short}
use Rattle.store.specs.declared.short.Wide.{Wide}

-- The number in six bytes.
abbrev pub short_of : Short → ℕ
short_of s = s.low + 65536 * (s.middle + 65536 * s.high)

-- The number in two parts.
abbrev pub wide_of : Wide → ℕ
wide_of w = w.low + 4294967296 * w.high

-- Whether the number's lowest bit is set.
abbrev pub is_odd : ℕ → Bool
is_odd n = n % 2 == 1
