-- The heads and empty lines that an input may begin with.
use Rattle.std.specs.Prelude.{◌≡◌, ℕ, ◌<◌, ◌≤◌, List, length, Option, Some, None, codes}
use Rattle.httparse.specs.Grammar.{LineEnd, print_blank, RequestHead, print_request, ReadsRequest}
use Rattle.httparse.specs.Grammar.{HasNoRequest}
use Rattle.httparse.specs.Spans.{IsRequestAt, IsRequestWithin, span_bytes, RequestOverflows}
use Rattle.httparse.specs.declared.spans.HeaderSpan.{HeaderSpan}
use Rattle.http_messages.specs.declared.head.HeadParse.{HeadParse}
use Rattle.http_messages.specs.declared.head.HeadParse.TheVariants.{Head, Bad, More}
use Rattle.http_messages.specs.Fields.{body_length, closes, values_of, IsFound}
use Rattle.http_messages.specs.declared.head.Head.{Head as Summary}

-- Holds if s is a head within the limits, followed by rest.
pub record HasHead (s : List ℕ) (h : RequestHead) (rest : List ℕ) : Type 0 where
  pub reads : ReadsRequest s h rest
  pub short : length (print_request h) ≤ 8192
  pub few : length h.fields ≤ 64

-- Holds if s is empty lines only.
abbrev pub IsEmptyLines : List ℕ → Type 0
IsEmptyLines s = (ends : List LineEnd) × (s ≡ print_blank ends)

-- Holds if s is empty lines only, few enough to be ignored.
abbrev pub IsBlank : List ℕ → Type 0
IsBlank s = IsEmptyLines s × (length s < 8192)

-- Holds if s is not blank, and no head within the limits at its start gives a length.
pub record IsBad (s : List ℕ) : Type 0 where
  pub not_blank : ¬ (IsBlank s)
  pub none : (h : RequestHead) (rest : List ℕ) → HasHead s h rest → body_length h ≡ None

-- Holds if the result is right. `Head`: the bytes begin with a whole head within the limits. `Bad`:
-- however they continue, a head has more than 64 fields. `More`: no whole head yet.
abbrev pub IsHeadParse : List ℕ → List HeaderSpan → HeadParse → Type 0
IsHeadParse buf headers (Head spans) = IsRequestWithin buf headers spans
    × ((h : RequestHead) × IsRequestAt buf headers spans h × (length h.fields ≤ 64))
IsHeadParse buf headers Bad = RequestOverflows 64 buf
IsHeadParse buf headers More = HasNoRequest buf

-- Holds if the summary is what the engine reads of a head; `None` if the head is refused.
abbrev pub IsHeadOf : List ℕ → RequestHead → Option Summary → Type 0
IsHeadOf buf h None = body_length h ≡ None
IsHeadOf buf h (Some head) =
    (body_length h ≡ Some head.body) × (head.closes ≡ closes h)
    × IsFound buf head.caller (values_of (codes "x-spid") h)
    × (span_bytes buf head.method ≡ h.method) × (span_bytes buf head.target ≡ h.target)
    × (head.len ≡ length (print_request h))
