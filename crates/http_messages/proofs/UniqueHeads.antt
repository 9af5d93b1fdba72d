-- An input begins with at most one head, and with none if it begins with empty lines only.
use Rattle.std.proofs.Common.{◌≡◌, ℕ, ◌≤◌, List, ◌++◌, length, take, drop, refl, sym, ap, ◌∙◌, arith, rules, [], ◌∷◌, append_assoc, true, length-append}
use Rattle.std.proofs.lemmas.List.{take-append-le, take-append-drop}
use Rattle.std.proofs.Math.Seq.{take-append_seam}
use Rattle.httparse.specs.Grammar.{RequestHead, IsRequestHead, print_request, LineEnd, lf, is_token_byte}
use Rattle.std.proofs.lemmas.Str.{IsUtf8-from_is_utf8}
use Rattle.std.specs.Str.{is_utf8, chars}
use lib.Utf8.{encode}
use Rattle.httparse.proofs.GrammarLemmas.{request_unique, print_request-append, ReadsRequest-append}
use Rattle.httparse.specs.Grammar.{HasNoRequest, print_blank}
use Rattle.httparse.specs.Spans.{RequestOverflows}
use Rattle.http_messages.specs.Head.{HasHead, IsBlank}

-- Of two prefixes of one list, the shorter is a prefix of the longer.
prefix_of : (a b c d : List ℕ) → a ++ b ≡ c ++ d → length c ≤ length a → a ≡ c ++ drop (length c) a
prefix_of a b c d e l =
    let same : take (length c) a ≡ c =
    sym (take-append-le (length c) a b l) ∙ ap (take (length c)) e ∙ take-append_seam c d in
    sym (take-append-drop (length c) a) ∙ ap (λ (t : List ℕ). t ++ drop (length c) a) same

pub one_head : (s : List ℕ) (h k : RequestHead) (r q : List ℕ) → HasHead s h r → HasHead s k q
    → (h ≡ k) × (r ≡ q)
one_head s h k r q x y = request_unique s h k r q x.reads y.reads

-- What follows the bytes follows what is after the head.
pub head_more : (s : List ℕ) (h : RequestHead) (rest more : List ℕ) → HasHead s h rest
    → HasHead (s ++ more) h (rest ++ more)
head_more s h rest more x = record {
  reads = ReadsRequest-append s h rest more x.reads;
  short = x.short;
  few = x.few;
}

-- An input begins with no head if its first 8,192 bytes begin with none.
pub full_no_head : (buf more : List ℕ) (h : RequestHead) (rest : List ℕ) → length buf ≡ 8192
    → HasNoRequest buf → ¬ (HasHead (buf ++ more) h rest)
full_no_head buf more h rest long none x =
    let fits : length (print_request h) ≤ length buf = omega (arith, long, x.short) in
    none h (drop (length (print_request h)) buf) (
      x.reads.0,
      prefix_of buf more (print_request h)
          rest x.reads.1 fits,
    )

-- The shortest head after the empty lines.
abbrev witness : List LineEnd → RequestHead
witness ends = record {
  blank = ends;
  method = 71 ∷ [];
  target = 47 ∷ [];
  minor = 0;
  line_end = lf;
  fields = [];
  last = lf;
}

slash_text : is_utf8 (47 ∷ []) ≡ true
unfolding is_utf8 chars encode
slash_text = refl

is_head : (ends : List LineEnd) → IsRequestHead (witness ends)
unfolding is_token_byte
is_head ends = record {
  method = (search rules, search rules);
  target = (search rules, search rules);
  target_text = IsUtf8-from_is_utf8 (47 ∷ []) slash_text;
  minor = search rules;
  fields = search rules;
}

-- An input of which each head has more than 64 fields is more than empty lines.
pub overflow_not_lines : (buf more : List ℕ) (ends : List LineEnd) → RequestOverflows 64 buf
    → ¬ (buf ++ more ≡ print_blank ends)
unfolding print_request
overflow_not_lines buf more ends over e =
    let tail : List ℕ = 71 ∷ 32 ∷ 47 ∷ 32 ∷ 72 ∷ 84 ∷ 84 ∷ 80 ∷ 47 ∷ 49 ∷ 46 ∷ 48 ∷ 10 ∷ 10 ∷ [] in
    let reads : buf ++ (more ++ tail) ≡ print_request (witness ends) ++ [] =
    sym (append_assoc buf more tail) ∙ ap (λ (t : List ℕ). t ++ tail) e
    ∙ sym (print_request-append (witness ends) []) in
    absurd (omega (arith, over (more ++ tail) (witness ends) [] (is_head ends, reads)))

pub head_not_blank : (s : List ℕ) (h : RequestHead) (rest : List ℕ) → HasHead s h rest
    → ¬ (IsBlank s)
unfolding print_request
head_not_blank s h rest x blank =
    let ends : List LineEnd = blank.0.0 in
    let tail : List ℕ = 71 ∷ 32 ∷ 47 ∷ 32 ∷ 72 ∷ 84 ∷ 84 ∷ 80 ∷ 47 ∷ 49 ∷ 46 ∷ 48 ∷ 10 ∷ 10 ∷ [] in
    let reads : s ++ tail ≡ print_request (witness ends) ++ [] =
    ap (λ (t : List ℕ). t ++ tail) blank.0.1 ∙ sym (print_request-append (witness ends) []) in
    let same = request_unique (s ++ tail) h (witness ends) (rest ++ tail) []
    (ReadsRequest-append s h rest tail x.reads) (is_head ends, reads) in
    absurd (omega (arith, ap length same.1, length-append rest tail))
