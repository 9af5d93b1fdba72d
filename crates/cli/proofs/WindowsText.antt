-- A windows file that is written is read as its windows.
use Rattle.std.proofs.Common.{◌≡◌, ℕ, ◌<◌, ◌^◌, pos, suc, Bool, true, false, List, [], ◌∷◌, ◌++◌, length, codes, decimal, Some, None, option_map, refl, sym, ap, ◌∙◌, arith, append-nil, append_assoc}
use Rattle.std.specs.Int.{w64}
use Rattle.std.specs.Prelude.{FitsSigned}
use Rattle.std.specs.Str.Parse.{AllDigits}
use Rattle.std.proofs.lemmas.Bool.Decides.{nat_tests}
use Rattle.std.proofs.lemmas.Fmt.{decimal_is_IsNumeral}
use Rattle.std.proofs.lemmas.Str.Parse.{digit_from_value}
use Rattle.toml_parser.specs.Lexical.{first, skip_blank, skip_from, skip_turn}
use Rattle.toml_writer.specs.Text.{key_text}
use Rattle.toml.specs.Data.{Members, integer, member, no_members}
use Rattle.toml.specs.Parse.{lines, parse_document, skip_bom}
use Rattle.toml.specs.Tables.{Document, Expression, close, key_value, no_nodes}
use Rattle.toml.specs.Text.{IsLinesText}
use Rattle.toml.proofs.OnLiterals.{toml_on_literals}
use Rattle.toml.proofs.ReadLines.{AllPrinted, read_lines, run}
use Rattle.windows.specs.File.{IsTable, fault_in_keys, fault_of, fault_of_table, is_window, lesser, minutes_of, window_names}
use Rattle.windows.specs.declared.window.Window.{Window}
use Rattle.windows.specs.declared.window.Windows.{Windows}
use Rattle.cli.specs.WindowsText.{ReadsAs, comment_line, set_text, window_line, window_lines}

-- What the lines of windows define.
abbrev pairs_of : List (List ℕ) → List ℕ → List Expression
pairs_of (name ∷ names) (minutes ∷ others) =
    (([], name), key_value (integer (pos minutes))) ∷ pairs_of names others
pairs_of _ _ = []

-- Holds if the names are written as they are, and the numbers fit.
abbrev AreWritten : List (List ℕ) → List ℕ → Type 0
AreWritten (name ∷ names) (minutes ∷ others) =
    (key_text name ≡ name) × FitsSigned w64 (pos minutes) × AreWritten names others
AreWritten _ _ = Unit {0}

lines_are : (started : Bool) (names : List (List ℕ)) (minutes : List ℕ)
    → AreWritten names minutes → IsLinesText false started (pairs_of names minutes)
    (window_lines names minutes)
lines_are started [] minutes written = refl
lines_are started (name ∷ names) [] written = refl
lines_are started (name ∷ names) (m ∷ minutes) (named, fits, more) = (
  window_line name m,
  window_lines names minutes,
  refl,
  (
    decimal m,
    ap (λ (t : List ℕ). t ++ (codes " = " ++ (decimal m ++ 10 ∷ []))) (sym named),
    (refl, fits),
  ),
  lines_are true names minutes more,
)

all_printed : (names : List (List ℕ)) (minutes : List ℕ) → AllPrinted (pairs_of names minutes)
all_printed [] minutes = tt
all_printed (name ∷ names) [] = tt
all_printed (name ∷ names) (m ∷ minutes) = ((refl, omega arith, refl), all_printed names minutes)

-- The digits of a comment are skipped.
digits_skipped : (ds rest : List ℕ) → AllDigits 10 ds
    → skip_from true true (ds ++ 10 ∷ rest) ≡ skip_blank rest
unfolding skip_from
digits_skipped [] rest are = refl
digits_skipped (d ∷ ds) rest are =
    let small = digit_from_value d are.0 in
    let turn : skip_turn true true d (first (ds ++ 10 ∷ rest)) ≡ Some true =
    grind (arith, nat_tests) in
    rw turn (digits_skipped ds rest are.1)

comment_skipped : (number : ℕ) (rest : List ℕ) → number < 2 ^ 64
    → skip_blank (codes "# Set " ++ (decimal number ++ 10 ∷ rest)) ≡ skip_blank rest
unfolding skip_from
comment_skipped number rest small =
    digits_skipped (decimal number) rest (decimal_is_IsNumeral number small).0.1

no_bom : (text : List ℕ) → skip_bom (35 ∷ text) ≡ 35 ∷ text
unfolding skip_bom
no_bom text = refl

-- The table that the lines of windows define.
members_of : Windows → Members
members_of w =
    member (codes "broadcast") (integer (pos w.broadcast.minutes))
    (member (codes "cancellation_final") (integer (pos w.cancellation_final.minutes))
    (member (codes "cancellation_initial") (integer (pos w.cancellation_initial.minutes))
    (member (codes "conflict_expiration") (integer (pos w.conflict_expiration.minutes))
    (member (codes "conflict_resolution") (integer (pos w.conflict_resolution.minutes))
    (member (codes "conflict_restriction") (integer (pos w.conflict_restriction.minutes))
    (member (codes "final_concurrence") (integer (pos w.final_concurrence.minutes))
    (member (codes "initial_concurrence") (integer (pos w.initial_concurrence.minutes))
    (member (codes "pending_retention") (integer (pos w.pending_retention.minutes)) no_members))))))))

defined : (w : Windows) → option_map (λ doc. close doc.0)
    (run (no_nodes, []) (pairs_of window_names (minutes_of w))) ≡ Some (members_of w)
unfolding toml_on_literals members_of
defined w = refl

-- Another line after a text.
then_line : (before after line rest : List ℕ) → after ≡ before ++ line
    → after ++ rest ≡ before ++ (line ++ rest)
then_line before after line rest e =
    ap (λ (t : List ℕ). t ++ rest) e ∙ append_assoc before line rest

-- A text after the lines were added one by one.
pub all_lines : (number : ℕ) (w : Windows) (a b c d e f g h i j : List ℕ)
    → a ≡ comment_line number
    → b ≡ a ++ window_line (codes "initial_concurrence") w.initial_concurrence.minutes
    → c ≡ b ++ window_line (codes "final_concurrence") w.final_concurrence.minutes
    → d ≡ c ++ window_line (codes "conflict_restriction") w.conflict_restriction.minutes
    → e ≡ d ++ window_line (codes "conflict_resolution") w.conflict_resolution.minutes
    → f ≡ e ++ window_line (codes "conflict_expiration") w.conflict_expiration.minutes
    → g ≡ f ++ window_line (codes "cancellation_initial") w.cancellation_initial.minutes
    → h ≡ g ++ window_line (codes "cancellation_final") w.cancellation_final.minutes
    → i ≡ h ++ window_line (codes "pending_retention") w.pending_retention.minutes
    → j ≡ i ++ window_line (codes "broadcast") w.broadcast.minutes
    → j ≡ set_text number w
all_lines number w a b c d e f g h i j head one two three four five six seven eight nine =
    let lines = window_lines window_names (minutes_of w) in
    sym (append-nil j) ∙ then_line i j _ [] nine ∙ then_line h i _ _ eight
    ∙ then_line g h _ _ seven ∙ then_line f g _ _ six ∙ then_line e f _ _ five
    ∙ then_line d e _ _ four ∙ then_line c d _ _ three ∙ then_line b c _ _ two
    ∙ then_line a b _ _ one ∙ ap (λ (t : List ℕ). t ++ lines) head

fits : (window : Window) → FitsSigned w64 (pos window.minutes)
fits window = let range = window.in_range in omega (arith, range.1)

are_written : (w : Windows) → AreWritten window_names (minutes_of w)
unfolding key_text
are_written w = (
  refl,
  fits w.initial_concurrence,
  (
    refl,
    fits w.final_concurrence,
    (
      refl,
      fits w.conflict_restriction,
      (
        refl,
        fits w.conflict_resolution,
        (
          refl,
          fits w.conflict_expiration,
          (
            refl,
            fits w.cancellation_initial,
            (
              refl,
              fits w.cancellation_final,
              (
                refl,
                fits w.pending_retention,
                (refl, fits w.broadcast, tt),
              ),
            ),
          ),
        ),
      ),
    ),
  ),
)

is_table : (w : Windows) → IsTable (members_of w) w
unfolding members_of
is_table w = refl

is_in_range : (window : Window) → is_window (pos window.minutes) ≡ true
is_in_range window = let range = window.in_range in grind (arith, nat_tests)

is_faultless : (w : Windows) → fault_of_table (members_of w) ≡ None
unfolding members_of lesser fault_in_keys
is_faultless w = rw (
  is_in_range w.initial_concurrence,
  is_in_range w.final_concurrence,
  is_in_range w.conflict_restriction,
  is_in_range w.conflict_resolution,
  is_in_range w.conflict_expiration,
  is_in_range w.cancellation_initial,
  is_in_range w.cancellation_final,
  is_in_range w.pending_retention,
  is_in_range w.broadcast,
) refl

-- The text is parsed as the table.
is_parsed : (number : ℕ) (w : Windows) → number < 2 ^ 64
    → parse_document (set_text number w) ≡ Some (members_of w)
unfolding parse_document
is_parsed number w small =
    let names = window_names in
    let minutes = minutes_of w in
    let rest = window_lines names minutes in
    let text = set_text number w in
    let whole : text ≡ codes "# Set " ++ (decimal number ++ 10 ∷ rest) =
    ap (λ (t : List ℕ). codes "# Set " ++ t) (append_assoc (decimal number) (10 ∷ []) rest) in
    let skip : skip_blank text ≡ skip_blank rest =
    ap skip_blank whole ∙ comment_skipped number rest small in
    let read = read_lines false false (pairs_of names minutes) rest text (no_nodes, [])
    (suc (length text)) (lines_are false names minutes (are_written w)) (all_printed names minutes)
    skip (omega arith) in
    let doc : lines (suc (length text)) (no_nodes, []) (skip_bom text)
    ≡ run (no_nodes, []) (pairs_of names minutes) =
    ap (lines (suc (length text)) (no_nodes, [])) (no_bom _) ∙ read in
    ap (option_map (λ (d : Document). close d.0)) doc ∙ defined w

-- The text of a set is read as its windows.
pub text_is_read : (text : List ℕ) (number : ℕ) (w : Windows) → number < 2 ^ 64
    → text ≡ set_text number w → ReadsAs text w
text_is_read text number w small is =
    let parsed = ap parse_document is ∙ is_parsed number w small in
    record {
      gives = (members_of w, parsed, is_table w);
      faultless = ap fault_of parsed ∙ is_faultless w;
    }
