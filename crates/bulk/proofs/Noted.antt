-- The note that some line of a report has a refusal.
use Rattle.std.proofs.Common.{◌≡◌, ◌||◌, ℕ, Bool, true, false, List, [], ◌∷◌, ◌++◌, Option, Result, Ok, Err, codes, refl, sym, subst, ◌∙◌, append-nil}
use Rattle.std.specs.List.{concat}
use Rattle.std.specs.Io.KnownBytes.{Appends}
use Rattle.std.specs.Prelude.{OnOk}
use Rattle.std.proofs.KnownBytes.{Appends-nil, Appends-trans}
use Rattle.std.proofs.lemmas.List.Folds.{concat-append}
use Rattle.bulk.specs.Making.{is_refusal, outcome_line}
use Rattle.bulk.specs.Noting.{IsResultLine, Notes, NotesLine, ReportsNoting, SendsNoting}
use Rattle.bulk.specs.Report.{report_header, report_line}
use Rattle.bulk.specs.Running.{SendsOne}
use Rattle.bulk.specs.declared.command_result.CommandResult.{CommandResult}
use Rattle.bulk.specs.declared.command_result.CommandResult.TheVariants as outcome
use Rattle.bulk.specs.declared.fault.BulkFault.{BulkFault}
use Rattle.numbers.specs.Texts.{tn_text}
use Rattle.json_api.specs.Failures.{refusal_name}

-- The line of a result has a refusal if the result is one.
result_line : (row tn : ℕ) (o : CommandResult) → IsResultLine (is_refusal o) (outcome_line row tn o)
result_line row tn (outcome.Version id) = (row, id, tn_text tn, refl)
result_line row tn (outcome.Refused refusal) = (row, tn_text tn, refusal_name refusal, refl)

pub outcome_noted : (text : List ℕ) (row tn : ℕ) (o : CommandResult) (was is : Bool)
    → text ≡ outcome_line row tn o → is ≡ (was || is_refusal o) → NotesLine text was is
outcome_noted text row tn o was is e noted =
    (is_refusal o, subst (IsResultLine (is_refusal o)) (sym e) (result_line row tn o), noted)

or_true : (was : Bool) → true ≡ (was || true)
or_true true = refl
or_true false = refl

-- The line of a bad row has a refusal.
pub bad_noted : (text : List ℕ) (row : ℕ) (was is : Bool)
    → text ≡ report_line row [] (codes "bad_row") [] → is ≡ true → NotesLine text was is
bad_noted text row was is e noted =
    (true, (row, [], codes "bad_row", e), noted ∙ or_true was)

notes_then : (xs ys : List (List ℕ)) (was mid is : Bool) → Notes xs was mid → Notes ys mid is
    → Notes (xs ++ ys) was is
notes_then [] ys was mid is e more = subst (λ (b : Bool). Notes ys b is) (sym e) more
notes_then (x ∷ xs) ys was mid is (refused, line, noted) more =
    (refused, line, notes_then xs ys (was || refused) mid is noted more)

-- No line was sent.
pub none_noted : (had : Option (List ℕ)) (was : Bool) → SendsNoting had had was was
none_noted had was = ([], Appends-nil had, refl)

-- Lines were sent after others.
pub noted_then : (had at has : Option (List ℕ)) (was mid is : Bool) → SendsNoting had at was mid
    → SendsNoting at has mid is → SendsNoting had has was is
noted_then had at has was mid is (xs, sent, noted) (ys, more, then) = (
  xs ++ ys,
  subst (Appends had has) (sym (concat-append xs ys))
      (Appends-trans had at has (concat xs) (concat ys) sent more),
  notes_then xs ys was mid is noted then,
)

-- One line was sent.
pub one_noted : (had has : Option (List ℕ)) (text : List ℕ) (was is : Bool) (count : ℕ)
    (r : Result ℕ BulkFault) → NotesLine text was is → SendsOne had has text count r
    → OnOk r (SendsNoting had has was is)
one_noted had has text was is count (Err fault) noted sent = tt
one_noted had has text was is count (Ok k) (refused, line, noted) (sent, is_next) = (
  text ∷ [],
  subst (Appends had has) (sym (append-nil text)) sent,
  (refused, line, sym noted),
)

-- The same in a result of lines.
pub noted_if_ok : (had at has : Option (List ℕ)) (was mid is : Bool) (r : Result ℕ BulkFault)
    → SendsNoting had at was mid → OnOk r (SendsNoting at has mid is)
    → OnOk r (SendsNoting had has was is)
noted_if_ok had at has was mid is (Err fault) before now = tt
noted_if_ok had at has was mid is (Ok k) before now = noted_then had at has was mid is before now

-- A report was sent after its header.
pub report_noted : (had at has : Option (List ℕ)) (was noted : Bool) (r : Result ℕ BulkFault)
    → Appends had at report_header → was ≡ false → OnOk r (SendsNoting at has was noted)
    → OnOk r (ReportsNoting had has noted)
report_noted had at has was noted (Err fault) header fresh sent = tt
report_noted had at has was noted (Ok k) header fresh sent =
    (at, header, subst (λ (b : Bool). SendsNoting at has b noted) fresh sent)
