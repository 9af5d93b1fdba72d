-- Worked audits, computed from the definitions.
use Rattle.std.specs.Prelude.{◌≡◌, ◌==◌, ℕ, Bool, true, false, List, [], ◌∷◌, ◌++◌, Option, Some, None, refl, if◌then◌else◌}
use Rattle.std.proofs.Common.{ap, sym, ◌∙◌, lit<, lit≤}
use Rattle.std.specs.List.{list_any}
use Rattle.numbers.specs.Routings.{Routing}
use Rattle.numbers.specs.Subjects.{Subject, Number, subject_eq}
use Rattle.numbers.specs.Abstraction.{subject_of}
use Rattle.numbers.specs.declared.ported.Subject.{Subject as SubjectImpl}
use Rattle.numbers.specs.declared.ported.Subject.TheVariants as code
use Rattle.numbers.specs.declared.tn.Tn.{Tn}
use Rattle.model.specs.Copies.{copy_of_rows}
use Rattle.model.proofs.Examples.{a, b, c, n, both_creates, start}
use Rattle.model.specs.Commands.{OnVersion, Activate}
use Rattle.model.specs.History.{CommandRequest, AcknowledgementRequest, replay_of, replay_step, effect}
use Rattle.model.specs.Judge.{judge, judged_for, judged_version}
use Rattle.model.specs.Machine.{next, out, state_after}
use Rattle.model.specs.State.{State, InForce, all_in_force, queue}
use Rattle.model.specs.Refusals.{Input, ClockMoment, RequestFrom, tests}
use Rattle.bulk.specs.Findings.{AreFindings, awaited, finding_at, finding_of, finding_in}
use Rattle.bulk.specs.declared.finding.Finding.TheVariants.{Waiting, Missing, Extra, Different}
use Rattle.bulk.specs.declared.finding.SubjectFinding.{SubjectFinding}

-- A port from BBBB to AAAA, sent at 200.
abbrev sent_at_200 : List Input
sent_at_200 = both_creates 200 ++ ClockMoment 200
    ∷ RequestFrom a (CommandRequest (OnVersion 1 Activate)) ∷ []

-- Acknowledged by one carrier at 214; the window ends at 215.
abbrev part_at_215 : State
part_at_215 =
    state_after start (sent_at_200 ++ ClockMoment 214 ∷ RequestFrom c (AcknowledgementRequest 1 1)
    ∷ ClockMoment 215 ∷ [])

-- Acknowledged by all at 201.
abbrev active_at_201 : State
active_at_201 =
    state_after start (sent_at_200 ++ ClockMoment 201 ∷ RequestFrom a (AcknowledgementRequest 1 1)
    ∷ RequestFrom b (AcknowledgementRequest 1 1) ∷ RequestFrom c (AcknowledgementRequest 1 1) ∷ [])

-- The number is in force with a routing to AAAA; the copy of CCCC routes it to CCCC, and another
-- number to BBBB.
abbrev other : ℕ
other = 2025339999

abbrev to : ℕ → Option Routing
to lrn = Some (record { lrn = lrn; cic = None })

abbrev row : ℕ → ℕ → InForce
row tn lrn = record { subject = Number tn; routing = to lrn }

abbrev copy : List InForce
copy = row n 2025550000 ∷ row other 2025330000 ∷ []

abbrev force : List InForce
force = row n 2025440000 ∷ []

force_is : all_in_force active_at_201 ≡ force
unfolding next replay_of replay_step effect judge judged_for judged_version queue tests out
force_is = refl

none_waits : awaited active_at_201 c ≡ []
unfolding next replay_of replay_step effect judge judged_for judged_version queue tests out
none_waits = refl

abbrev number : Tn
number = record { number = n; valid = (lit< tt, lit≤ tt, lit≤ tt) }

abbrev other_number : Tn
other_number = record { number = other; valid = (lit< tt, lit≤ tt, lit≤ tt) }

abbrev findings : List SubjectFinding
findings = record {
  subject = code.Number number;
  finding = Different;
} ∷ record { subject = code.Number other_number; finding = Extra } ∷ []

-- The findings by the rows in force and the copy, without pending downloads.
by_rows : (s : SubjectImpl)
    → finding_in findings (subject_of s) ≡ finding_of false (copy_of_rows force (subject_of s))
    (copy_of_rows copy (subject_of s))
by_rows (code.Block block) = refl
by_rows (code.Number tn) = go (n == tn.number) (other == tn.number)
  where
    go : (x y : Bool) → (if x then Some Different else (if y then Some Extra else None))
        ≡ finding_of false (if x then to 2025440000 else None) (if y then to 2025330000
        else (if x then to 2025550000 else None))
    go true true = refl
    go true false = refl
    go false true = refl
    go false false = refl

-- The routing of the first number differs, and the other number is not in force.
pub different_and_extra : AreFindings active_at_201 c copy findings
different_and_extra = record {
  rise = ((refl, tt), (tt, tt));
  each = λ s.
      by_rows s
      ∙ ap (λ (rows : List InForce). finding_of false (copy_of_rows rows (subject_of s))
      (copy_of_rows copy (subject_of s))) (sym force_is)
      ∙ ap (λ (ts : List Subject). finding_of (list_any (λ t. subject_eq t (subject_of s)) ts)
      (copy_of_rows (all_in_force active_at_201) (subject_of s)) (copy_of_rows copy (subject_of s)))
      (sym none_waits);
}

-- A pending download is found before a difference: after a partial failure, for a carrier that has
-- not acknowledged it.
waiting_first : finding_at part_at_215 a copy (Number n) ≡ Some Waiting
unfolding next replay_of replay_step effect judge judged_for judged_version queue tests out
waiting_first = refl

different_else : finding_at part_at_215 c copy (Number n) ≡ Some Different
unfolding next replay_of replay_step effect judge judged_for judged_version queue tests out
different_else = refl

-- A number in force that the copy lacks, and one with the same routing in both.
missing : finding_at active_at_201 c [] (Number n) ≡ Some Missing
unfolding next replay_of replay_step effect judge judged_for judged_version queue tests out
missing = refl

agrees : finding_at active_at_201 c force (Number n) ≡ None
unfolding next replay_of replay_step effect judge judged_for judged_version queue tests out
agrees = refl
