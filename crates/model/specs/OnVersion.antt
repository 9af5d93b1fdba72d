-- The tests that refuse a command on a version, over the version that it names.
use Rattle.std.specs.Prelude.{ℕ, Bool, true, false, not, ◌&&◌, ◌||◌, ◌==◌, List, [], ◌∷◌, Option}
use Rattle.numbers.specs.Subjects.{Subject, Number, Block}
use Rattle.model.specs.Commands.{VersionCommand, Activate, PutInConflict, RemoveFromConflict, Cancel, OldProviderCancellationAcknowledge, NewProviderCancellationAcknowledge, Disconnect, ModifyRouting}
use Rattle.model.specs.Windows.{Windows}
use Rattle.model.specs.Versions.{Version}
use Rattle.model.specs.Conditions.{holds_of, is_cancel_pending, is_active, can_activate, can_cancel, is_pending, is_conflict, is_past, is_late_conflict, lacks_concurrence, is_not_yet_due, has_no_attempt_left, is_neither, may_not_cancel, is_cancellers, is_early_removal, is_protected}
use Rattle.model.specs.History.{has_both_creates}
use Rattle.model.specs.State.{SubjectVersion}

-- Whether a version was found, and passes the test.
abbrev pub of_found : (Version → Bool) → Option SubjectVersion → Bool
of_found test found = holds_of (λ (e : SubjectVersion). test e.version) found

abbrev pub is_number : Subject → Bool
is_number (Number n) = true
is_number (Block b) = false

-- `w` is the present windows, which judge only whether a conflict comes too late; ages are judged
-- by the windows that the version holds. `opened` says whether a subject has an open version, and
-- `owns` whether a routing number is the carrier's.
module _ (w : Windows) (now caller : ℕ) (opened : Subject → Bool) (owns : (lrn carrier : ℕ)
    → Bool) where
  -- The tests of each command, besides those that all of them have (`own_tests`, `Refusals`).
  abbrev pub version_tests : VersionCommand → Option SubjectVersion → List (ℕ × Bool)
  version_tests Activate e =
      (11, of_found (λ v. not (caller == v.new_provider)) e)
      ∷ (13, of_found (λ v. not (can_activate v.status)) e)
      ∷ (
        16,
        of_found (λ v. lacks_concurrence v.held.windows now v.status v.old_at v.new_at v.since) e,
      ) ∷ (17, of_found (λ v. is_not_yet_due now v.status v.due) e)
      ∷ (28, of_found (λ v. has_no_attempt_left v.attempt) e) ∷ []
  version_tests PutInConflict e =
      (11, of_found (λ v. not (caller == v.old_provider)) e)
      ∷ (13, of_found (λ v. not (is_pending v.status)) e)
      ∷ (18, of_found (λ v. v.spent) e) ∷ (19, of_found (λ v. is_late_conflict w now v.due) e) ∷ []
  version_tests RemoveFromConflict e =
      (11, of_found (λ v. is_neither caller v.old_provider v.new_provider) e)
      ∷ (13, of_found (λ v. not (is_conflict v.status)) e)
      ∷ (16, of_found (λ v. not (has_both_creates v.old_at v.new_at)) e) ∷ (
        20,
        of_found (λ v. is_early_removal v.held.windows now caller v.new_provider v.since) e,
      ) ∷ []
  version_tests Cancel e = (
    11,
    of_found (λ v. is_neither caller v.old_provider v.new_provider || may_not_cancel caller
        v.old_provider v.new_provider v.old_at v.new_at v.status) e,
  )
      ∷ (13, of_found (λ v. not (can_cancel v.status)) e)
      ∷ (21, of_found (λ v. is_protected v.status v.protective) e) ∷ []
  version_tests OldProviderCancellationAcknowledge e = (
    11,
    of_found (λ v. not (caller == v.old_provider) || is_cancellers caller v.old_provider
        v.new_provider v.status) e,
  )
      ∷ (13, of_found (λ v. not (is_cancel_pending v.status)) e) ∷ []
  version_tests NewProviderCancellationAcknowledge e = (
    11,
    of_found (λ v. not (caller == v.new_provider) || is_cancellers caller v.old_provider
        v.new_provider v.status) e,
  )
      ∷ (13, of_found (λ v. not (is_cancel_pending v.status)) e) ∷ []
  version_tests (Disconnect release) e =
      (11, of_found (λ v. not (caller == v.new_provider)) e)
      ∷ (12, holds_of (λ (x : SubjectVersion). opened x.subject) e)
      ∷ (13, of_found (λ v. not (is_active v.status)) e) ∷ (14, holds_of (is_past now) release)
      ∷ (28, of_found (λ v. has_no_attempt_left v.attempt) e) ∷ []
  version_tests (ModifyRouting lrn cic) e = (
    7,
    holds_of (λ (x : SubjectVersion). is_number x.subject && not (owns lrn x.version.new_provider))
        e,
  )
      ∷ (11, of_found (λ v. not (caller == v.new_provider)) e)
      ∷ (12, holds_of (λ (x : SubjectVersion). opened x.subject) e)
      ∷ (13, of_found (λ v. not (is_active v.status)) e)
      ∷ (28, of_found (λ v. has_no_attempt_left v.attempt) e) ∷ []
