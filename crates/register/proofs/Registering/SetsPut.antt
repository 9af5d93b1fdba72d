-- The answer to a set of windows and the content after it.
use Rattle.std.proofs.Common.{◌≡◌, ℕ, ◌+◌, Bool, true, false, not, [], ◌∷◌, Option, Some, None, refl, ap, sym, ◌∙◌}
use Rattle.std.specs.Prelude.{◌==◌, nat_le, is_some}
use Rattle.model.specs.Commands.{SetWindows}
use Rattle.model.specs.Content.{Content, ClockRow}
use Rattle.model.specs.History.{CommandRequest}
use Rattle.model.specs.Machine.{WindowsSet}
use Rattle.model.specs.State.{State, set_now}
use Rattle.model.specs.Refusals.{RequestFrom, first_refusal, npac, refusal, tests}
use Rattle.model.specs.Windows.{Windows, AreWindows}
use Rattle.settle.specs.Changes.{AppliesChanges, no_changes}
use Rattle.settle.proofs.WindowsPut.{windows_put-represents}
use Rattle.register.specs.Refinement.{Refines}
use Rattle.register.specs.Settling.{SimulatesSettledStep}
use Rattle.register.proofs.EveryCall.Composed.{answers_accepted}
use Rattle.register.proofs.OnVersions.OnVersion.{clock_is_of}
use Rattle.register.proofs.Records.Touched.{clock-written}

-- ---- who may set windows, and how often

abbrev sets_refusal : (is_admin full : Bool) → Option ℕ
sets_refusal is_admin full = first_refusal ((2, not is_admin) ∷ (28, full) ∷ [])

sets_tests : (st : State) (caller : ℕ) (windows : Windows) →
    refusal st (RequestFrom caller (CommandRequest (SetWindows windows)))
    ≡ sets_refusal (caller == npac) (nat_le 1000 (set_now st).number)
unfolding tests
sets_tests st caller windows = refl

module _ (old : Content) (caller : ℕ) (windows : Windows) where
  pub sets_not_admin : (caller == npac) ≡ false → (st : State) → Refines old st →
      refusal st (RequestFrom caller (CommandRequest (SetWindows windows))) ≡ Some 2
  sets_not_admin other st refines = sets_tests st caller windows
      ∙ ap (λ b. sets_refusal b (nat_le 1000 (set_now st).number)) other

  module _ (admin : (caller == npac) ≡ true) (clock : ClockRow) (clock_is : old.clock ≡ Some clock)
    where
      by_number : (full : Bool) → nat_le 1000 clock.present.number ≡ full → (st : State) →
          Refines old st →
          refusal st (RequestFrom caller (CommandRequest (SetWindows windows))) ≡ sets_refusal true
          full
      by_number full is st refines =
          sets_tests st caller windows ∙ ap (λ b. sets_refusal b (nat_le 1000 (set_now st).number))
          admin
          ∙ ap (λ (k : ClockRow). sets_refusal true (nat_le 1000 k.present.number))
          (sym (clock_is_of old st clock refines.represents clock_is))
          ∙ ap (sets_refusal true) is

      pub sets_full : nat_le 1000 clock.present.number ≡ true → (st : State) → Refines old st →
          refusal st (RequestFrom caller (CommandRequest (SetWindows windows))) ≡ Some 28
      sets_full full st refines = by_number true full st refines

      sets_accepted : nat_le 1000 clock.present.number ≡ false → (st : State) → Refines old st →
          refusal st (RequestFrom caller (CommandRequest (SetWindows windows))) ≡ None
      sets_accepted room st refines = by_number false room st refines

-- ---- the content after it

pub answers_sets : (old new : Content) (caller : ℕ) (windows : Windows) (clock : ClockRow) →
    (caller == npac) ≡ true → old.clock ≡ Some clock →
    nat_le 1000 clock.present.number ≡ false → AreWindows windows →
    AppliesChanges (record no_changes {
      set = Some
          (record { number = clock.present.number + 1; windows = windows });
    }) old new →
    SimulatesSettledStep old new (RequestFrom caller (CommandRequest (SetWindows windows)))
    (Some (WindowsSet clock.minute (clock.present.number + 1)))
answers_sets old new caller windows clock admin clock_is room are changed =
    answers_accepted old new (RequestFrom caller (CommandRequest (SetWindows windows)))
    (WindowsSet clock.minute (clock.present.number + 1)) (λ st refines settled.
    let ok = sets_accepted old caller windows admin clock clock_is room st refines in (
      ok,
      ap (λ (k : ClockRow). WindowsSet k.minute (k.present.number + 1))
          (clock_is_of old st clock refines.represents clock_is),
      record {
        represents = windows_put-represents st old new caller windows clock refines.represents
            clock_is are ok (λ s. settled s refl) changed;
        written = ap is_some changed.clock ∙ clock-written None
            (Some (record { number = clock.present.number + 1; windows = windows })) old.clock
            refines.written;
      },
      λ t other. let never : true ≡ false = other in cc,
    ))
