use Rattle.std.proofs.Common.{arith, rules, ◌≡◌, ◌+◌, ◌<◌, ◌≤◌, ℕ, true, false, Some, ap, sym, subst, ◌∙◌}
use Rattle.std.specs.Prelude.{◌==◌, ◌-◌, ◌^◌, min, nat_le, option_map}
use Rattle.std.proofs.lemmas.Bool.Decides.{nat_tests}
use Rattle.model.specs.Commands.{SetWindows}
use Rattle.model.specs.History.{CommandRequest}
use Rattle.model.specs.Machine.{WindowsSet}
use Rattle.model.specs.Refusals.{RequestFrom, npac}
use Rattle.model.specs.Windows.{WindowSet}
use Rattle.model.specs.declared.refusal.Refusal.TheVariants.{NotAdmin, Full}
use Rattle.settle.specs.Changes.{Changes, AppliesChanges, no_changes}
use Rattle.settle.specs.Abstraction.{clock_row_of}
use Rattle.version.proofs.Ends.{windows_are}
use Rattle.version.specs.Abstraction.{windows_of}
use Rattle.register.specs.Settling.{SimulatesSettledStep}
use Rattle.register.proofs.EveryCall.Deciding.{decides_refused}
use Rattle.register.proofs.Registering.SetsPut.{sets_not_admin, sets_full, answers_sets}
use Rattle.register.proofs.clock.set_windows.Goals as goal

-- The next number is below its greatest value.
next_number : (n next : ℕ) → n < 1000 → next ≡ min (n + 1) (2 ^ 16 - 1) → next ≡ n + 1
next_number n next below is = omega arith

below_test : (n : ℕ) → n < 1000 → nat_le 1000 n ≡ false
below_test n below = grind (arith, nat_tests)

past_test : (n : ℕ) → 1000 ≤ n → nat_le 1000 n ≡ true
past_test n past = grind (arith, nat_tests)

pub returns-then-caller-clause-decides : goal.returns-then-caller-clause-decides
returns-then-caller-clause-decides g c = λ usable.
    let other : (c.args.caller.number == npac) ≡ false = search rules in
    decides_refused _ _ _ NotAdmin (λ st refines settled. sets_not_admin
    (g.S.StoreModel.content c.args.store.now) c.args.caller.number (windows_of c.args.windows.now)
    other
    st refines)

pub returns-then-clock-ge-MOST_SETS-clause-decides :
    goal.returns-then-clock-ge-MOST_SETS-clause-decides
returns-then-clock-ge-MOST_SETS-clause-decides g c = λ usable.
    let admin : (c.args.caller.number == npac) ≡ true = search rules in
    let past : 1000 ≤ c.in-Some.clock.present.number = search rules in
    decides_refused _ _ _ Full (λ st refines settled. sets_full
    (g.S.StoreModel.content c.args.store.now) c.args.caller.number (windows_of c.args.windows.now)
    admin (clock_row_of c.in-Some.clock)
    (sym (c.in_ok-clock.ensures.value usable) ∙ ap (option_map clock_row_of) c.in-Some.is)
    (past_test c.in-Some.clock.present.number past) st refines)

pub returns-clause-decides : goal.returns-clause-decides
returns-clause-decides g c = λ usable.
    let old = g.S.StoreModel.content c.args.store.now in
    let admin : (c.args.caller.number == npac) ≡ true = search rules in
    let below : c.in-Some.clock.present.number < 1000 = search rules in
    let next : c.saturating_add.result ≡ c.in-Some.clock.present.number + 1 =
    next_number c.in-Some.clock.present.number c.saturating_add.result below
    c.saturating_add.ensures in
    record {
      refused = tt;
      accepted = λ m changed. subst (λ n. SimulatesSettledStep old m
          (RequestFrom c.args.caller.number
          (CommandRequest (SetWindows (windows_of c.args.windows.now))))
          (Some (WindowsSet c.in-Some.clock.minute.number n))) (sym next)
          (answers_sets old m c.args.caller.number (windows_of c.args.windows.now)
          (clock_row_of c.in-Some.clock) admin
          (sym (c.in_ok-clock.ensures.value usable) ∙ ap (option_map clock_row_of) c.in-Some.is)
          (below_test c.in-Some.clock.present.number below) (windows_are c.args.windows.now)
          (subst (λ d. AppliesChanges d old m)
          (ap (λ (d : Changes). let x : Changes = record d {
            set = Some (record {
              number = c.saturating_add.result;
              windows = windows_of c.args.windows.now;
            });
          } in x) c.requires
          ∙ ap (λ n.
          let set : WindowSet = record { number = n; windows = windows_of c.args.windows.now } in
          let d : Changes = record no_changes { set = Some set } in d) next) changed));
    }
