-- A move of the clock, over contents.
use Rattle.std.proofs.Common.{◌≡◌, ◌≤◌, ◌<◌, ℕ, true, false, Some, None, refl, ap, sym, ◌∙◌, subst, arith}
use Rattle.std.specs.Prelude.{nat_lt, is_some, if◌then◌else◌, Result, Err}
use Rattle.std.proofs.lemmas.Bool.Decides.{nat_tests}
use Rattle.model.specs.Conditions.{limit}
use Rattle.model.specs.Content.{ClockRow, Content}
use Rattle.model.specs.Machine.{Reply, Refused, Moved, accepted, out, next}
use Rattle.model.specs.State.{State}
use Rattle.model.specs.Refusals.{Input, ClockMoment, refusal, tests}
use Rattle.model.specs.declared.refusal.Refusal.{Refusal}
use Rattle.model.specs.RefusalNumbers.{number_of}
use Rattle.settle.specs.Changes.{AppliesChanges, no_changes}
use Rattle.settle.specs.Faults.{refusal_of}
use Rattle.settle.specs.declared.store.StoreFault.{StoreFault}
use Rattle.settle.specs.declared.store.StoreFault.TheVariants.{Storage, NoMemory}
use Rattle.settle.proofs.Moved.{moved-represents}
use Rattle.settle.proofs.Settled.{clock_minute}
use Rattle.register.specs.Refinement.{Refines, SimulatesStep}
use Rattle.requests.specs.Calls.{refused_with, replied}
use Rattle.register.proofs.Records.Touched.{clock-written}

refused_by : (st : State) (m : ℕ) → refusal st (ClockMoment m) ≡ (if nat_lt m st.now then Some 27
    else None)
unfolding tests
refused_by st m = refl

module _ (old new : Content) (clock : ClockRow) (m : ℕ) (is : old.clock ≡ Some clock) where
  the_minute : (st : State) → Refines old st → clock.minute ≡ st.now
  the_minute st refines = clock_minute st old clock refines.represents is

  taken : (st : State) → Refines old st → clock.minute ≤ m → refusal st (ClockMoment m) ≡ None
  taken st refines up =
      let now : clock.minute ≡ st.now = the_minute st refines in
      let not_back : nat_lt m st.now ≡ false = grind (arith, nat_tests) in
      refused_by st m ∙ ap (λ b. if b then Some 27 else None) not_back

  pub answers_back : new ≡ old → m < clock.minute
      → SimulatesStep old new (ClockMoment m) (Some (Refused 27))
  unfolding out next
  answers_back same back = λ st refines.
      let now : clock.minute ≡ st.now = the_minute st refines in
      let before : nat_lt m st.now ≡ true = grind (arith, nat_tests) in
      let refused : refusal st (ClockMoment m) ≡ Some 27 =
      refused_by st m ∙ ap (λ b. if b then Some 27
      else None) before in
      (rw refused refl, rw refused (subst (λ c. Refines c st) (sym same) refines))

  pub answers_moved : clock.minute ≤ m → m < limit → AppliesChanges (record no_changes {
    clock = Some (record { minute = m; next_id = clock.next_id });
  }) old new → SimulatesStep old new (ClockMoment m) (Some (Moved m))
  unfolding out next
  answers_moved up before_limit changed = λ st refines.
      let passes : refusal st (ClockMoment m) ≡ None = taken st refines up in (
        rw passes refl,
        rw passes (record {
          represents =
              moved-represents st old new clock m refines.represents is
              (subst (λ k. k ≤ m) (the_minute st refines) up) before_limit changed;
          written = ap is_some changed.clock ∙ clock-written
              (Some (record { minute = m; next_id = clock.next_id })) None old.clock
              refines.written;
        }),
      )

  pub answers_stays : new ≡ old → m ≡ clock.minute
      → SimulatesStep old new (ClockMoment m) (Some (Moved m))
  unfolding out next
  answers_stays same this = λ st refines.
      let passes : refusal st (ClockMoment m) ≡ None = taken st refines (omega (arith, this)) in (
        rw passes refl,
        rw passes (subst (λ c. Refines c (accepted st (ClockMoment m))) (sym same)
            (subst (λ k. Refines old (record st { now = k })) (sym (this ∙ the_minute st refines))
            refines)),
      )

-- A call that ends with a fault of the store.
pub means_fault : {A : Type 0} (old new : Content) (input : Input) (seen : A
    → Reply) (result : Result A Refusal) (fault : StoreFault) → result ≡ Err (refusal_of fault) →
    ((st : State) → Refines old st → Refines new st)
    → SimulatesStep old new input (replied seen result)
means_fault old new input seen result fault is stays =
    subst (λ r. SimulatesStep old new input (replied seen r)) (sym is) (by_cases fault)
  where
    by_cases : (f : StoreFault)
        → SimulatesStep old new input (refused_with (number_of (refusal_of f)))
    by_cases Storage = stays
    by_cases NoMemory = stays

-- A call that is refused as the call is that it makes.
pub refused_as : {A : Type 0} (old new : Content) (input made : Input) (seen : A → Reply)
    (result : Result A Refusal) (refusal : Refusal) → result ≡ Err refusal → input ≡ made
    → SimulatesStep old new made (refused_with (number_of refusal))
    → SimulatesStep old new input (replied seen result)
refused_as old new input made seen result refusal is same answers =
    subst (λ r. SimulatesStep old new input (replied seen r)) (sym is)
    (subst (λ i. SimulatesStep old new i (refused_with (number_of refusal))) (sym same) answers)

pub keeps_fault : {A : Type 0} (old new : Content) (input : Input) (seen : A
    → Reply) (result : Result A Refusal) (fault : StoreFault) → result ≡ Err (refusal_of fault)
    → new ≡ old → SimulatesStep old new input (replied seen result)
keeps_fault old new input seen result fault is same =
    means_fault old new input seen result fault is (λ st refines. subst (λ c. Refines c st)
    (sym same)
    refines)
