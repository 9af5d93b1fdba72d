-- What a command on a block reads, and how it is refused, over contents.
use Rattle.std.proofs.Common.{arith, ◌≡◌, ◌≤◌, ℕ, Bool, true, false, not, ◌&&◌, ◌||◌, inl, inr, List, Option, Some, refl, ap, sym, ◌∙◌, subst}
use Rattle.std.specs.Prelude.{◌==◌, ◌≢◌, nat_lt, is_some, Result, Err}
use Rattle.std.specs.FinMap.{get}
use Rattle.std.proofs.lemmas.Bool.Decides.{nat_tests}
use Rattle.model.specs.Commands.{Command, Donate, Assign, Release}
use Rattle.model.specs.Conditions.{limit}
use Rattle.model.specs.Content.{Content, ClockRow}
use Rattle.model.specs.History.{CommandRequest}
use Rattle.model.specs.Machine.{Reply}
use Rattle.model.specs.State.{State, is_carrier}
use Rattle.model.specs.RefusalNumbers.{number_of}
use Rattle.model.specs.Refusals.{RequestFrom, npac, refusal, holds_at, own_tests}
use Rattle.model.specs.declared.refusal.Refusal.{Refusal}
use Rattle.model.specs.declared.refusal.Refusal.TheVariants.{NoMemory}
use Rattle.pool.specs.declared.facts.BlockFacts.{BlockFacts}
use Rattle.requests.specs.Calls.{refused_with, replied}
use Rattle.register.specs.declared.blocks.BlockRead.{BlockRead}
use Rattle.register.specs.Refinement.{Refines}
use Rattle.register.specs.Blocks.{AreBlockFacts, IsBlockFound, IsBlockLookupRefused, IsBlockRead, is_routing_good}
use Rattle.register.specs.Settling.{SimulatesSettledStep, AreSettled}
use Rattle.register.proofs.EveryCall.Composed.{answers_refused_same, answers_without, first_refusal}

-- ---- carriers

carrier_is : (st : State) (old : Content) → Refines old st → (k : ℕ) (b : Bool)
    → b ≡ is_some (get old.carriers k) → is_carrier st k ≡ b
carrier_is st old refines k b is = sym (refines.represents.carriers k) ∙ sym is

-- The donor is unknown if it is not registered.
pub donor_unknown : (st : State) (old : Content) (caller block : ℕ) (used : List ℕ) (lrn : ℕ)
    (cic : Option ℕ) → Refines old st → (known : Bool) → known ≡ is_some (get old.carriers caller) →
    holds_at 1 (own_tests st caller (Donate block used lrn cic)) ≡ not known
donor_unknown st old caller block used lrn cic refines known is =
    ap not (carrier_is st old refines caller known is)

-- The holder is unknown if it is not registered.
pub holder_unknown : (st : State) (old : Content) (caller block holder lrn : ℕ) (cic : Option ℕ)
    → Refines old st → (known : Bool) → known ≡ is_some (get old.carriers holder) →
    holds_at 1 (own_tests st caller (Assign block holder lrn cic)) ≡ not known
holder_unknown st old caller block holder lrn cic refines known is =
    ap not (carrier_is st old refines holder known is)

-- The releaser is unknown if it is neither registered nor the administrator.
pub releaser_unknown : (st : State) (old : Content) (caller block : ℕ) → Refines old st
    → (known : Bool) → known ≡ ((caller == npac) || is_some (get old.carriers caller)) →
    holds_at 1 (own_tests st caller (Release block)) ≡ not known
releaser_unknown st old caller block refines known is =
    ap (λ b. not b && not (caller == npac)) (sym (refines.represents.carriers caller))
    ∙ by_cases (is_some (get old.carriers caller)) (caller == npac) ∙ ap not (sym is)
  where
    by_cases : (b c : Bool) → (not b && not c) ≡ not (c || b)
    by_cases true true = refl
    by_cases true false = refl
    by_cases false true = refl
    by_cases false false = refl

-- ---- refusals of carriers

-- The answer when no block was found.
pub answers_unfound : {A : Type 0} (old new : Content) (caller : ℕ) (command : Command)
    (is_known : Bool) (seen : A → Reply) (result : Result A Refusal) (r : Refusal) →
    result ≡ Err r → new ≡ old → IsBlockLookupRefused is_known r →
    ((st : State) → Refines old st → holds_at 1 (own_tests st caller command)
    ≡ not is_known) →
    SimulatesSettledStep old new (RequestFrom caller (CommandRequest command)) (replied seen result)
answers_unfound old new caller command is_known seen result r is same vain unknown =
    subst (λ x. SimulatesSettledStep old new (RequestFrom caller (CommandRequest command))
    (replied seen x))
    (sym is) (by_cases vain)
  where
    by_cases : IsBlockLookupRefused is_known r
        → SimulatesSettledStep old new (RequestFrom caller (CommandRequest command))
        (replied seen (Err r))
    by_cases (inl (its, stranger)) =
        subst (λ x. SimulatesSettledStep old new (RequestFrom caller (CommandRequest command))
        (replied seen (Err x))) (sym its)
        (answers_refused_same old new (RequestFrom caller (CommandRequest command)) 1 same
        (λ st refines settled. first_refusal st caller command (unknown st refines
        ∙ ap not stranger)))
    by_cases (inr past) = answers_without old new (RequestFrom caller (CommandRequest command))
        (number_of r) past
        same

-- ---- ids

pub not_past : (n : ℕ) → nat_lt limit n ≡ false → n ≤ limit
not_past n below = grind (arith, nat_tests)

-- ---- the contents that were read

pub record HasFound (old : Content) (caller block : ℕ) (command : Command) (clock : ClockRow)
    (read : BlockRead) (facts : BlockFacts) : Type 0 where
  pub known : (st : State) → Refines old st → holds_at 1 (own_tests st caller command)
      ≡ false
  pub clock_is : old.clock ≡ Some clock
  pub is_read : IsBlockRead old block read
  pub are : AreBlockFacts read (is_routing_good old caller command) clock.next_id facts

-- The block was read of a content equal to the old one.
pub has_found : (old mid : Content) (caller block : ℕ) (command : Command) (clock : ClockRow)
    (read : BlockRead) (facts : BlockFacts) (is_known good : Bool) →
    mid ≡ old → IsBlockFound mid is_known block clock read → ((st : State) → Refines old st
    → holds_at 1 (own_tests st caller command) ≡ not is_known) →
    good ≡ is_routing_good old caller command → AreBlockFacts read good clock.next_id facts
    → HasFound old caller block command clock read facts
has_found old mid caller block command clock read facts is_known good same found unknown is are =
    let here = subst (λ (m : Content). IsBlockFound m is_known block clock read) same found in
    record {
      known = λ st refines. unknown st refines ∙ ap not here.known;
      clock_is = here.clock_is;
      is_read = here.is_read;
      are = subst (λ b. AreBlockFacts read b clock.next_id facts) is are;
    }

-- ---- refusals by the facts

-- A refusal of the machine, or an allocation failure.
pub answers_or_no_memory : {A : Type 0} (old new : Content) (caller : ℕ) (command : Command)
    (seen : A → Reply) (result : Result A Refusal) (r : Refusal) (o : Option ℕ) → result ≡ Err r
    → new ≡ old →
    (r ≢ NoMemory → o ≡ Some (number_of r)) →
    ((st : State) → Refines old st → AreSettled old st (RequestFrom caller (CommandRequest command))
    → refusal st (RequestFrom caller (CommandRequest command)) ≡ o) →
    SimulatesSettledStep old new (RequestFrom caller (CommandRequest command)) (replied seen result)
answers_or_no_memory old new caller command seen result r o is same says refused =
    subst (λ x. SimulatesSettledStep old new (RequestFrom caller (CommandRequest command))
    (replied seen x))
    (sym is) (by_cases (nat_lt (number_of r) 29) refl)
  where
    machines : nat_lt (number_of r) 29 ≡ true → r ≢ NoMemory
    machines below none = let past : true ≡ false =
        sym below ∙ ap (λ x. nat_lt (number_of x) 29) none in cc

    by_cases : (b : Bool) → nat_lt (number_of r) 29 ≡ b
        → SimulatesSettledStep old new (RequestFrom caller (CommandRequest command))
        (refused_with (number_of r))
    by_cases true below = answers_refused_same old new (RequestFrom caller (CommandRequest command))
        (number_of r)
        same (λ st refines settled. refused st refines settled ∙ says (machines below))
    by_cases false past = answers_without old new (RequestFrom caller (CommandRequest command))
        (number_of r) past
        same
