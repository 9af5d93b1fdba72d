-- The register's answer on the subjects with downloads pending for a carrier.
use Rattle.std.proofs.Common.{◌≡◌, ℕ, Bool, true, false, List, Option, Some, None, refl, sym, ◌∙◌, ap, subst}
use Rattle.numbers.specs.Subjects.{Subject}
use Rattle.model.specs.Content.{Content}
use Rattle.model.specs.declared.refusal.Refusal.{Refusal}
use Rattle.model.specs.declared.refusal.Refusal.TheVariants.{UnknownCarrier}
use Rattle.model.specs.Machine.{Awaited, Refused, out, refused_or}
use Rattle.model.specs.State.{State, is_carrier}
use Rattle.model.specs.Refusals.{QuestionFrom, Waiting, refusal}
use Rattle.model.specs.RefusalNumbers.{number_of}
use Rattle.requests.specs.Calls.{refused_with}
use Rattle.register.specs.Refinement.{SimulatesStep, Refines}
use Rattle.register.proofs.Downloads.Copied.{known_by}
use Rattle.register.proofs.Downloads.Fetched.{may_fetch}
use Rattle.bulk.specs.Findings.{awaited}
use Rattle.register.proofs.Downloads.Awaited.{waiting_by}

answered : (r : Option ℕ) (xs ys : List Subject) → Awaited xs ≡ refused_or r (Awaited ys)
    → (r ≡ None) × (xs ≡ ys)
answered None xs ys e = (refl, cc)
answered (Some k) xs ys e = let f : Awaited xs ≡ Refused k = e in let x : ⊥ = cc in absurd x

pub waits_are : (st : State) (carrier : ℕ) (subjects : List Subject)
    → Awaited subjects ≡ out st (QuestionFrom carrier Waiting) → (subjects ≡ awaited st carrier)
    × (is_carrier st carrier ≡ true)
unfolding out
waits_are st carrier subjects e =
    let answer = answered (refusal st (QuestionFrom carrier Waiting)) subjects (awaited st carrier)
    e in (
      answer.1,
      known_by (is_carrier st carrier) (sym (waiting_by st carrier) ∙ answer.0),
    )

stranger : (known : Bool) (k : ℕ) (ys : List Subject)
    → Refused k ≡ refused_or (may_fetch known) (Awaited ys) → known ≡ false
stranger false k ys e = refl
stranger true k ys e = let f : Refused k ≡ Awaited ys = e in let x : ⊥ = cc in absurd x

is_stranger : (st : State) (carrier k : ℕ) → Refused k ≡ out st (QuestionFrom carrier Waiting)
    → is_carrier st carrier ≡ false
unfolding out
is_stranger st carrier k e =
    stranger (is_carrier st carrier) k (awaited st carrier)
    (e ∙ ap (λ (r : Option ℕ). refused_or r (Awaited (awaited st carrier))) (waiting_by st carrier))

-- The register refused an unknown carrier.
pub stranger_told : (old new : Content) (carrier : ℕ) (refusal : Refusal) → refusal ≡ UnknownCarrier
    → SimulatesStep old new (QuestionFrom carrier Waiting) (refused_with (number_of refusal)) →
    (st : State) → Refines old st → is_carrier st carrier ≡ false
stranger_told old new carrier refusal is answers st refines =
    let told_so =
    subst (λ r. SimulatesStep old new (QuestionFrom carrier Waiting) (refused_with (number_of r)))
    is answers in
    is_stranger st carrier 1 (told_so st refines).0
