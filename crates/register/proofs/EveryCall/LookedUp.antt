-- The answers after a version was looked up, found or not.
use Rattle.std.proofs.Common.{◌≡◌, ℕ, Bool, true, false, inl, inr, None, refl, ap, sym, ◌∙◌, subst}
use Rattle.std.specs.Prelude.{Result, Err}
use Rattle.model.specs.State.{State}
use Rattle.model.specs.declared.refusal.Refusal.TheVariants.{Storage}
use Rattle.settle.specs.StoreContract.{IsAvailable, IsReadOnly}
use Rattle.settle.proofs.Faults.{same_refusal}
use Rattle.settle.proofs.ReadOn.{reads_told}
use Rattle.register.specs.Refinement.{Refines}
use Rattle.std.specs.FinMap.{get}
use Rattle.model.specs.Content.{ClockRow, Content}
use Rattle.model.specs.Windows.{Windows}
use Rattle.settle.specs.declared.rows.VersionRow.{VersionRow}
use Rattle.model.specs.Machine.{Reply}
use Rattle.model.specs.Refusals.{Input}
use Rattle.model.specs.declared.refusal.Refusal.{Refusal}
use Rattle.requests.specs.Calls.{refused_with, replied, reply_of}
use Rattle.register.specs.Deciding.{Decides}
use Rattle.register.specs.Looking.{HasHeldSet, IsLookedUp, IsLookupRefused}
use Rattle.register.specs.Settling.{SimulatesSettledStep, AreSettled, ReportsOnceSettled}
use Rattle.settle.specs.Changes.{Changes}
use Rattle.settle.specs.declared.store_model.StoreModel.{Ghosts}
use Rattle.requests.specs.declared.call.Reply.{Reply as ReplyImpl}
use Rattle.register.proofs.EveryCall.Composed.{answers_without}
use Rattle.register.proofs.EveryCall.Deciding.{decides_replied}

pub looked_up_before : (old mid : Content) (is_known : Bool) (id : ℕ) (clock : ClockRow)
    (row : VersionRow) (held : Windows) → mid ≡ old →
    IsLookedUp mid is_known id clock row held → IsLookedUp old is_known id clock row held
looked_up_before old mid is_known id clock row held same found =
    subst (λ m. IsLookedUp m is_known id clock row held) same found

-- The answer by the refusals of an unknown caller and of an id without a version.
pub answers_in_vain : {A : Type 0} (old mid new : Content) (input : Input) (is_known : Bool)
    (id : ℕ) (seen : A → Reply) (result : Result A Refusal) (r : Refusal) →
    result ≡ Err r → mid ≡ old → new ≡ mid → IsLookupRefused mid is_known id r →
    (is_known ≡ false → SimulatesSettledStep old new input (refused_with 1)) →
    (is_known ≡ true → get old.versions id ≡ None
    → SimulatesSettledStep old new input (refused_with 10))
    →
    SimulatesSettledStep old new input (replied seen result)
answers_in_vain old mid new input is_known id seen result r is before_limit late vain unknown
    missing =
    subst (λ x. SimulatesSettledStep old new input (replied seen x)) (sym is)
    (by_cases (subst (λ m. IsLookupRefused m is_known id r) before_limit vain))
  where
    by_cases : IsLookupRefused old is_known id r
        → SimulatesSettledStep old new input (replied seen (Err r))
    by_cases (inl (its, stranger)) =
        subst (λ x. SimulatesSettledStep old new input (replied seen (Err x))) (sym its)
        (unknown stranger)
    by_cases (inr (inl (its, registered, none))) =
        subst (λ x. SimulatesSettledStep old new input (replied seen (Err x))) (sym its)
        (missing registered none)
    by_cases (inr (inr past)) = answers_without old new input _ past (late ∙ before_limit)

-- The decision by these refusals, before anything is written and if nothing else was read.
pub decides_in_vain : (old : Content) (input : Input) (changes : Changes) (is_known : Bool)
    (id : ℕ) (result : Result ReplyImpl Refusal) (r : Refusal) → result ≡ Err r
    → IsLookupRefused old is_known id r
    → (is_known ≡ false → SimulatesSettledStep old old input (refused_with 1))
    → (is_known ≡ true → get old.versions id ≡ None → SimulatesSettledStep old old input
    (refused_with 10)) → Decides old input changes result
decides_in_vain old input changes is_known id result r is vain unknown missing =
    decides_replied old input changes result r is
    (answers_in_vain old old old input is_known id reply_of result r is refl refl vain unknown
    missing)

-- The look-up that was refused only reads.
module _ {S : Type 0} {store : Ghosts S} {a b : S} where
  pub reads_in_vain : {A B : Type 0} {old : Content} {id : ℕ} {input : Input} (r : Refusal)
      (result : Result A Refusal) → result ≡ Err r
      → IsReadOnly store a b
      (IsAvailable {A = B} (Err r))
      (store.IsUsable b × HasHeldSet old id × (◌≡◌ {A = Result B Refusal} (Err r) (Err Storage)))
      → ((st : State) → Refines old st → AreSettled old st input → HasHeldSet old id)
      → IsReadOnly store a b (IsAvailable result)
      (ReportsOnceSettled (store.IsUsable b) old input (result ≡ Err Storage))
  reads_in_vain r result is read held = reads_told read (subst IsAvailable is)
      (λ says. (
        says.usable,
        held says.st says.refines says.settled,
        ap Err (same_refusal r result is says.says),
      ))
