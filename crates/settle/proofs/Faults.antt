-- A fault of the store, and the refusal that reports it.
use Rattle.std.proofs.Common.{◌≡◌, refl, sym, ◌∙◌, subst}
use Rattle.std.specs.Prelude.{Result, Err}
use Rattle.model.specs.declared.refusal.Refusal.{Refusal}
use Rattle.model.specs.declared.refusal.Refusal.TheVariants.{NoMemory, Storage}
use Rattle.settle.specs.Faults.{refusal_of}
use Rattle.settle.specs.StoreContract.{IsAvailable}
use Rattle.settle.specs.declared.store.StoreFault.{StoreFault}
use Rattle.settle.specs.declared.store.StoreFault.TheVariants.{Storage as StorageFault, NoMemory as NoMemoryFault}

-- A result that reports the store's fault is no answer.
pub fault_is_none : {A : Type 0} (result : Result A Refusal) (fault : StoreFault)
    → result ≡ Err (refusal_of fault) → ¬ IsAvailable result
fault_is_none {A = A} result fault is answered =
    by_cases fault (subst (λ r. IsAvailable {A = A} r) is answered)
  where
    by_cases : (f : StoreFault) → ¬ IsAvailable {A = A} (Err (refusal_of f))
    by_cases StorageFault none = none.0 refl
    by_cases NoMemoryFault none = none.1 refl

-- A fault that is reported as `Storage` is the storage fault.
pub storage_by : {A : Type 0} (result : Result A Refusal) (fault : StoreFault)
    → result ≡ Err (refusal_of fault) → result ≡ Err Storage → fault ≡ StorageFault
storage_by result StorageFault is said = refl
storage_by result NoMemoryFault is said = let never : Err Storage ≡ Err NoMemory = sym said ∙ is in
    cc

pub same_refusal : {A : Type 0} (r : Refusal) (result : Result A Refusal) → result ≡ Err r
    → result ≡ Err Storage → r ≡ Storage
same_refusal r result is said = let same : Err r ≡ Err Storage = sym is ∙ said in cc
