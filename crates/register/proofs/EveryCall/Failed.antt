-- A call that ends with a fault of the store, after settling.
use Rattle.std.proofs.Common.{◌≡◌}
use Rattle.std.specs.Prelude.{Result, Err}
use Rattle.model.specs.Content.{Content}
use Rattle.model.specs.declared.refusal.Refusal.{Refusal}
use Rattle.model.specs.declared.refusal.Refusal.TheVariants.{Storage}
use Rattle.settle.specs.Faults.{refusal_of}
use Rattle.settle.specs.StoreContract.{IsAvailable, IsReadOnly, PreservesStore, ReportsStorage}
use Rattle.settle.specs.declared.store_model.StoreModel.{Ghosts}
use Rattle.settle.specs.declared.store.StoreFault.{StoreFault}
use Rattle.settle.specs.declared.store.StoreFault.TheVariants.{Storage as StorageFault}
use Rattle.settle.proofs.Faults.{fault_is_none, same_refusal, storage_by}
use Rattle.settle.proofs.ReadOn.{reads_refused, reads_told}

-- The promises of a call that ends with the fault of its settling.
pub owes_fault : {S X A Q : Type 0} {store : Ghosts S} {before after : S} {c : Content}
    → PreservesStore store before after A (ReportsStorage (store.IsUsable after) c Q)
    → (result : Result X Refusal) (fault : StoreFault) → result ≡ Err (refusal_of fault)
    → (fault ≡ StorageFault → Q)
    → PreservesStore store before after (IsAvailable result)
    (ReportsStorage (store.IsUsable after) c (result ≡ Err Storage))
owes_fault owed result fault is says = record {
  usable = owed.usable;
  honest = owed.honest;
  begins = owed.begins;
  ends = owed.ends;
  stays = λ answered. absurd (fault_is_none result fault is answered);
  rises = owed.rises;
  storage = λ told. owed.storage (record {
    usable = told.usable;
    st = told.st;
    represents = told.represents;
    written = told.written;
    says = says (storage_by result fault is told.says);
  });
}

-- A read-only call that ends with a fault of the store, and is the first of its caller's.
pub reads_failed : {S X A Q : Type 0} {store : Ghosts S} {a b : S} {c : Content}
    → IsReadOnly store a b A Q
    → (result : Result X Refusal) (fault : StoreFault) → result ≡ Err (refusal_of fault)
    → (fault ≡ StorageFault → Q)
    → IsReadOnly store a b (IsAvailable result)
    (ReportsStorage (store.IsUsable b) c (result ≡ Err Storage))
reads_failed read result fault is says = reads_told read
    (λ answered. absurd (fault_is_none result fault is answered))
    (λ told. says (storage_by result fault is told.says))

-- Read-only calls that answered, and a result that is another refusal.
pub reads_judged : {S X A Q : Type 0} {store : Ghosts S} {a b : S} {c : Content} {N : Type 0}
    → IsReadOnly store a b A Q → A → (result : Result X Refusal) (r : Refusal) → result ≡ Err r
    → (r ≡ Storage → ⊥)
    → IsReadOnly store a b N (ReportsStorage (store.IsUsable b) c (result ≡ Err Storage))
reads_judged read found result r is other = reads_refused read found
    (λ told. other (same_refusal r result is told.says))
