-- Read-only calls one after the other.
use Rattle.std.proofs.Common.{◌≡◌, ◌∙◌}
use Rattle.std.specs.Prelude.{⊤, Result, Err}
use Rattle.std.proofs.Math.Nat.{le_trans}
use Rattle.model.specs.Content.{Content}
use Rattle.model.specs.declared.refusal.Refusal.{Refusal}
use Rattle.model.specs.declared.refusal.Refusal.TheVariants.{Storage}
use Rattle.settle.specs.Faults.{refusal_of}
use Rattle.settle.specs.StoreContract.{IsAvailable, IsReadOnly, ReportsStorage}
use Rattle.settle.specs.declared.store_model.StoreModel.{Ghosts}
use Rattle.settle.specs.declared.store.StoreFault.{StoreFault}
use Rattle.settle.specs.declared.store.StoreFault.TheVariants.{Storage as StorageFault}
use Rattle.settle.proofs.Risen.{risen-since}
use Rattle.settle.proofs.Faults.{fault_is_none, storage_by}

module _ {S : Type 0} {store : Ghosts S} {a b : S} where
  -- Weakens when the call answers and when it reports storage.
  pub reads_told : {A P Answers Says : Type 0}
      → IsReadOnly store a b A P → (Answers → A)
      → (Says → P)
      → IsReadOnly store a b Answers Says
  reads_told read answers turn = record {
    same = read.same;
    honest = read.honest;
    begins = read.begins;
    ends = read.ends;
    stays = λ answered. read.stays (answers answered);
    rises = read.rises;
    storage = λ says. read.storage (turn says);
    left = read.left;
  }

  pub reads_saying : {A P Says : Type 0} → IsReadOnly store a b A P
      → (Says → P) → IsReadOnly store a b A Says
  reads_saying read turn = reads_told read (λ answered. answered) turn

  -- A read-only call that answered, and a result that never reports storage.
  pub reads_refused : {A P Answers Says : Type 0}
      → IsReadOnly store a b A P → A → (Says → ⊥)
      → IsReadOnly store a b Answers Says
  reads_refused read found never = reads_told read (λ answered. found) (λ says. absurd (never says))

  -- Two read-only calls, the first of them answered.
  pub reads_past : {d : S} {A P B Q Answers Says : Type 0} →
      IsReadOnly store a b A P → A →
      IsReadOnly store b d B Q → (Answers → B)
      → (Says → Q) →
      IsReadOnly store a d Answers Says
  reads_past {d = d} first found second answers turn = record {
    same = λ usable. let mid = second.same usable in let start = first.same mid.0 in
        (start.0, mid.1 ∙ start.1);
    honest = λ honest. first.honest (second.honest honest);
    begins = λ m inside. first.begins m (second.begins m inside);
    ends = λ usable m inside. second.ends usable m (first.ends (second.same usable).0 m inside);
    stays = λ answered usable honest.
        second.stays (answers answered) (first.stays found usable (second.honest honest)) honest;
    rises = le_trans first.rises second.rises;
    storage = λ says. risen-since (store.failed a) (store.failed b) (store.failed d) first.rises
        second.rises
        (second.storage (turn says));
    left = λ honest m may. first.left (second.honest honest) m (second.left honest m may);
  }

  -- Two read-only calls, both answered.
  pub reads_on : {d : S} {A P B Q : Type 0}
      → IsReadOnly store a b A
      P → A → IsReadOnly store b d B Q → B →
      IsReadOnly store a d ⊤ ⊥
  reads_on first found second answered =
      reads_past first found second (λ it. answered) (λ never. absurd never)

  -- Two read-only calls, and then a fault of the store.
  pub reads_fault : {d : S} {A P B Q : Type 0} {X : Type 0} {c : Content} →
      IsReadOnly store a b A P → A →
      IsReadOnly store b d B Q →
      (result : Result X Refusal) (fault : StoreFault) → result ≡ Err (refusal_of fault) →
      (fault ≡ StorageFault → Q) →
      IsReadOnly store a d (IsAvailable result)
      (ReportsStorage (store.IsUsable d) c (result ≡ Err Storage))
  reads_fault first found second result fault is says = reads_past first found second
      (λ answered. absurd (fault_is_none result fault is answered))
      (λ told. says (storage_by result fault is told.says))

  -- Two read-only calls, the first of them answered, with what the second reports weakened.
  pub reads_then : {d : S} {A P B Q Says : Type 0}
      → IsReadOnly store
      a b A P → A → IsReadOnly store b d B Q
      → (Says → Q) →
      IsReadOnly store a d B Says
  reads_then first found second turn =
      reads_past first found second (λ answered. answered) turn
